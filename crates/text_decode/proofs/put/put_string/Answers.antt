use native.Mathlib.Omega.{arith}
use lib.ListN.{drop}
use Rattle.text.specs.Read.{chars_at}
use Rattle.text_decode.proofs.Knowns.{of-got, known_is}
use Rattle.text_decode.proofs.Copies.{chars_inside, copying-start, copying-got, copying-room, copying-done, string-turn, string-next, string-end}
use Rattle.text_decode.proofs.put.put_string.Goals as goal

pub loop-pos-init : goal.loop-pos-init
loop-pos-init c =
    let a = c.args in
    copying-start (chars_at 0 (drop a.at a.text.now)) a.at a.used a.store.now c.requires.there

pub bounds-text-pos : goal.bounds-text-pos
bounds-text-pos c =
    chars_inside c.args.text.now c.loop-pos.pos (copying-got c.loop-pos.invariant)

pub known_char-char-requires : goal.known_char-char-requires
known_char-char-requires c =
    let t = string-turn c.args.text.now c.loop-pos.pos c.loop-pos-test.true (copying-got c.loop-pos.invariant) in
    of-got t.there

pub overflow_cast-store : goal.overflow_cast-store
overflow_cast-store c =
    let t = string-turn c.args.text.now c.loop-pos.pos c.loop-pos-test.true (copying-got c.loop-pos.invariant) in
    omega (arith, t.small, (known_is c.known_char-char.ensures t.b t.size t.there).0)

pub bounds-store-end : goal.bounds-store-end
bounds-store-end c =
    let t = string-turn c.args.text.now c.loop-pos.pos c.loop-pos-test.true (copying-got c.loop-pos.invariant) in
    copying-room c.loop-pos.invariant _ _ _ t.turn c.requires.room

pub overflow_add-end : goal.overflow_add-end
overflow_add-end c =
    let t = string-turn c.args.text.now c.loop-pos.pos c.loop-pos-test.true (copying-got c.loop-pos.invariant) in
    omega (arith, copying-room c.loop-pos.invariant _ _ _ t.turn c.requires.room, c.loop-pos.invariant.left.size)

pub loop-pos-smaller : goal.loop-pos-smaller
loop-pos-smaller c =
    let t = string-turn c.args.text.now c.loop-pos.pos c.loop-pos-test.true (copying-got c.loop-pos.invariant) in
    omega (arith, t.fits, t.some-chars, (known_is c.known_char-char.ensures t.b t.size t.there).1)

pub loop-pos-preserved : goal.loop-pos-preserved
loop-pos-preserved c =
    let t = string-turn c.args.text.now c.loop-pos.pos c.loop-pos-test.true (copying-got c.loop-pos.invariant) in
    let r = known_is c.known_char-char.ensures t.b t.size t.there in
    string-next c.loop-pos.invariant t r.0 r.1

pub overflow_add-result : goal.overflow_add-result
overflow_add-result c =
    omega (arith, chars_inside c.args.text.now c.loop-pos.pos (copying-got c.loop-pos.invariant))

pub shape_of-store : goal.shape_of-store
shape_of-store c = c.loop-pos.invariant.left.size

pub returns : goal.returns
returns c =
    copying-done c.loop-pos.invariant (string-end c.args.text.now c.loop-pos.pos c.loop-pos-test.false)
