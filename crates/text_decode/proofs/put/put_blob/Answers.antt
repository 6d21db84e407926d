use Prim.Native.Nat.{ℕ}
use mathlib.Core.Path.{ap, ◌∙◌}
use native.Mathlib.Omega.{arith}
use lib.ListN.{drop}
use Rattle.digits.specs.Decimal.{decimal_at}
use Rattle.text_decode.proofs.Knowns.{of-got}
use Rattle.text_decode.proofs.Copies.{blob-start, blob-inside, blob-byte, blob-room, blob-known, blob-next, blob-done}
use Rattle.text_decode.proofs.put.put_blob.Goals as goal

pub loop-pos-init : goal.loop-pos-init
loop-pos-init c =
    let a = c.args in
    blob-start a.text.now a.at a.used a.store.now c.requires.there

pub bounds-text-pos : goal.bounds-text-pos
bounds-text-pos c = blob-inside c.loop-pos.invariant

pub behind_gap-requires : goal.behind_gap-requires
behind_gap-requires c = omega (arith, blob-inside c.loop-pos.invariant)

pub known_byte-byte-requires : goal.known_byte-byte-requires
known_byte-byte-requires c =
    let t = blob-byte c.loop-pos.invariant c.loop-pos-test.true in
    of-got (ap (λ (k : ℕ). decimal_at 255 (drop k c.args.text.now)) (c.behind_gap.ensures ∙ t.from) ∙ t.there)

pub overflow_cast-store : goal.overflow_cast-store
overflow_cast-store c =
    let t = blob-byte c.loop-pos.invariant c.loop-pos-test.true in
    omega (arith, t.small, (blob-known t c.behind_gap.ensures c.known_byte-byte.ensures).0)

pub bounds-store-end : goal.bounds-store-end
bounds-store-end c =
    let x = c.loop-pos.invariant in
    blob-room x (blob-byte x c.loop-pos-test.true) c.requires.room

pub overflow_add-end : goal.overflow_add-end
overflow_add-end c =
    let x = c.loop-pos.invariant in
    let r = blob-room x (blob-byte x c.loop-pos-test.true) c.requires.room in
    omega (arith, r, x.copying.left.size)

pub loop-pos-smaller : goal.loop-pos-smaller
loop-pos-smaller c =
    let t = blob-byte c.loop-pos.invariant c.loop-pos-test.true in
    omega (arith, t.fits, t.some-chars, (blob-known t c.behind_gap.ensures c.known_byte-byte.ensures).1)

pub loop-pos-preserved : goal.loop-pos-preserved
loop-pos-preserved c =
    let x = c.loop-pos.invariant in
    let t = blob-byte x c.loop-pos-test.true in
    let r = blob-known t c.behind_gap.ensures c.known_byte-byte.ensures in
    blob-next x t r.0 r.1

pub overflow_add-result : goal.overflow_add-result
overflow_add-result c = omega (arith, blob-inside c.loop-pos.invariant)

pub shape_of-store : goal.shape_of-store
shape_of-store c = c.loop-pos.invariant.copying.left.size

pub returns : goal.returns
returns c = blob-done c.loop-pos.invariant c.loop-pos-test.false
