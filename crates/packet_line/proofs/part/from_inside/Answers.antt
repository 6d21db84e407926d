-- `from_inside` keeps bytes that are fewer than wanted, and completes the part with enough.
use Rattle.std.proofs.Common.{◌≡◌, ℕ, ◌-◌, List, ◌++◌, length, get_or, take, drop, ap, ◌∙◌, arith, take-append-drop, length-take-le}
use Rattle.packet_line.specs.State.{inside, size_in, held_in}
use Rattle.packet_line.specs.Push.{outcome_of, taken_from}
use Rattle.packet_line.proofs.Areas.{inside-area}
use Rattle.packet_line.proofs.part.from_inside.Goals as goal

pub bounds-line-3 : goal.bounds-line-3
bounds-line-3 c = omega (arith, (inside-area _ c.requires.0).long)

pub overflow_cast-wanted : goal.overflow_cast-wanted
overflow_cast-wanted c = omega (arith, (inside-area _ c.requires.0).part.most)

pub bounds-line-1 : goal.bounds-line-1
bounds-line-1 c = omega (arith, (inside-area _ c.requires.0).long)

pub overflow_sub-wanted : goal.overflow_sub-wanted
overflow_sub-wanted c = let a = inside-area _ c.requires.0 in omega (arith, a.count, a.part.fewer)

pub within-requires : goal.within-requires
within-requires c = (c.requires.0, omega (arith, (inside-area _ c.requires.0).count, c.if-bytes-wanted.true))

pub returns-then-bytes-wanted : goal.returns-then-bytes-wanted
returns-then-bytes-wanted c = c.within.ensures c.args.packet.now

pub through-requires : goal.through-requires
through-requires c =
    let line = c.args.line.now in
    let bytes = c.args.bytes.now in
    let a = inside-area _ c.requires.0 in
    let n = get_or line 3 0 - get_or line 1 0 in
    let z : n - 0 ≡ n = omega arith in
    let l : length (take n bytes) ≡ n = length-take-le n bytes c.if-bytes-wanted.false in
    (c.requires.0, rw z (omega (arith, a.count, a.part.fewer)), c.requires.1)

pub returns : goal.returns
returns c =
    let line = c.args.line.now in
    let bytes = c.args.bytes.now in
    let n = get_or line 3 0 - get_or line 1 0 in
    let z : n - 0 ≡ n = omega arith in
    let e : take (n - 0) bytes ++ drop n bytes ≡ bytes = rw z (take-append-drop n bytes) in
    c.through.ensures (drop n bytes) ∙ ap (λ (l : List ℕ). outcome_of (taken_from (inside (size_in line) (held_in line)) l) c.args.packet.now) e
