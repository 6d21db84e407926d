use Rattle.std.proofs.Common.{◌≡◌, ℕ, ◌<◌, get_or, sym, refl, ap, ◌∙◌, ⊎_elim, eq-or-lt_of_le, arith, List, ◌≤◌, length}
use Rattle.wire.specs.Zero.{has_zero, zero_at}
use Rattle.wire.proofs.Zeros.{zero-passed, zero-first, zero-there}
use Rattle.packet_line.proofs.state.first_zero.Goals as goal

short : (s : List ℕ) (i : ℕ) → i ≤ zero_at s → zero_at s < length s → (get_or s i 0 ≡ 0 → ⊥) → i < zero_at s
short s i w h n =
    ⊎_elim
    (λ (e : i ≡ zero_at s). absurd (n (ap (λ (n : ℕ). get_or s n 0) e ∙ zero-there s h)))
    (λ (h : i < zero_at s). h)
    (eq-or-lt_of_le w)

pub loop-i-init : goal.loop-i-init
unfolding has_zero
loop-i-init c = (omega arith, refl)

pub bounds-s-i : goal.bounds-s-i
bounds-s-i c = omega (arith, c.loop-i.invariant.0, c.requires)

pub loop-i-smaller : goal.loop-i-smaller
loop-i-smaller c = let h = short _ _ c.loop-i.invariant.0 c.requires c.loop-i-test.true in omega (arith, h)

pub loop-i-preserved : goal.loop-i-preserved
loop-i-preserved c =
    let h = short _ _ c.loop-i.invariant.0 c.requires c.loop-i-test.true in
    (omega (arith, h), zero-passed c.args.s.now c.loop-i.i (omega (arith, h, c.requires)) c.loop-i.invariant.1 c.loop-i-test.true)

pub returns : goal.returns
returns c =
    sym (zero-first c.args.s.now c.loop-i.i (omega (arith, c.loop-i.invariant.0, c.requires)) c.loop-i.invariant.1 c.loop-i-test.false)
