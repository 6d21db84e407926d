use Prim.Native.Nat.{ℕ, ◌+◌, ◌-◌, ◌≤◌, ◌<◌}
use mathlib.Core.Path.{◌≡◌, ap, ◌∙◌}
use mathlib.Core.Bool.{false}
use mathlib.Core.List.{List, ◌++◌}
use native.Mathlib.Omega.{arith}
use lib.ListN.{length, get_or, set, take, drop}
use borrow.Author.Rules.{rules}
use Rattle.wire.specs.Area.{put_at}
use Rattle.wire.specs.Zero.{has_zero}
use Rattle.packet.specs.Cobs.{decoded_part}
use Rattle.packet.proofs.Zeros.{zero-at}
use Rattle.packet.proofs.Walks.{Fill, copied, copied-length, copied_behind, fill_start, fill-next, fill_one, fill-again, fill_on, fill_end}
use Rattle.packet.proofs.cobs.decode_part.Goals as goal

the_copy : (e out₀ out : List ℕ) → out ≡ put_at out₀ 0 (take (length e - 1) (drop 1 e)) → length e - 1 ≤ length out₀ → out ≡ drop 1 e ++ drop (length e - 1) out₀
the_copy e out₀ out w r = w ∙ copied e out₀ r

-- one code further on
stepped : (e out₀ out : List ℕ) (i : ℕ) → has_zero e ≡ false → Fill e out₀ out i → i < length e → Fill e out₀ (set out (i - 1) 0) (i + get_or e i 0)
stepped e out₀ out i z f h = fill-next e out₀ out i f h (zero-at e i z h)

-- and past codes 1 in a row
passed : (e out₀ out₁ out : List ℕ) (i j : ℕ) → has_zero e ≡ false → Fill e out₀ out₁ i → i < length e → Fill e (set out₁ (i - 1) 0) out j → Fill e out₀ out j
passed e out₀ out₁ out i j z f h g = fill_on e out₀ _ out _ j (stepped e out₀ out₁ i z f h) g

less : (e : List ℕ) (i j : ℕ) → has_zero e ≡ false → i < length e → i + get_or e i 0 ≤ j → length e - j < length e - i
less e i j z h k = omega (arith, zero-at e i z h)

pub loop-i-init : goal.loop-i-init
loop-i-init c =
    let e = c.args.part.now in
    fill_start e c.args.message.now _ (the_copy e _ _ c.copy_at.ensures c.requires.3) c.requires.0 c.requires.3 (zero-at e 0 c.requires.2 (search rules))

pub overflow_sub-message : goal.overflow_sub-message
overflow_sub-message c = c.loop-i.invariant.past

pub bounds-message-i : goal.bounds-message-i
bounds-message-i c = let f = c.loop-i.invariant in omega (arith, f.past, f.room, f.long)

pub loop-i-2-init : goal.loop-i-2-init
loop-i-2-init c =
    (fill-again _ _ _ _ (stepped c.args.part.now _ c.loop-i.message c.loop-i.i c.requires.2 c.loop-i.invariant (search rules)), omega arith)

pub loop-i-smaller-else-part-i-eq1 : goal.loop-i-smaller-else-part-i-eq1
loop-i-smaller-else-part-i-eq1 c = less c.args.part.now c.loop-i.i c.loop-i-2.i c.requires.2 (search rules) c.loop-i-2.invariant.1

pub loop-i-preserved-else-part-i-eq1 : goal.loop-i-preserved-else-part-i-eq1
loop-i-preserved-else-part-i-eq1 c =
    passed c.args.part.now _ c.loop-i.message _ c.loop-i.i c.loop-i-2.i c.requires.2 c.loop-i.invariant (search rules) c.loop-i-2.invariant.0

pub overflow_sub-message-in-loop-i-2 : goal.overflow_sub-message-in-loop-i-2
overflow_sub-message-in-loop-i-2 c = c.loop-i-2.invariant.0.past

pub bounds-message-i-in-loop-i-2 : goal.bounds-message-i-in-loop-i-2
bounds-message-i-in-loop-i-2 c = let f = c.loop-i-2.invariant.0 in omega (arith, f.past, f.room, f.long)

pub loop-i-2-preserved : goal.loop-i-2-preserved
loop-i-2-preserved c = (fill_one _ _ c.loop-i-2.message c.loop-i-2.i c.loop-i-2.invariant.0 (search rules) c.if-part-i-eq1.true, omega (arith, c.loop-i-2.invariant.1))

pub shape_of-message : goal.shape_of-message
shape_of-message c =
    let e = c.args.part.now in
    c.loop-i.invariant.long ∙ copied-length e c.args.message.now _ (the_copy e _ _ c.copy_at.ensures c.requires.3) c.requires.0 c.requires.3

pub returns : goal.returns
returns c =
    let e = c.args.part.now in
    fill_end e _ _ _ c.loop-i.invariant c.loop-i-test.false
    ∙ ap (λ (t : List ℕ). decoded_part e ++ t) (copied_behind e c.args.message.now _ (the_copy e _ _ c.copy_at.ensures c.requires.3) c.requires.0 c.requires.3)

pub loop-i-smaller : goal.loop-i-smaller
loop-i-smaller c = less c.args.part.now c.loop-i.i c.loop-i-2.i c.requires.2 (search rules) c.loop-i-2.invariant.1

pub loop-i-preserved : goal.loop-i-preserved
loop-i-preserved c =
    passed c.args.part.now _ c.loop-i.message _ c.loop-i.i c.loop-i-2.i c.requires.2 c.loop-i.invariant (search rules) c.loop-i-2.invariant.0
