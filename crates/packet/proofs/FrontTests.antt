-- The tests of a packet's front, one after the other, and what holds where none refuses.
use Prim.Native.Nat.{ℕ, zero, suc, ◌+◌, ◌-◌, ◌≤◌, ◌<◌}
use mathlib.Core.Path.{◌≡◌, refl, sym, ◌∙◌}
use mathlib.Core.Bool.{Bool, true, false, not, cond}
use mathlib.Core.List.{List}
use native.Mathlib.Omega.{arith}
use lib.Dec.{ltb, eqb, eqb-suc-zero}
use lib.ListN.{length, get_or, take, drop, length-drop}
use lib.Seq.{take_all}
use borrow.Author.Tests.{eq-eqb, ne_eqb, lt-ltb, le-ltb, ltb-false, eqb-true, not-false}
use Rattle.wire.specs.Zero.{has_zero}
use Rattle.packet.specs.Packet.{front_error, length_byte, part_present}

module _ (s : List ℕ) where
  pub front-none : length s ≡ 0 → front_error s ≡ 1
  unfolding front_error
  front-none a = simp (eq-eqb _ _ a)

  module _ (a : length s ≡ 0 → ⊥) where
    pub front-mark : (get_or s 0 0 ≡ 0 → ⊥) → front_error s ≡ 2
    unfolding front_error
    front-mark b = simp (ne_eqb _ _ a, ne_eqb _ _ b)

    module _ (b : get_or s 0 0 ≡ 0) where
      pub front-one : length s ≡ 1 → front_error s ≡ 1
      unfolding front_error
      front-one d = simp (ne_eqb _ _ a, eq-eqb _ _ b, eq-eqb _ _ d)

      module _ (d : length s ≡ 1 → ⊥) where
        pub front-size : length_byte s < 4 → front_error s ≡ 3
        unfolding front_error
        front-size e = simp (ne_eqb _ _ a, eq-eqb _ _ b, ne_eqb _ _ d, lt-ltb _ _ e)

        module _ (e : 4 ≤ length_byte s) where
          late : front_error s ≡ cond (has_zero (part_present s)) 4 (cond (ltb (length s) (length_byte s + 2)) 1 0)
          unfolding front_error
          late = simp (ne_eqb _ _ a, eq-eqb _ _ b, ne_eqb _ _ d, le-ltb _ _ e)

          pub front-zero : has_zero (part_present s) ≡ true → front_error s ≡ 4
          front-zero z = late ∙ simp z

          pub front-short : has_zero (part_present s) ≡ false → length s < length_byte s + 2 → front_error s ≡ 1
          front-short z h = late ∙ simp (z, lt-ltb _ _ h)

          pub front-good : has_zero (part_present s) ≡ false → length_byte s + 2 ≤ length s → front_error s ≡ 0
          front-good z h = late ∙ simp (z, le-ltb _ _ h)

-- the parts that the code takes
pub part-short : (s : List ℕ) → length s < length_byte s + 2 → take (length s - 2) (drop 2 s) ≡ part_present s
part-short s h =
    let a : length (drop 2 s) ≤ length s - 2 = omega (arith, length-drop 2 s) in
    let b : length (drop 2 s) ≤ length_byte s = omega (arith, length-drop 2 s) in
    take_all (length s - 2) (drop 2 s) a ∙ sym (take_all (length_byte s) (drop 2 s) b)

pub part-whole : (s : List ℕ) → take (length_byte s + 2 - 2) (drop 2 s) ≡ part_present s
part-whole s = let a : length_byte s + 2 - 2 ≡ length_byte s = omega arith in rw a

-- what a test that does not refuse says
pub pass : (b : Bool) (n k : ℕ) → cond b (suc n) k ≡ 0 → (b ≡ false) × (k ≡ 0)
pass true n k h = absurd (omega arith)
pass false n k h = (refl, h)

pub pass_on : (n k : ℕ) → cond (not (eqb n 0)) n k ≡ 0 → (n ≡ 0) × (k ≡ 0)
pass_on zero k h = (refl, h)
pass_on (suc n) k h = absurd (omega (arith, rw (eqb-suc-zero n) at h))

pub not_eqb : (a b : ℕ) → not (eqb a b) ≡ false → a ≡ b
not_eqb a b h = eqb-true a b (not-false (eqb a b) h)

-- the front of a packet that is not refused
pub record Front (s : List ℕ) : Type 0 where
  pub mark : get_or s 0 0 ≡ 0
  pub least : 4 ≤ length_byte s
  pub whole : length_byte s + 2 ≤ length s
  pub zeroless : has_zero (part_present s) ≡ false

pub front-passed : (s : List ℕ) → front_error s ≡ 0 → Front s
unfolding front_error
front-passed s h =
    let p1 = pass (eqb (length s) 0) 0 _ h in
    let p2 = pass (not (eqb (get_or s 0 0) 0)) 1 _ p1.1 in
    let p3 = pass (eqb (length s) 1) 0 _ p2.1 in
    let p4 = pass (ltb (length_byte s) 4) 2 _ p3.1 in
    let p5 = pass (has_zero (part_present s)) 3 _ p4.1 in
    let p6 = pass (ltb (length s) (length_byte s + 2)) 0 _ p5.1 in
    record { mark = not_eqb _ _ p2.0; least = ltb-false _ _ p4.0; whole = ltb-false _ _ p6.0; zeroless = p5.0 }
