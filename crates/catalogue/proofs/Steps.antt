-- One step of each definition that a loop follows.
use Prim.Native.Nat.{ℕ, zero, suc, ◌+◌, ◌-◌, ◌<◌}
use mathlib.Core.Path.{◌≡◌, ap, ◌∙◌}
use mathlib.Core.Bool.{Bool, cond}
use mathlib.Core.List.{List}
use Rattle.std.specs.Prelude.{Some}
use native.Mathlib.Omega.{arith}
use native.Mathlib.Numerals.{add-one}
use native.Mathlib.Nat.{le_of_eq}
use lib.Dec.{eqb}
use lib.ListN.{length, get_or, take, drop, length-drop}
use lib.Seq.{take_all, get_or-drop}
use Rattle.wire.specs.Every.{every}
use Rattle.wire.proofs.Chains.{every-same}
use Rattle.catalogue.specs.Format.{type_number, parameter_count, parameters_before}
use Rattle.catalogue.specs.Lookup.{device_at, device_from}

pub parameters-more : (s : List ℕ) (i : ℕ) → parameters_before s (i + 1) ≡ parameters_before s i + parameter_count s i
unfolding parameters_before
parameters-more s i = rw (add-one i)

pub device-step :
    (n : ℕ) (s : List ℕ) (number i : ℕ) → 0 < n →
    device_from n s number i ≡ cond (eqb (type_number s i) number) (Some (device_at s i)) (device_from (n - 1) s number (i + 1))
unfolding device_from
device-step zero s number i h = absurd (omega arith)
device-step (suc n) s number i h = let e : suc n - 1 ≡ n = omega arith in rw e

-- a test of each byte behind an offset is a test of each byte of the part that starts there
pub every-behind :
    (test : ℕ → Bool) (s : List ℕ) (from m : ℕ) → length s ≡ from + m →
    every (length (take (length s - from) (drop from s))) (λ k. test (get_or (take (length s - from) (drop from s)) k 0)) ≡
    every m (λ k. test (get_or s (from + k) 0))
every-behind test s from m h =
    let l : length (drop from s) ≡ m = length-drop from s ∙ omega arith in
    rw (take_all (length s - from) (drop from s) (le_of_eq (length-drop from s)), l)
    (every-same m (λ k. test (get_or (drop from s) k 0)) (λ k. test (get_or s (from + k) 0)) (λ k l. ap test (get_or-drop from s k 0)))
