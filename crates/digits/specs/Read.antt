-- What stands at the front of characters.
use Rattle.std.specs.Prelude.{ℕ}
use Rattle.std.proofs.Math.Option.{Option, some}
use Rattle.std.proofs.Math.Option as option

-- what it says and how many characters it has, or nothing that is allowed there
pub data Read (A : Type 0) : Type 0 where
  got : A → ℕ → Read A
  wrong : Read A

-- goes on with what was read and how many characters it has
abbrev pub and_read : {A B : Type 0} → Read A → (A → ℕ → Read B) → Read B
and_read (got a count) go = go a count
and_read wrong go = wrong

-- goes on with a number of a fixed number of digits
abbrev pub and_digits : {A : Type 0} → Option ℕ → (ℕ → Read A) → Read A
and_digits (some n) go = go n
and_digits option.none go = wrong
