-- What the answers of the readers say.
use Rattle.std.specs.Prelude.{ℕ, ◌+◌, ◌≤◌, ◌<◌, Bool, cond, eqb, ltb, Option, Some, None}
use Rattle.std.proofs.Math.Option as math
use Rattle.digits.specs.Read.{Read, got, wrong}
use Rattle.list.specs.Tree.{Value, int, float}
use Rattle.text.specs.Read as text
use Rattle.text.specs.Read.{halves}
use Rattle.text_value.specs.declared.Word.{Word}
use Rattle.text_value.specs.declared.NumberRead.{NumberRead}
use Rattle.text_value.specs.declared.NumberRead.TheVariants as number
use Rattle.text_value.specs.declared.float.Halves.{Halves}

-- a number of 32 bits
abbrev pub word_of : Option Word → Read ℕ
word_of (Some w) = got w.bits w.count
word_of None = wrong

-- an int or a float
abbrev pub number_of : Option NumberRead → Read Value
number_of (Some (number.Int bits count)) = got (int bits) count
number_of (Some (number.Float low high count)) = got (float low high) count
number_of None = wrong

-- a float's halves
abbrev pub halves_in : Option Halves → Read text.Halves
halves_in (Some h) = got (halves h.low h.high) h.count
halves_in None = wrong

-- a number that may not be there
abbrev pub part_of : Option ℕ → math.Option ℕ
part_of (Some n) = math.some n
part_of None = math.none

-- the characters before an element: none before its list's first, a space before another, which may be missing
abbrev pub gap_size : Bool → ℕ → Option ℕ
gap_size first c = cond first (Some 0) (cond (eqb c 32) (Some 1) None)

-- where what was read stands: from `at` on, at least one character, and nothing behind `end`
abbrev pub Within : {A : Type 0} → ℕ → ℕ → Read A → Type 0
Within at end (got a count) = (1 ≤ count) × (at + count ≤ end)
Within at end wrong = Unit {0}

-- a number that was read is at most `most`
abbrev pub AtMost : ℕ → Read ℕ → Type 0
AtMost most (got n count) = n ≤ most
AtMost most wrong = Unit {0}

-- the largest number under a limit: one digit is not compared with it
abbrev pub reach : ℕ → ℕ
reach limit = cond (ltb limit 9) 9 limit

-- a number that may not be there is below a limit
abbrev pub Below : ℕ → math.Option ℕ → Type 0
Below limit (math.some n) = n < limit
Below limit math.none = Unit {0}
