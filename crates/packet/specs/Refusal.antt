-- The number of a refusal, 0 where nothing is refused.
use Rattle.std.specs.Prelude.{ℕ, Result, Ok, Err}
use Rattle.errors.specs.declared.Error.{Error}
use Rattle.errors.specs.Number.{number_of}

abbrev pub error_of : {A : Type 0} → Result A Error → ℕ
error_of (Ok answer) = 0
error_of (Err e) = number_of e
