-- One parameter, "absent or a value"; a held value is "one of a whole number, a single float or a flag".
use Rattle.std.specs.Prelude.{ℕ, ◌&&◌, cond, List, ltb, Option, Some, None, Result, Ok, Err}
use Rattle.std.proofs.Math.Option as option
use Rattle.std.proofs.Math.Option.{none, some}
use Rattle.errors.specs.Number.{number_of}
use Rattle.errors.specs.declared.Error.{Error}
use Rattle.catalogue.specs.Lookup.{parameter_of, kind_in}
use Rattle.value.specs.Meaning.{Meaning, meaning_of, meant}
use Rattle.slot.specs.Slot.{param_count, present_at, bits_at}
use Rattle.slot.specs.declared.Slot.{Slot}
use Rattle.table.specs.Places.{row_of}
use Rattle.value.specs.declared.Value.{Value}

-- what reading one parameter finds: a value, none, or the number of the refusal
pub data Finding : Type 0 where
  held : (v : Meaning) → Finding
  absent : Finding
  refused : (number : ℕ) → Finding

-- the value, or none, for each case of what a slot holds
abbrev pub held_of : Option Value → Finding
held_of (Some v) = held (meaning_of v)
held_of None = absent

-- the value, none, or the number of the refusal for each case of the answer
abbrev pub finding_of : Result (Option Value) Error → Finding
finding_of (Ok content) = held_of content
finding_of (Err e) = refused (number_of e)

-- the held value by its parameter's kind; absent where none is held or there is no such parameter
unfoldable pub content_of : List ℕ → Slot → ℕ → Finding
content_of c s index =
    cond (ltb index param_count && present_at s index) (held (meant (kind_in (parameter_of c s.device index)) (bits_at s index))) absent

-- of the socket's row, if it has one; 15, "socket has no guest"
abbrev pub finding : List ℕ → option.Option Slot → ℕ → Finding
finding c (some s) index = content_of c s index
finding c none index = refused 15

-- one parameter of a socket's device
abbrev pub found : ℕ → List ℕ → List ℕ → ℕ → ℕ → Finding
found slots c t socket index = finding c (row_of slots t socket) index
