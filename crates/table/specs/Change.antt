-- What calls answer and do to a table.
use Rattle.std.specs.Prelude.{ℕ, List, Option, Some, None, Result, Ok, Err}
use Rattle.errors.specs.Number.{number_of}
use Rattle.errors.specs.declared.Error.{Error}
use Rattle.slot.specs.Rows.{with_slot}
use Rattle.slot.specs.declared.Slot.{Slot}

-- what a call's answer says: accepted, or "Each refusal returns its number"
pub data Verdict : Type 0 where
  accepted : Verdict
  refused : (number : ℕ) → Verdict

-- the verdict for each case of the answer, a refusal with its number
abbrev pub verdict_of : Result (Unit {0}) Error → Verdict
verdict_of (Ok u) = accepted
verdict_of (Err e) = refused (number_of e)

-- a verdict beside the table afterwards
pub record Effect : Type 0 where
  pub verdict : Verdict
  pub table : List ℕ

-- "Each refusal returns its number"; "Table .. keep their old contents"
abbrev pub refusal : List ℕ → ℕ → Effect
refusal t number = record { verdict = refused number; table = t }

-- accepted, with the table afterwards
abbrev pub acceptance : List ℕ → Effect
acceptance t = record { verdict = accepted; table = t }

-- what is asked for a socket's row: another row, or the number of the refusal
pub data Change : Type 0 where
  becomes : (row : Slot) → Change
  denied : (number : ℕ) → Change

-- the table where the change is for this place; where that is no slot nothing changes (an ACK, DEVICE_DATA and a leave that change
-- a row have a slot)
abbrev pub changed_at : List ℕ → Option ℕ → Change → Effect
changed_at t (Some i) (becomes row) = acceptance (with_slot t i row)
changed_at t None (becomes row) = acceptance t
changed_at t p (denied number) = refusal t number

-- what a call does, where it is not refused first
abbrev pub if_accepted : Verdict → List ℕ → Effect → Effect
if_accepted accepted t e = e
if_accepted (refused number) t e = refusal t number
