-- What a change does to a table: one slot's row is another one, or nothing changes.
use Prim.Native.Nat.{ℕ}
use mathlib.Core.Path.{◌≡◌, refl, sym, ap}
use mathlib.Core.Bool.{Bool, true, false}
use mathlib.Core.List.{List}
use mathlib.Core.Logic.{◌⊎◌, inl, inr, ⊎_elim, ◌≢◌, ◌↔◌}
use Rattle.std.specs.Prelude.{Option, Some, None}
use lib.ListN.{length}
use Rattle.wire.specs.Number.{Bytes}
use Rattle.slot.specs.Slot.{Fits}
use Rattle.slot.specs.Row.{is_row}
use Rattle.slot.specs.Rows.{row_in, slot_at, with_slot}
use Rattle.slot.specs.declared.Slot.{Slot}
use Rattle.slot.proofs.Rows.{other-slot, slot_cases, length-with, bytes-with, row_kept}
use Rattle.table.specs.Change.{Verdict, accepted, refused, refusal, Change, becomes, denied, changed_at}
use Rattle.table.proofs.Tests.{never}

abbrev pub is_accepted : Verdict → Bool
is_accepted accepted = true
is_accepted (refused number) = false

-- the number of a refusal, 0 for none
abbrev pub number_of : Verdict → ℕ
number_of accepted = 0
number_of (refused number) = number

-- the row that a change leaves, where it is not denied
abbrev pub row_left : Slot → Change → Slot
row_left other (becomes row) = row
row_left other (denied number) = other

-- the row of a change is what its type says
abbrev pub FitsChange : Change → Type 0
FitsChange (becomes row) = Fits row
FitsChange (denied number) = Unit {0}

-- a slot after a change has the new row
pub record Changed (t : List ℕ) (p : Option ℕ) (x : Change) (j : ℕ) : Type 0 where
  pub row : Slot
  pub place : p ≡ Some j
  pub change : x ≡ becomes row
  pub result : slot_at (changed_at t p x).table j ≡ row

-- LAW: every slot but the one that the change is for is exactly as it was
pub changed-others : (t : List ℕ) (p : Option ℕ) (x : Change) (j : ℕ) → p ≢ Some j → slot_at (changed_at t p x).table j ≡ slot_at t j
changed-others t (Some i) (becomes row) j ne = other-slot t i j row (λ e. ne (ap Some (sym e)))
changed-others t None (becomes row) j ne = refl
changed-others t (Some i) (denied number) j ne = refl
changed-others t None (denied number) j ne = refl

-- LAW: each slot is exactly as it was, or has the new row
pub changed-either :
    (t : List ℕ) (p : Option ℕ) (x : Change) → FitsChange x → (j : ℕ) →
    (slot_at (changed_at t p x).table j ≡ slot_at t j) ⊎ Changed t p x j
changed-either t (Some i) (becomes row) f j =
    ⊎_elim
    (λ (w : (j ≡ i) × (slot_at (with_slot t i row) j ≡ row)). inr (record { row = row; place = ap Some (sym w.0); change = refl; result = w.1 }))
    (λ (e : slot_at (with_slot t i row) j ≡ slot_at t j). inl e)
    (slot_cases t i j row f)
changed-either t None (becomes row) f j = inl refl
changed-either t (Some i) (denied number) f j = inl refl
changed-either t None (denied number) f j = inl refl

-- LAW: a refusal keeps the table
pub changed-denied : (t : List ℕ) (p : Option ℕ) (x : Change) (n : ℕ) → (changed_at t p x).verdict ≡ refused n → (changed_at t p x).table ≡ t
changed-denied t (Some i) (becomes row) n e = never (ap is_accepted e)
changed-denied t None (becomes row) n e = refl
changed-denied t (Some i) (denied number) n e = refl
changed-denied t None (denied number) n e = refl

-- LAW: a change keeps the table's length
pub changed-length : (t : List ℕ) (p : Option ℕ) (x : Change) → length (changed_at t p x).table ≡ length t
changed-length t (Some i) (becomes row) = length-with t i row
changed-length t None (becomes row) = refl
changed-length t (Some i) (denied number) = refl
changed-length t None (denied number) = refl

-- LAW: and leaves bytes
pub changed-bytes : (t : List ℕ) (p : Option ℕ) (x : Change) → Bytes t → FitsChange x → Bytes (changed_at t p x).table
changed-bytes t (Some i) (becomes row) h f = bytes-with t i row h f
changed-bytes t None (becomes row) h f = h
changed-bytes t (Some i) (denied number) h f = h
changed-bytes t None (denied number) h f = h

-- LAW: and rows where rows were
pub changed-rows :
    (t : List ℕ) (p : Option ℕ) (x : Change) (j : ℕ) → is_row (row_in t j) ≡ true → is_row (row_in (changed_at t p x).table j) ≡ true
changed-rows t (Some i) (becomes row) j h = row_kept t i j row h
changed-rows t None (becomes row) j h = h
changed-rows t (Some i) (denied number) j h = h
changed-rows t None (denied number) j h = h

-- LAW: an accepted change leaves a row
pub changed-accepted : (t : List ℕ) (p : Option ℕ) (x : Change) → (changed_at t p x).verdict ≡ accepted → (row : Slot) × (x ≡ becomes row)
changed-accepted t (Some i) (becomes row) e = (row, refl)
changed-accepted t None (becomes row) e = (row, refl)
changed-accepted t (Some i) (denied number) e = never (sym (ap is_accepted e))
changed-accepted t None (denied number) e = never (sym (ap is_accepted e))

-- LAW: a call refuses exactly where its change is denied, with that number
pub denied-exactly : (t : List ℕ) (p : Option ℕ) (x : Change) (n : ℕ) → ((changed_at t p x).verdict ≡ refused n) ↔ (x ≡ denied n)
denied-exactly t p x n = (to p x, λ e. rw e (from p))
  where
    back : Verdict → Change
    back accepted = denied 0
    back (refused number) = denied number

    to : (p : Option ℕ) (x : Change) → (changed_at t p x).verdict ≡ refused n → x ≡ denied n
    to (Some i) (becomes row) e = never (ap is_accepted e)
    to None (becomes row) e = never (ap is_accepted e)
    to (Some i) (denied number) e = ap back e
    to None (denied number) e = ap back e

    from : (p : Option ℕ) → (changed_at t p (denied n)).verdict ≡ refused n
    from (Some i) = refl
    from None = refl

-- LAW: and keeps the table
pub denied-refusal : (t : List ℕ) (p : Option ℕ) (n : ℕ) → changed_at t p (denied n) ≡ refusal t n
denied-refusal t (Some i) n = refl
denied-refusal t None n = refl

-- LAW: a change that leaves a row is accepted
pub leaves-accepted : (t : List ℕ) (p : Option ℕ) (x : Change) (row : Slot) → x ≡ becomes row → (changed_at t p x).verdict ≡ accepted
leaves-accepted t p x row e = rw e (go p)
  where
    go : (p : Option ℕ) → (changed_at t p (becomes row)).verdict ≡ accepted
    go (Some i) = refl
    go None = refl
