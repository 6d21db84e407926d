-- `lawful::is_lawful_at` meets its contract: the row's bytes are judged, then the slot that they spell, then the heads before it.
use Prim.Native.Nat.{ℕ, ◌+◌, ◌*◌, ◌-◌, ◌≤◌}
use mathlib.Core.Path.{◌≡◌, sym, ap, ◌∙◌}
use mathlib.Core.List.{List}
use native.Mathlib.Omega.{arith}
use lib.ListN.{length, take, drop, length-drop}
use lib.Seq.{length-take-le}
use borrow.Author.Tests.{not-true, not-false}
use Rattle.slot.specs.Row.{slot_size, is_row}
use Rattle.slot.specs.Rows.{row_in, slot_in, slot_at}
use Rattle.slot.proofs.Rows.{spells, slot-here}
use Rattle.lawful.specs.Lawful.{slot_lawful, lawful_at}
use Rattle.lawful.proofs.is_lawful_at.Goals as goal

-- the part of the table that is judged
abbrev part : List ℕ → ℕ → List ℕ
part t i = take (slot_size * i + slot_size - slot_size * i) (drop (slot_size * i) t)

-- it is the row's bytes, and spells the slot
part-row : (t : List ℕ) (i : ℕ) → part t i ≡ row_in t i
part-row t i = let n : slot_size * i + slot_size - slot_size * i ≡ slot_size = omega arith in ap (λ k. take k (drop (slot_size * i) t)) n

part-slot : (t : List ℕ) (i : ℕ) → slot_size * i + slot_size ≤ length t → slot_in (part t i) ≡ slot_at t i
part-slot t i l =
    ap slot_in (part-row t i)
    ∙ spells (row_in t i) (length-take-le slot_size (drop (slot_size * i) t) (omega (arith, length-drop (slot_size * i) t)))
    ∙ sym (slot-here t i l)

pub returns-then-not-is_row : goal.returns-then-not-is_row
unfolding lawful_at
returns-then-not-is_row c =
    let a = c.args in
    rw (← ap is_row (part-row a.t.now a.i), ← c.is_row.ensures, not-true c.is_row.result c.if-not-is_row.true-raw)

pub returns-then-not-is_lawful_slot : goal.returns-then-not-is_lawful_slot
unfolding lawful_at
returns-then-not-is_lawful_slot c =
    let a = c.args in
    let l = c.requires in
    rw (
      ← ap is_row (part-row a.t.now a.i),
      ← c.is_row.ensures,
      not-false c.is_row.result c.if-not-is_row.false-raw,
      ← c.is_lawful_slot.ensures
          ∙ ap (slot_lawful a.sockets a.c.now) (c.slot_of-s.ensures ∙ part-slot a.t.now a.i l),
      not-true c.is_lawful_slot.result c.if-not-is_lawful_slot.true-raw,
    )

pub returns : goal.returns
unfolding lawful_at
returns c =
    let a = c.args in
    let l = c.requires in
    rw (
      ← ap is_row (part-row a.t.now a.i),
      ← c.is_row.ensures,
      not-false c.is_row.result c.if-not-is_row.false-raw,
      ← c.is_lawful_slot.ensures
          ∙ ap (slot_lawful a.sockets a.c.now) (c.slot_of-s.ensures ∙ part-slot a.t.now a.i l),
      not-false c.is_lawful_slot.result c.if-not-is_lawful_slot.false-raw,
    )
    c.differs_from_before.ensures
