-- `is_on` meets its contract, by its test.
use Prim.Native.Nat.{ℕ}
use mathlib.Core.Path.{◌≡◌, ap}
use mathlib.Core.Bool.{◌&&◌}
use lib.Dec.{eqb}
use Rattle.slot.specs.Row.{head_of}
use Rattle.slot.specs.Rows.{slot_at}
use Rattle.slot.specs.declared.Slot.{Slot}
use Rattle.slot.specs.declared.Head.{Head}
use Rattle.table.specs.Places.{holds}
use Rattle.table.proofs.places.is_on.Goals as goal

-- the test goes by the head alone
by-head : (h : Head) (s : Slot) (socket : ℕ) → h ≡ head_of s → (h.taken && eqb h.socket socket) ≡ holds s socket
unfolding holds
by-head h s socket e = ap (λ (x : Head). x.taken && eqb x.socket socket) e

pub returns-then-h : goal.returns-then-h
returns-then-h c = rw (← by-head _ (slot_at c.args.t.now c.args.i) _ c.head_at-h.ensures, c.if-h.true)

pub returns-else-h : goal.returns-else-h
returns-else-h c = rw (← by-head _ (slot_at c.args.t.now c.args.i) _ c.head_at-h.ensures, c.if-h.false)
