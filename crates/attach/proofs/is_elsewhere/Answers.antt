-- `attach::is_elsewhere` meets its contract, by the tests that lead to each answer.
use Prim.Native.Nat.{ℕ}
use mathlib.Core.Path.{◌≡◌, ap}
use mathlib.Core.Bool.{◌&&◌, not}
use lib.Dec.{eqb}
use borrow.Author.Tests.{ne_eqb}
use Rattle.slot.specs.Row.{head_of}
use Rattle.slot.specs.declared.Slot.{Slot}
use Rattle.slot.specs.declared.Head.{Head}
use Rattle.lawful.proofs.Tests.{stops}
use Rattle.attach.specs.Attach.{uid_elsewhere}
use Rattle.attach.proofs.is_elsewhere.Goals as goal
use Rattle.attach.proofs.is_elsewhere.Goals.{then-h, else-h}

-- the test goes by the head alone
by-head :
    (h : Head) (s : Slot) (socket uid : ℕ) → h ≡ head_of s →
    (h.taken && (not (eqb h.socket socket) && eqb h.uid uid)) ≡ uid_elsewhere socket uid s
unfolding uid_elsewhere
by-head h s socket uid e = ap (λ (x : Head). x.taken && (not (eqb x.socket socket) && eqb x.uid uid)) e

pub returns-then-h-socket : goal.returns-then-h-socket
returns-then-h-socket c s e =
    rw (← by-head _ s _ _ e, c.if-h-socket.true.0, ne_eqb _ _ c.if-h-socket.true.1)

pub returns-else-h-socket : goal.returns-else-h-socket
returns-else-h-socket c s e =
    let a = c.args in
    rw (← by-head _ s _ _ e) (elim c.if-h.branch [
      | then-h w ↦ rw w.if-h.true (stops {b = not (eqb a.h.socket a.socket)} _ (cc) (cc))
      | else-h w ↦ rw w.if-h.false (cc)
    ])
