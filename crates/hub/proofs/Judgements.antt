-- What the packet reader's answer says: an accepted payload lies in the working copy, and the answer decides what is received.
use Prim.Native.Nat.{ℕ, ◌+◌, ◌≤◌, ◌<◌}
use mathlib.Core.Path.{◌≡◌, sym, ap, ◌∙◌}
use mathlib.Core.Bool.{true}
use mathlib.Core.List.{List}
use native.Mathlib.Omega.{arith}
use lib.ListN.{length, length-append}
use Rattle.std.specs.Prelude.{Result, Ok, Err}
use Rattle.errors.specs.Number.{number_of}
use Rattle.errors.specs.declared.Error.{Error}
use Rattle.packet.specs.TypeTable.{ACK, DEVICE_DATA}
use Rattle.packet.specs.Message.{message_of}
use Rattle.packet.specs.Packet.{Reading, Judgement, accepted, decoded}
use Rattle.packet.proofs.Accepted.{sound, sizes}
use Rattle.table.specs.Places.{slot_count, socket_count}
use Rattle.table.specs.Change.{Verdict, Effect, verdict_of, refusal}
use Rattle.lawful.specs.Lawful.{lawful, admission}
use Rattle.lawful.proofs.Admission.{admitted-means}
use Rattle.attach.specs.Attach.{assigned, left}
use Rattle.parameters.specs.Data.{applied}
use Rattle.parameters.specs.Read.{Finding, found}
use Rattle.parameters.specs.Read as read
use Rattle.parameters.proofs.Laws.{applied-lawful}
use Rattle.hub.specs.Receive.{Outcome, Receiving, refusing, answered_by, answering, by_type, by_reading, by_judgement, received_of}
use Rattle.hub.specs.Calls.{detached, read_of}

module _ (s : List ℕ) (j : Judgement) (copy : List ℕ) (e : record { judgement = j; message = copy } ≡ decoded s) where
  -- an accepted payload and the two bytes before it are in the working copy
  pub payload-bound : (type n consumed : ℕ) → j ≡ accepted type n consumed → (n + 2 ≤ 253) × (n + 2 ≤ length copy)
  payload-bound type n consumed f =
      let w = sound s type n consumed (sym (ap (λ (r : Reading). r.judgement) e) ∙ f) in
      let p = w.payload in
      let z = sizes w.starts.bytes type p w.starts.packet in
      let l = ap (λ (r : Reading). length r.message) e ∙ ap length w.held ∙ length-append (message_of type p) _ in
      (omega (arith, z.0, w.sized), omega (arith, l, z.1, w.sized))

  -- what is received is decided by that answer
  pub as_read : (c t : List ℕ) (socket : ℕ) → by_judgement c t socket j copy ≡ by_reading c t socket (decoded s)
  as_read c t socket = ap (by_reading c t socket) e

-- an admission that is answered by a case has that case's verdict
pub admitted-as :
    (a case : Result (Unit {0}) Error) (v : Verdict) → verdict_of a ≡ v → a ≡ case → v ≡ verdict_of case
admitted-as a case v e told = sym e ∙ ap verdict_of told

-- a socket that is admitted is a byte
pub socket-byte :
    (c t : List ℕ) (socket : ℕ) {a : Result (Unit {0}) Error} {u : Unit {0}} → verdict_of a ≡ admission slot_count socket_count c t socket → a ≡ Ok u → socket < 256
socket-byte c t socket {a} {u} e told =
    omega (arith, (admitted-means slot_count socket_count c t socket (admitted-as a (Ok u) _ e told)).2)

-- and its table is lawful
pub table-lawful :
    (c t : List ℕ) (socket : ℕ) {a : Result (Unit {0}) Error} {u : Unit {0}} → verdict_of a ≡ admission slot_count socket_count c t socket → a ≡ Ok u →
    lawful slot_count socket_count c t ≡ true
table-lawful c t socket {a} {u} e told = (admitted-means slot_count socket_count c t socket (admitted-as a (Ok u) _ e told)).1

module _ (c t : List ℕ) (socket : ℕ) (payload : List ℕ) (consumed : ℕ) (v : Verdict) (after : List ℕ) (r : Outcome) (said : r ≡ answered_by v consumed) where
  -- what an ACK's effect on the table answers
  pub ack-answers :
      record { verdict = v; table = after } ≡ assigned slot_count c t socket payload →
      record { outcome = r; table = after } ≡ by_type c t socket ACK payload consumed
  unfolding by_type
  ack-answers e = ap (λ (o : Outcome). record { outcome = o; table = after }) said ∙ ap (λ (x : Effect). answering x consumed) e

  -- and DEVICE_DATA's, in a lawful table
  pub data-answers :
      lawful slot_count socket_count c t ≡ true → record { verdict = v; table = after } ≡ applied slot_count c t socket payload →
      record { outcome = r; table = after } ≡ by_type c t socket DEVICE_DATA payload consumed
  unfolding by_type
  data-answers h e =
      ap (λ (o : Outcome). record { outcome = o; table = after }) said ∙
      ap (λ (x : Effect). answering x consumed) (e ∙ applied-lawful slot_count c t socket payload socket_count h)

-- WHAT IS ADMITTED, AND WHAT IS NOT
module _ (c t : List ℕ) (socket : ℕ) {a : Result (Unit {0}) Error} (e : verdict_of a ≡ admission slot_count socket_count c t socket) where
  pub received-when : (s : List ℕ) (r : Receiving) {u : Unit {0}} → a ≡ Ok u → r ≡ by_reading c t socket (decoded s) → r ≡ received_of c t socket s
  unfolding received_of
  received-when s r {u} told h = rw (admitted-as a (Ok u) _ e told) h

  pub received-not : (s : List ℕ) {x : Error} → a ≡ Err x → refusing t (number_of x) ≡ received_of c t socket s
  unfolding received_of
  received-not s {x} told = rw (admitted-as a (Err x) _ e told)

  pub detached-when : (x : Effect) {u : Unit {0}} → a ≡ Ok u → x ≡ left slot_count t socket → x ≡ detached c t socket
  unfolding detached
  detached-when x {u} told h = rw (admitted-as a (Ok u) _ e told) h

  pub detached-not : {x : Error} → a ≡ Err x → refusal t (number_of x) ≡ detached c t socket
  unfolding detached
  detached-not {x} told = rw (admitted-as a (Err x) _ e told)

  pub read-when : (index : ℕ) (r : Finding) {u : Unit {0}} → a ≡ Ok u → r ≡ found slot_count c t socket index → r ≡ read_of c t socket index
  unfolding read_of
  read-when index r {u} told h = rw (admitted-as a (Ok u) _ e told) h

  pub read-not : (index : ℕ) {x : Error} → a ≡ Err x → read.refused (number_of x) ≡ read_of c t socket index
  unfolding read_of
  read-not index {x} told = rw (admitted-as a (Err x) _ e told)
