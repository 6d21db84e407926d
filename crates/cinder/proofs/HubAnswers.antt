-- The answers of the hub's calls in numbers, by the answer a that the hub gave; and a value's bits are those held.
use Prim.Native.Nat.{ℕ, ◌≤◌, ◌<◌}
use mathlib.Core.Path.{◌≡◌, refl, sym, ap, ◌∙◌}
use mathlib.Core.List.{List}
use Rattle.std.specs.Prelude as prelude
use Rattle.std.specs.Prelude.{Ok, Err}
use Rattle.errors.specs.declared.Error.{Error}
use Rattle.catalogue.specs.Format.{kind_bool}
use Rattle.value.specs.Meaning.{Meaning, whole, single, nan, flag, meant}
use Rattle.value.proofs.Bits.{bits_of, bits_back}
use Rattle.table.specs.Change.{Effect, verdict_of}
use Rattle.publish.specs.Outcome.{Publishing, result_of}
use Rattle.hub.specs.Receive.{Receiving, outcome_of, received_of}
use Rattle.hub.specs.Calls.{detached, publish_of}
use Rattle.cinder.specs.declared.packet_call.PacketResult.{PacketResult}
use Rattle.cinder.specs.declared.write_call.WriteResult.{WriteResult}
use Rattle.cinder.specs.HubCall.{TableOutcome, receipt_numbers, verdict_number, publish_numbers, numbers_of, receive_call, detach_call, publish_call}
use Rattle.cinder.specs.PacketCall.{reading_result}
use Rattle.cinder.specs.WriteCall.{writing_result}
use Rattle.cinder.proofs.WriteAnswers.{beside}

-- an answer beside the table
abbrev pub on_table : {A : Type 0} → A → List ℕ → TableOutcome A
on_table a t = record { answer = a; table = t }

pub receipt-told :
    (c t : List ℕ) (socket : ℕ) (s after : List ℕ) (a : prelude.Result ℕ Error) (r : PacketResult) → r ≡ reading_result a
    → record { outcome = outcome_of a; table = after } ≡ received_of c t socket s → on_table r after ≡ receive_call c t socket s
unfolding receive_call
receipt-told c t socket s after a r e h =
    ap (λ (z : PacketResult). on_table z after) (e ∙ receipt a) ∙ ap (λ (w : Receiving). on_table (receipt_numbers w.outcome) w.table) h
  where
    receipt : (a : prelude.Result ℕ Error) → reading_result a ≡ receipt_numbers (outcome_of a)
    receipt (Ok consumed) = refl
    receipt (Err e) = refl

pub verdict-told :
    (c t : List ℕ) (socket : ℕ) (after : List ℕ) (a x : prelude.Result (Unit {0}) Error) (r : ℕ) → a ≡ x → r ≡ verdict_number (verdict_of x)
    → record { verdict = verdict_of a; table = after } ≡ detached c t socket → on_table r after ≡ detach_call c t socket
unfolding detach_call
verdict-told c t socket after a x r is e h =
    ap (λ (z : ℕ). on_table z after) (e ∙ ap (λ (z : prelude.Result (Unit {0}) Error). verdict_number (verdict_of z)) (sym is))
    ∙ ap (λ (w : Effect). on_table (verdict_number w.verdict) w.table) h

pub published-told :
    (c t area area' : List ℕ) (a : prelude.Result ℕ Error) (r : WriteResult) → r ≡ writing_result a
    → record { result = result_of a; buffer = area' } ≡ publish_of c t area → beside r area' ≡ publish_call c t area
unfolding publish_call
published-told c t area area' a r e h =
    ap (λ (z : WriteResult). beside z area') (e ∙ posting a) ∙ ap (λ (w : Publishing). beside (publish_numbers w.result) w.buffer) h
  where
    posting : (a : prelude.Result ℕ Error) → writing_result a ≡ publish_numbers (result_of a)
    posting (Ok count) = refl
    posting (Err e) = refl

same_bits : (v : Meaning) → (numbers_of v).bits ≡ bits_of v
same_bits (whole number) = refl
same_bits (single number) = refl
same_bits (nan bits) = refl
same_bits (flag set) = refl

-- LAW: the bits that are answered for a held value are the bits that are held
pub value-bits :
    (kind bits : ℕ) → kind ≤ kind_bool → bits < 0x1_0000_0000 → (kind ≡ kind_bool → bits ≤ 1) → (numbers_of (meant kind bits)).bits ≡ bits
value-bits kind bits k l f = same_bits (meant kind bits) ∙ bits_back kind bits k l f
