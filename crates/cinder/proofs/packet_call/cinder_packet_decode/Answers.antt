-- `cinder_packet_decode` is `packet_call`: the reader's answer in numbers.
use Prim.Native.Nat.{ℕ}
use mathlib.Core.Path.{◌≡◌, refl, ap, ◌∙◌}
use mathlib.Core.List.{List}
use borrow.Author.Rules.{rules}
use Rattle.std.specs.Prelude.{Result, Ok, Err}
use Rattle.std.specs.Result.{MatchResult, IsOkAnd}
use Rattle.errors.specs.declared.Error.{Error}
use Rattle.packet.specs.declared.Packet.{Packet}
use Rattle.packet.specs.Packet.{judgement_of}
use Rattle.cinder.specs.declared.packet_call.PacketResult.{PacketResult}
use Rattle.cinder.specs.PacketCall.{reading_result}
use Rattle.cinder.proofs.PacketAnswers.{in_buffer, call-filled}
use Rattle.cinder.proofs.packet_call.cinder_packet_decode.Goals as goal

-- the answer with its packet's bytes taken alone, in numbers beside the buffer
judged-numbers :
    (a : Result Packet Error) (m : Result ℕ Error) (r : PacketResult) (out : List ℕ)
    → MatchResult a (λ p. IsOkAnd m (λ n. n ≡ p.consumed)) (λ e. m ≡ Err e) → r ≡ reading_result m
    → record { error = r.error; consumed = r.consumed; message = out } ≡ in_buffer (judgement_of a) out
judged-numbers (Ok p) (Ok n) r out h e = rw e (ap (λ (k : ℕ). record { error = 0; consumed = k; message = out }) h)
judged-numbers (Ok p) (Err e) r out h g = absurd h
judged-numbers (Err e) m r out h e' = rw (e', h) refl

pub returns : goal.returns
returns c = judged-numbers _ _ _ _ (search rules) c.from.ensures ∙ call-filled _ _ _ _ c.decode_into.ensures
