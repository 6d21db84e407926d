-- `message_type` is `message_error` of a part's message, one test after the other.
use Prim.Native.Nat.{ℕ, ◌-◌, ◌≤◌}
use mathlib.Core.Path.{◌≡◌, sym, ap, ◌∙◌}
use mathlib.Core.Bool.{Bool, false, not, cond}
use mathlib.Core.List.{List}
use native.Mathlib.Omega.{arith}
use lib.ListN.{length, get_or}
use Rattle.std.proofs.lemmas.Result.{err_from_is_err_and}
use Rattle.packet.specs.Cobs.{decoded_part}
use Rattle.packet.specs.TypeTable.{allowed}
use Rattle.packet.specs.Message.{xor_from, message_error}
use Rattle.packet.proofs.Lengths.{unknown-none}
use Rattle.packet.proofs.DecodeStages.{length-decoded_part}
use Rattle.packet.proofs.MessageTests.{test-length, test_sum, test_type}
use Rattle.packet.proofs.message.message_type.Goals as goal

size : (e : List ℕ) → length (decoded_part e) - 3 ≡ length e - 4
size e = omega (arith, length-decoded_part e)

some : (e : List ℕ) → 4 ≤ length e → 1 ≤ length (decoded_part e)
some e h = omega (arith, length-decoded_part e)

-- past the tests of length and sum, by the answer of the type's test
typed : (e : List ℕ) (k : ℕ) (b : Bool) → 4 ≤ length e → get_or (decoded_part e) 1 0 ≡ length e - 4 → xor_from 0 (decoded_part e) ≡ 0
    → k ≡ get_or (decoded_part e) 0 0 → allowed k (length e - 4) ≡ b → cond (not b) 8 0 ≡ message_error (decoded_part e)
typed e k b h l s q a =
    sym (test_type _ _ (size e) (some e h) l s ∙ ap (λ (b : Bool). cond (not b) 8 0) (ap (λ (k : ℕ). allowed k (length e - 4)) (sym q) ∙ a))

pub returns-then-second_byte-n-clause-error : goal.returns-then-second_byte-n-clause-error
returns-then-second_byte-n-clause-error c =
    let e = c.args.part.now in
    sym (test-length _ _ (size e) (some e c.requires.0) (λ h. c.if-second_byte-n.true (c.second_byte.ensures ∙ h)))

pub returns-then-sum-ne0-clause-error : goal.returns-then-sum-ne0-clause-error
returns-then-sum-ne0-clause-error c =
    let e = c.args.part.now in
    sym (test_sum _ _ (size e) (some e c.requires.0) (sym c.second_byte.ensures ∙ c.if-second_byte-n.false) (λ h. c.if-sum-ne0.true (c.requires.2 ∙ h)))

pub returns-in_err-kind-clause-error : goal.returns-in_err-kind-clause-error
returns-in_err-kind-clause-error c =
    let p = err_from_is_err_and c.from_residual.result c.from_residual.ensures.1 in
    let t = c.in_err-kind.ensures in
    rw (p.1, p.2, t.0)
    (typed c.args.part.now _ false c.requires.0 (sym c.second_byte.ensures ∙ c.if-second_byte-n.false) (sym c.requires.2 ∙ c.if-sum-ne0.false)
    c.first_byte.ensures (unknown-none _ _ t.1))

pub returns-then-not-allows-clause-error : goal.returns-then-not-allows-clause-error
returns-then-not-allows-clause-error c =
    typed c.args.part.now _ _ c.requires.0 (sym c.second_byte.ensures ∙ c.if-second_byte-n.false) (sym c.requires.2 ∙ c.if-sum-ne0.false)
    (c.in_ok-kind.ensures ∙ c.first_byte.ensures) (sym c.if-not-allows.ensures)

pub returns-clause-error : goal.returns-clause-error
returns-clause-error c =
    typed c.args.part.now _ _ c.requires.0 (sym c.second_byte.ensures ∙ c.if-second_byte-n.false) (sym c.requires.2 ∙ c.if-sum-ne0.false)
    (c.in_ok-kind.ensures ∙ c.first_byte.ensures) (sym c.if-not-allows.ensures)
