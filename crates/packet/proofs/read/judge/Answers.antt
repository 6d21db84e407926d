-- `judge` is `packet_error`, and of a good packet the type: the front, the last block, the message.
use Prim.Native.Nat.{ℕ}
use mathlib.Core.Path.{sym, ap, ◌∙◌}
use mathlib.Core.List.{List}
use native.Mathlib.Omega.{arith}
use Rattle.std.proofs.lemmas.Result.{err_from_is_err_and}
use Rattle.packet.specs.Cobs.{lacking, decoded_part}
use Rattle.packet.specs.Message.{xor_from, message_error}
use Rattle.errors.proofs.Numbers.{some-number}
use Rattle.packet.proofs.FrontTests.{front-passed, part-whole}
use Rattle.packet.proofs.DecodeStages.{error-front, error-lack, error-message, length_part}
use Rattle.packet.proofs.read.judge.Goals as goal

pub returns-in_err-sum-clause-error : goal.returns-in_err-sum-clause-error
returns-in_err-sum-clause-error c =
    let p = err_from_is_err_and c.from_residual.result c.from_residual.ensures.1 in
    rw (p.1, p.2) (sym (error-front _ _ c.in_err-sum.ensures.error (λ z. omega (arith, some-number c.in_err-sum.field-0.0))))

pub returns-in_err-sum-clause-kind : goal.returns-in_err-sum-clause-kind
returns-in_err-sum-clause-kind c =
    let p = err_from_is_err_and c.from_residual.result c.from_residual.ensures.1 in
    rw p.1 tt

pub bounds-bytes-1 : goal.bounds-bytes-1
bounds-bytes-1 c = omega (arith, (front-passed _ (sym c.in_ok-sum.ensures.error)).whole)

pub slice_bounds-part-end : goal.slice_bounds-part-end
slice_bounds-part-end c = (front-passed _ (sym c.in_ok-sum.ensures.error)).whole

pub walk-w-requires : goal.walk-w-requires
walk-w-requires c =
    let s = c.args.bytes.now in
    let h = front-passed s (sym c.in_ok-sum.ensures.error) in
    rw (part-whole s) (omega (arith, length_part s h, c.type_inv.bytes 1), h.zeroless, c.in_ok-sum.ensures.sum)

pub returns-then-w-ne0-clause-error : goal.returns-then-w-ne0-clause-error
returns-then-w-ne0-clause-error c =
    let s = c.args.bytes.now in
    sym (error-lack s (sym c.in_ok-sum.ensures.error) (λ e. c.if-w-ne0.true (c.walk-w.ensures.0 ∙ ap (lacking 0) (part-whole s) ∙ e)))

pub message_type-requires : goal.message_type-requires
message_type-requires c =
    let s = c.args.bytes.now in
    let h = front-passed s (sym c.in_ok-sum.ensures.error) in
    rw (part-whole s) (omega (arith, length_part s h, h.least), h.zeroless, c.walk-w.ensures.1 ∙ ap (λ (p : List ℕ). xor_from 0 (decoded_part p)) (part-whole s))

pub returns-clause-error : goal.returns-clause-error
returns-clause-error c =
    let s = c.args.bytes.now in
    let lack = sym (ap (lacking 0) (part-whole s)) ∙ sym c.walk-w.ensures.0 ∙ c.if-w-ne0.false in
    c.message_type.ensures.error ∙ ap (λ (p : List ℕ). message_error (decoded_part p)) (part-whole s) ∙ sym (error-message s (sym c.in_ok-sum.ensures.error) lack)

pub returns-clause-kind : goal.returns-clause-kind
returns-clause-kind c = rw (part-whole c.args.bytes.now) at c.message_type.ensures.kind
