-- `deliver` is the packet reader's judgement, and a packet that is good goes to the front of the area.
use Rattle.std.proofs.Common.{sym, arith, ◌∙◌}
use Rattle.std.proofs.lemmas.Result.{err_from_is_err_and}
use Rattle.errors.proofs.Numbers.{some-number}
use Rattle.packet.proofs.DecodeStages.{good-front}
use Rattle.packet_line.proofs.Areas.{delivered-good, delivered-none}
use Rattle.packet_line.proofs.part.deliver.Goals as goal

pub returns-in_err-judge : goal.returns-in_err-judge
returns-in_err-judge c =
    let p = err_from_is_err_and c.from_residual.result c.from_residual.ensures.1 in
    let e = c.in_err-judge.ensures.error in
    rw (p.1, p.2) (e, delivered-none _ _ (λ z. omega (arith, e, some-number c.in_err-judge.field-0.0)))

pub bounds-bytes-1 : goal.bounds-bytes-1
bounds-bytes-1 c = omega (arith, (good-front _ (sym c.in_ok-judge.ensures.error)).whole)

pub slice_bounds-copy_at-end : goal.slice_bounds-copy_at-end
slice_bounds-copy_at-end c = (good-front _ (sym c.in_ok-judge.ensures.error)).whole

pub returns : goal.returns
returns c =
    let e = c.in_ok-judge.ensures.error in
    let good = sym e in
    (e, c.copy_at.ensures ∙ delivered-good c.args.bytes.now c.args.packet.now c.requires (good-front _ good) good (omega (arith, c.type_inv.bytes 1)))
