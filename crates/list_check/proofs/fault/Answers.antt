-- `list_check::fault` meets its contract, by what was judged of the list at the front.
use mathlib.Core.Path.{ap, ◌∙◌}
use native.Mathlib.Omega.{arith}
use Rattle.std.proofs.lemmas.Result.{err_from_is_err_and}
use Rattle.list_check.specs.Check.{judged}
use Rattle.list_check.proofs.Front.{part_same, parse-depth, parse-fault}
use Rattle.list_check.proofs.Whole.{fault-bad, fault-left, fault-none}
use Rattle.list_check.proofs.fault.Goals as goal

pub answer-requires : goal.answer-requires
answer-requires c = (parse-depth _ _ c.check_any.ensures, parse-fault _ _ c.check_any.ensures)

pub returns-in_err-end : goal.returns-in_err-end
returns-in_err-end c =
    let s = c.args.s.now in
    let p = err_from_is_err_and c.from_residual.result c.from_residual.ensures.1 in
    rw (p.1, p.2)
    (fault-bad s _ (c.in_err-end.ensures ∙ c.check_any.ensures ∙ ap judged (part_same s _ c.min.ensures)))

pub returns-then-end-s : goal.returns-then-end-s
returns-then-end-s c =
    let s = c.args.s.now in
    fault-left s _ (c.in_ok-end.ensures ∙ c.check_any.ensures ∙ ap judged (part_same s _ c.min.ensures)) (omega arith)

pub returns : goal.returns
returns c =
    let s = c.args.s.now in
    fault-none s _ (c.in_ok-end.ensures ∙ c.check_any.ensures ∙ ap judged (part_same s _ c.min.ensures)) (omega arith)
