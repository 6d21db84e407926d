-- `list_check::check` meets its contract.
use mathlib.Core.Path.{ap, ◌∙◌}
use native.Mathlib.Omega.{arith}
use lib.ListN.{length-take}
use Rattle.list_check.specs.Check.{judged}
use Rattle.list_check.proofs.Front.{part_same, parse-depth, parse-fault}
use Rattle.list_check.proofs.check.Goals as goal

pub returns : goal.returns
returns c =
    c.answer.ensures ∙ c.check_front.ensures ∙ ap judged (part_same c.args.s.now _ c.min.ensures)

pub check_front-requires : goal.check_front-requires
check_front-requires c = omega (arith, c.min.ensures, length-take c.min.result c.args.s.now)

pub answer-requires : goal.answer-requires
answer-requires c = (parse-depth _ _ c.check_front.ensures, parse-fault _ _ c.check_front.ensures)
