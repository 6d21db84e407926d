-- `list_rows::judge` meets its contract: each return is a case of the definition.
use mathlib.Core.Path.{sym, ◌∙◌}
use Rattle.list_rows.proofs.Judging.{list-found, judged-none, judged-deep, judged-long, judged-list}
use Rattle.list_rows.proofs.judge.Goals as goal

pub returns-then-is_too_deep : goal.returns-then-is_too_deep
returns-then-is_too_deep c =
    let f = list-found _ _ (sym c.is_list.ensures ∙ c.if-not-is_list.false) in
    judged-deep _ _ f.0 f.1 (sym c.is_too_deep.ensures ∙ c.if-is_too_deep.true)

pub returns-then-n-gt-LIST_LIMIT : goal.returns-then-n-gt-LIST_LIMIT
returns-then-n-gt-LIST_LIMIT c =
    let f = list-found _ _ (sym c.is_list.ensures ∙ c.if-not-is_list.false) in
    judged-long _ _ f.0 f.1 (sym c.is_too_deep.ensures ∙ c.if-is_too_deep.false) _ c.measure-n.ensures c.if-n-gt-LIST_LIMIT.true

pub returns-then-not-is_list : goal.returns-then-not-is_list
returns-then-not-is_list c = judged-none _ _ (sym c.is_list.ensures ∙ c.if-not-is_list.true)

pub returns : goal.returns
returns c =
    let f = list-found _ _ (sym c.is_list.ensures ∙ c.if-not-is_list.false) in
    judged-list _ _ f.0 f.1 (sym c.is_too_deep.ensures ∙ c.if-is_too_deep.false) _ c.measure-n.ensures c.if-n-gt-LIST_LIMIT.false
