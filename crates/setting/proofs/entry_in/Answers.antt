-- `setting::entry_in` meets its contract: a list without candidates has no entry.
use mathlib.Core.Path.{sym, ◌∙◌}
use native.Mathlib.Omega.{arith}
use Rattle.wire.proofs.ByteLists.{all-bytes}
use Rattle.setting.proofs.Search.{no-candidates}
use Rattle.setting.proofs.entry_in.Goals as goal

pub returns-then-n-eq0 : goal.returns-then-n-eq0
returns-then-n-eq0 c =
    let a = c.args in
    let all = all-bytes a.s.now (λ i. omega (arith, c.type_inv.s i)) in
    sym (no-candidates a.s.now a.key.now c.requires all (sym c.candidates-n.ensures ∙ c.if-n-eq0.true))

pub first_entry-requires : goal.first_entry-requires
first_entry-requires c = (c.requires, c.candidates-n.ensures, omega (arith, c.if-n-eq0.false))
