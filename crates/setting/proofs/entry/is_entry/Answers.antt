-- `setting::entry::is_entry` meets its contract: the code, then the count.
use Prim.Native.Nat.{◌+◌}
use mathlib.Core.Path.{◌∙◌}
use borrow.Author.Tests.{eq-eqb, ne_eqb}
use Rattle.setting.specs.Steps.{is_entry}
use Rattle.setting.proofs.Turns.{part-word}
use Rattle.setting.proofs.entry.is_entry.Goals as goal

pub returns-then-u32_at-eq-STRINGS : goal.returns-then-u32_at-eq-STRINGS
unfolding is_entry
returns-then-u32_at-eq-STRINGS c =
    let a = c.args in
    let code = c.u32_at.ensures ∙ part-word a.s.now a.at in
    let n = c.u32_at-then-u32_at-eq-STRINGS.ensures ∙ part-word a.s.now (a.at + 4) in
    rw (← n, ← code, eq-eqb _ _ c.if-u32_at-eq-STRINGS.true)

pub returns : goal.returns
unfolding is_entry
returns c =
    let a = c.args in
    let code = c.u32_at.ensures ∙ part-word a.s.now a.at in
    rw (← code, ne_eqb _ _ c.if-u32_at-eq-STRINGS.false)
