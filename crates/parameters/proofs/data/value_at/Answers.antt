-- `parameters::data::value_at` meets its contract, by the width.
use mathlib.Core.Path.{◌≡◌, sym, ap, ◌∙◌}
use mathlib.Core.Logic.{⊎_elim}
use native.Mathlib.Omega.{arith}
use Rattle.value.specs.Meaning.{extended}
use Rattle.parameters.proofs.Steps.{number-1}
use Rattle.parameters.proofs.Widths.{held_plain, held-short}
use Rattle.parameters.proofs.data.value_at.Goals as goal

pub returns-then-w-eq-LONG : goal.returns-then-w-eq-LONG
returns-then-w-eq-LONG c = rw c.if-w-eq-LONG.true (c.u32_at.ensures ∙ sym (held_plain _ _ (λ e. omega arith)))

pub returns-then-w-eq-SHORT : goal.returns-then-w-eq-SHORT
returns-then-w-eq-SHORT c =
    rw c.if-w-eq-SHORT.true (c.extend.ensures ∙ ap extended c.u16_at.ensures ∙ sym (held-short _))

pub returns : goal.returns
returns c =
    let one : c.args.w ≡ 1 =
    ⊎_elim (λ e. e) (⊎_elim (λ e. absurd (c.if-w-eq-SHORT.false e)) (λ e. absurd (c.if-w-eq-LONG.false e))) c.requires in
    rw one (c.from.ensures ∙ c.byte_at.ensures ∙ sym (number-1 c.args.payload.now c.args.at) ∙ sym (held_plain _ _ (λ e. omega arith)))
