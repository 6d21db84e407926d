-- `lawful::do_heads_differ` meets its contract, by the tests that lead to each answer.
use mathlib.Core.Path.{◌≡◌, sym, ap, ◌∙◌}
use mathlib.Core.Bool.{Bool, not, ◌&&◌, ◌||◌}
use lib.Dec.{eqb}
use borrow.Author.Tests.{eq-eqb, ne_eqb}
use Rattle.table.proofs.Tests.{never}
use Rattle.slot.specs.Row.{head_of}
use Rattle.slot.specs.declared.Slot.{Slot}
use Rattle.slot.specs.declared.Head.{Head}
use Rattle.lawful.specs.Lawful.{slots_differ}
use Rattle.lawful.proofs.do_heads_differ.Goals as goal
use Rattle.lawful.proofs.do_heads_differ.Goals.{then-g, else-g}

-- the test goes by the heads alone
abbrev differ : Head → Head → Bool
differ g h = not (g.taken && h.taken) || (not (eqb g.socket h.socket) && not (eqb g.uid h.uid))

by_heads : (g h : Head) (s u : Slot) → g ≡ head_of s → h ≡ head_of u → differ g h ≡ slots_differ s u
unfolding slots_differ
by_heads g h s u e f = ap (λ x. differ x h) e ∙ ap (differ (head_of s)) f

pub returns-then-not-h : goal.returns-then-not-h
returns-then-not-h c s u e f =
    rw (← by_heads _ _ s u e f) (elim c.if-g.branch [
      | then-g w ↦ rw (c.if-not-h.true, w.if-g.true, sym w.value-is ∙ c.if-not-h.true)
      | else-g w ↦ rw (c.if-not-h.true, w.if-g.false)
    ])

pub returns-then-g-h : goal.returns-then-g-h
returns-then-g-h c s u e f =
    rw (← by_heads _ _ s u e f) (elim c.if-g.branch [
      | then-g w ↦ rw (w.if-g.true, sym w.value-is ∙ c.if-not-h.false, ne_eqb _ _ c.if-g-h.true)
      | else-g w ↦ never (sym (sym w.value-is ∙ c.if-not-h.false) ∙ w.if-g.false)
    ])

pub returns-else-g-h : goal.returns-else-g-h
returns-else-g-h c s u e f =
    rw (← by_heads _ _ s u e f) (elim c.if-g.branch [
      | then-g w ↦ rw (w.if-g.true, sym w.value-is ∙ c.if-not-h.false, eq-eqb _ _ c.if-g-h.false)
      | else-g w ↦ never (sym (sym w.value-is ∙ c.if-not-h.false) ∙ w.if-g.false)
    ])
