-- `lawful::is_lawful_slot` meets its contract, by the tests that lead to each answer.
use mathlib.Core.Path.{◌∙◌}
use lib.Dec.{eqb}
use borrow.Author.Tests.{eq-eqb, ne_eqb, lt-ltb, le-ltb, not-true, not-false}
use Rattle.lawful.specs.Lawful.{held_lawful, slot_lawful}
use Rattle.lawful.proofs.ByBytes.{values-by-bytes}
use Rattle.lawful.proofs.Tests.{stops}
use Rattle.lawful.proofs.is_lawful_slot.Goals as goal
use Rattle.lawful.proofs.is_lawful_slot.Goals.{then-s-eq0, else-s-eq0, then-s-eq0-2, else-s-eq0-2, then-s-eq0-3, else-s-eq0-3}

pub returns-then-is_some : goal.returns-then-is_some
unfolding slot_lawful held_lawful
returns-then-is_some c =
    let a = c.args in
    let f = c.find_device-d.ensures in
    let known = c.if-is_some.ensures in
    rw (
      lt-ltb _ _ c.if-s-sockets.false,
      ← f,
      ← known,
      not-false _ c.if-not-s.false,
    )
    (c.are_lawful_values.ensures ∙ values-by-bytes a.c.now a.s c.parameter_bytes.result (rw f at c.parameter_bytes.ensures))

pub returns-else-is_some : goal.returns-else-is_some
unfolding slot_lawful
returns-else-is_some c =
    let known = c.if-is_some.ensures in
    rw (
      not-false _ c.if-not-s.false,
      lt-ltb _ _ c.if-s-sockets.false,
      ← c.find_device-d.ensures,
      ← known,
    )
    c.if-is_some.false

pub returns-then-s-sockets : goal.returns-then-s-sockets
unfolding slot_lawful
returns-then-s-sockets c = rw (not-false _ c.if-not-s.false, le-ltb _ _ c.if-s-sockets.true)

pub returns-then-s-eq0-4 : goal.returns-then-s-eq0-4
unfolding slot_lawful
returns-then-s-eq0-4 c =
    let z = c.if-s-eq0-4.true in
    rw (
      eq-eqb _ _ z.0,
      eq-eqb _ _ z.1,
      eq-eqb _ _ z.2,
      eq-eqb _ _ z.3,
      c.holds_nothing.ensures,
      not-true _ c.if-not-s.true,
    )

pub returns-else-s-eq0-4 : goal.returns-else-s-eq0-4
unfolding slot_lawful
returns-else-s-eq0-4 c =
    rw (not-true _ c.if-not-s.true) (elim c.if-s-eq0.branch [
      | then-s-eq0 w ↦
          rw (eq-eqb _ _ w.if-s-eq0.true) (elim c.if-s-eq0-2.branch [
            | then-s-eq0-2 v ↦
                rw (eq-eqb _ _ v.if-s-eq0-2.true.1) (elim c.if-s-eq0-3.branch [
                  | then-s-eq0-3 u ↦ rw (eq-eqb _ _ u.if-s-eq0-3.true.2) (stops {b = eqb c.args.s.uid 0} _ (cc) (cc))
                  | else-s-eq0-3 u ↦ stops {b = eqb c.args.s.year 0} _ (cc) (cc)
                ])
            | else-s-eq0-2 v ↦ stops {b = eqb c.args.s.device 0} _ (cc) (cc)
          ])
      | else-s-eq0 w ↦ rw (ne_eqb _ _ w.if-s-eq0.false) (cc)
    ])
