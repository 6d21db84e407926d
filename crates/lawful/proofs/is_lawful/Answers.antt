use mathlib.Core.Path.{refl, sym, ◌∙◌}
use native.Mathlib.Omega.{arith}
use lib.ListN.{length}
use borrow.Author.Tests.{eq-eqb, ne_eqb, not-true, not-false}
use Rattle.wire.specs.Every.{every}
use Rattle.wire.proofs.Chains.{every-all, every_more, every-stop}
use Rattle.table.specs.Places.{table_size}
use Rattle.lawful.specs.Lawful.{lawful_at, lawful}
use Rattle.lawful.proofs.is_lawful.Goals as goal

pub returns-then-t-slots : goal.returns-then-t-slots
unfolding lawful
returns-then-t-slots c =
    let a = c.args in
    rw (ne_eqb (length a.t.now) (table_size a.slots) (λ e. omega arith))

pub returns-then-t-ne0 : goal.returns-then-t-ne0
unfolding lawful
returns-then-t-ne0 c =
    let a = c.args in
    rw (ne_eqb (length a.t.now) (table_size a.slots) (λ e. omega arith))

pub loop-i-init : goal.loop-i-init
unfolding every
loop-i-init c = refl

pub is_lawful_at-requires : goal.is_lawful_at-requires
is_lawful_at-requires c = omega arith

pub loop-i-preserved : goal.loop-i-preserved
loop-i-preserved c =
    every_more _ _ c.loop-i.invariant (sym c.is_lawful_at.ensures ∙ not-false _ c.if-not-is_lawful_at.false-raw)

pub returns-then-not-is_lawful_at : goal.returns-then-not-is_lawful_at
unfolding lawful
returns-then-not-is_lawful_at c =
    let a = c.args in
    rw (
      eq-eqb (length a.t.now) (table_size a.slots) (omega arith),
      ← every-stop a.slots c.loop-i.i (lawful_at a.sockets a.c.now a.t.now) (omega arith)
          (sym c.is_lawful_at.ensures ∙ not-true _ c.if-not-is_lawful_at.true-raw),
    )

pub returns : goal.returns
unfolding lawful
returns c =
    let a = c.args in
    rw (
      eq-eqb (length a.t.now) (table_size a.slots) (omega arith),
      ← every-all a.slots c.loop-i.i (lawful_at a.sockets a.c.now a.t.now) (omega arith) (omega arith) c.loop-i.invariant,
    )
