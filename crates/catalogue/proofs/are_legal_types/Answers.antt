use mathlib.Core.Path.{refl, sym, ◌∙◌}
use Rattle.wire.proofs.Chains.{every_more, every-stop}
use Rattle.wire.specs.Every.{every}
use Rattle.catalogue.proofs.are_legal_types.Goals as goal

pub loop-i-init : goal.loop-i-init
unfolding every
loop-i-init c = refl

pub loop-i-preserved : goal.loop-i-preserved
loop-i-preserved c = every_more _ _ c.loop-i.invariant (sym c.is_legal_type.ensures ∙ c.if-not-is_legal_type.false)

pub returns-then-not-is_legal_type : goal.returns-then-not-is_legal_type
returns-then-not-is_legal_type c =
    every-stop _ c.loop-i.i _ c.loop-i-test.true (sym c.is_legal_type.ensures ∙ c.if-not-is_legal_type.true)
