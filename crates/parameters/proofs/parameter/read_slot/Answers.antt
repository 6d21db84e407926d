-- `parameters::parameter::read_slot` meets its contract, by the tests that lead to each answer.
use Prim.Native.Nat.{ℕ}
use mathlib.Core.Path.{◌≡◌, ap, ◌∙◌}
use borrow.Author.Tests.{lt-ltb, le-ltb}
use Rattle.catalogue.specs.Format.{kind_number}
use Rattle.catalogue.specs.Lookup.{kind_in}
use Rattle.value.specs.Meaning.{meant}
use Rattle.slot.specs.Slot.{bits_at}
use Rattle.parameters.specs.Read.{held, content_of}
use Rattle.parameters.proofs.parameter.read_slot.Goals as goal
use Rattle.parameters.proofs.parameter.read_slot.Goals.{in-Some, in-None}

pub returns-then-index : goal.returns-then-index
unfolding content_of
returns-then-index c = rw (le-ltb _ _ c.if-index.true)

pub returns-then-not-s-p : goal.returns-then-not-s-p
unfolding content_of
returns-then-not-s-p c = rw (lt-ltb _ _ c.if-index.false, c.if-not-s-p.true)

pub returns : goal.returns
unfolding content_of
returns c =
    let kind : kind_number c.match-find_parameter.kind ≡ kind_in c.find_parameter.result =
    elim c.match-find_parameter.branch [ in-Some w ↦ rw (w.in-Some.is, w.kind-is) | in-None w ↦ rw (w.in-None.is, w.kind-is) ] in
    rw (
      lt-ltb _ _ c.if-index.false,
      c.if-not-s-p.false,
      ← c.find_parameter.ensures,
    ) (ap held (c.of_kind.ensures ∙ ap (λ (n : ℕ). meant n (bits_at c.args.s c.args.index)) kind))
