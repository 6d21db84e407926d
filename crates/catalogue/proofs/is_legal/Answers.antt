-- `catalogue::is_legal` meets its contract, by the tests that lead to each answer.
use mathlib.Core.Path.{◌∙◌}
use mathlib.Core.Bool.{and-true, and-false}
use borrow.Author.Tests.{eq-eqb, ne_eqb, le-leb, lt-leb, not-true, not-false}
use Rattle.catalogue.specs.Format.{parameter_legal, legal}
use Rattle.catalogue.proofs.Steps.{every-behind}
use Rattle.catalogue.proofs.is_legal.Goals as goal

pub returns-then-n-gt-MAX_TYPES : goal.returns-then-n-gt-MAX_TYPES
unfolding legal
returns-then-n-gt-MAX_TYPES c = rw (← c.number_at-n.ensures.0, lt-leb _ _ c.if-n-gt-MAX_TYPES.true)

pub returns-then-not-types : goal.returns-then-not-types
unfolding legal
returns-then-not-types c =
    rw (
      ← c.number_at-n.ensures.0,
      le-leb _ _ c.if-n-gt-MAX_TYPES.false,
      ← c.are_legal_types-types.ensures,
      not-true c.are_legal_types-types.result c.if-not-types.true-raw,
    )

pub returns-then-u16_at-m : goal.returns-then-u16_at-m
unfolding legal
returns-then-u16_at-m c =
    rw (
      ← c.number_at-n.ensures.0,
      le-leb _ _ c.if-n-gt-MAX_TYPES.false,
      ← c.are_legal_types-types.ensures,
      not-false c.are_legal_types-types.result c.if-not-types.false-raw,
      ← c.parameters_before-m.ensures.0,
      ← c.u16_at.ensures,
      ne_eqb _ _ c.if-u16_at-m.true,
    )

pub returns-then-s-from : goal.returns-then-s-from
unfolding legal
returns-then-s-from c =
    rw (
      ← c.number_at-n.ensures.0,
      le-leb _ _ c.if-n-gt-MAX_TYPES.false,
      ← c.are_legal_types-types.ensures,
      not-false c.are_legal_types-types.result c.if-not-types.false-raw,
      ← c.parameters_before-m.ensures.0,
      ← c.u16_at.ensures,
      eq-eqb _ _ c.if-u16_at-m.false,
      ne_eqb _ _ c.if-s-from.true,
      and-false,
    )

pub returns : goal.returns
unfolding legal
returns c =
    let l = c.if-s-from.false in
    rw (
      ← c.number_at-n.ensures.0,
      le-leb _ _ c.if-n-gt-MAX_TYPES.false,
      ← c.are_legal_types-types.ensures,
      not-false c.are_legal_types-types.result c.if-not-types.false-raw,
      ← c.parameters_before-m.ensures.0,
      ← c.u16_at.ensures,
      eq-eqb _ _ c.if-u16_at-m.false,
      eq-eqb _ _ l,
      and-true,
    )
    (c.are_legal_parameters.ensures ∙ every-behind parameter_legal c.args.s.now _ _ l)
