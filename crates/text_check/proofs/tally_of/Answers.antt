use mathlib.Core.Path.{sym, ap, ◌∙◌}
use native.Mathlib.Omega.{arith}
use Rattle.text_check.specs.declared.tally.Tally.{Tally}
use Rattle.text_check.proofs.Turns.{goes-start, goes-wrong, goes-payload, goes-closed, goes_on, goes-counts, goes_end}
use Rattle.text_check.proofs.tally_of.Goals as goal

pub loop-pos-init : goal.loop-pos-init
loop-pos-init c = goes-start _ _ c.start-tally.ensures

pub returns-in_err-token : goal.returns-in_err-token
returns-in_err-token c =
    let x = c.loop-pos in
    rw c.from_residual.ensures (goes-wrong _ x.pos x.first x.tally x.invariant c.loop-pos-test.true c.in_err-token.ensures.0)

pub after-tally-requires : goal.after-tally-requires
after-tally-requires c =
    let x = c.loop-pos in (
      x.invariant.kept.small,
      x.invariant.some-open,
      omega arith,
      goes-payload _ x.pos x.first x.tally x.invariant c.loop-pos-test.true c.in_ok-token.token c.in_ok-token.ensures,
    )

pub returns-then-tally-eq0 : goal.returns-then-tally-eq0
returns-then-tally-eq0 c =
    let x = c.loop-pos in
    goes-closed _ x.pos x.first x.tally x.invariant c.loop-pos-test.true c.in_ok-token.token c.in_ok-token.ensures
    (sym (ap (λ (t : Tally). t.depth) c.after-tally.ensures) ∙ c.if-tally-eq0.true)

pub overflow_add-pos : goal.overflow_add-pos
overflow_add-pos c =
    let x = c.loop-pos in
    let k = goes-counts _ x.pos x.first x.tally x.invariant c.loop-pos-test.true c.in_ok-token.token c.in_ok-token.ensures in
    omega (arith, c.count-count.ensures)

pub loop-pos-smaller : goal.loop-pos-smaller
loop-pos-smaller c =
    let x = c.loop-pos in
    let k = goes-counts _ x.pos x.first x.tally x.invariant c.loop-pos-test.true c.in_ok-token.token c.in_ok-token.ensures in
    omega (arith, c.count-count.ensures)

pub loop-pos-preserved : goal.loop-pos-preserved
loop-pos-preserved c =
    let x = c.loop-pos in
    rw (c.count-count.ensures, c.opens-first.ensures, c.after-tally.ensures)
    (goes_on _ x.pos x.first x.tally x.invariant c.loop-pos-test.true c.in_ok-token.token c.in_ok-token.ensures
    (λ d. c.if-tally-eq0.false (ap (λ (t : Tally). t.depth) c.after-tally.ensures ∙ d)))

pub returns : goal.returns
returns c =
    let x = c.loop-pos in
    goes_end _ x.pos x.first x.tally x.invariant c.loop-pos-test.false
