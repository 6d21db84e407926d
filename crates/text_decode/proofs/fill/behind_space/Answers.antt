-- `text_decode::fill::behind_space` meets its contract.
use lib.ListN.{get_or}
use borrow.Author.Tests.{eq-eqb, ne_eqb}
use Rattle.text_decode.proofs.fill.behind_space.Goals as goal

pub returns-then-text-pos-eq32 : goal.returns-then-text-pos-eq32
returns-then-text-pos-eq32 c =
    let a = c.args in
    rw (eq-eqb (get_or a.text.now a.pos 0) 32 c.if-text-pos-eq32.true)

pub returns : goal.returns
returns c =
    let a = c.args in
    rw (ne_eqb (get_or a.text.now a.pos 0) 32 c.if-text-pos-eq32.false)
