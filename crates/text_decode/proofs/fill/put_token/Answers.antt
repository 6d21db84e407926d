-- `text_decode::fill::put_token` meets its contract.
use Rattle.text_decode.proofs.Stages.{outer-there, goes-closed}
use Rattle.text_decode.proofs.fill.put_token.Goals as goal

pub close_list-outer-requires : goal.close_list-outer-requires
close_list-outer-requires c = outer-there c.requires.stage

pub returns-then-text-at-eq41 : goal.returns-then-text-at-eq41
returns-then-text-at-eq41 c =
    let a = c.args in
    goes-closed a.text.now a.x a.rows.now a.store.now c.requires.some_left c.if-text-at-eq41.true _ _ c.close_list-outer.ensures.0 c.close_list-outer.ensures.1

pub put_element-requires : goal.put_element-requires
put_element-requires c =
    record { ready = c.requires; other = c.if-text-at-eq41.false }

pub returns : goal.returns
returns c = c.put_element.ensures
