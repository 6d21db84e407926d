-- `show::put_list` meets its contract: the fronts of both areas are the list's rows and its store.
use Rattle.show.proofs.Holding.{held_writes}
use Rattle.show.proofs.put_list.Goals as goal

pub put_text-requires : goal.put_text-requires
put_text-requires c =
    let given = c.requires in
    let es = given.0.0 in
    ((es, (given.0.1.legal, held_writes es given.0.1)), given.1)

pub returns-clause-line : goal.returns-clause-line
returns-clause-line c = λ es held. c.put_text.ensures.line es (held_writes es held)
