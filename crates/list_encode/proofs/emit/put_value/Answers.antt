-- `list_encode::emit::put_value` meets its contract: the kind that was found is that of the code.
use mathlib.Core.Path.{sym, ◌∙◌}
use Rattle.list_rows.specs.Row.{stored}
use Rattle.list_encode.proofs.emit.put_value.Goals as goal

pub put_kind-requires : goal.put_kind-requires
unfolding stored
put_kind-requires c =
    let e = sym c.in-Some.ensures in
    (rw e at c.requires.0, c.requires.1, rw e at c.requires.2)

pub returns-in-Some : goal.returns-in-Some
returns-in-Some c =
    rw (sym c.in-Some.ensures) c.put_kind.ensures

pub returns-in_default : goal.returns-in_default
returns-in_default c = rw (sym c.of_code.ensures ∙ c.in_default.is)
