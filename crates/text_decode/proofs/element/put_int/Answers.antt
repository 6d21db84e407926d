-- `text_decode::element::put_int` meets its contract.
use mathlib.Core.Path.{refl}
use lib.ListN.{drop}
use Rattle.list.specs.Tree.{int}
use Rattle.text.specs.Read.{int_at, int_value}
use Rattle.text_decode.proofs.Knowns.{got-first}
use Rattle.text_decode.proofs.Values.{word-put}
use Rattle.text_decode.proofs.element.put_int.Goals as goal

pub known_int-int-requires : goal.known_int-int-requires
known_int-int-requires c =
    (c.requires.0, got-first (int_at (drop c.args.x.pos c.args.text.now)) int_value c.requires.1.there)

pub returns : goal.returns
returns c =
    word-put int (int_at (drop c.args.x.pos c.args.text.now)) c.requires.1.there c.known_int-int.ensures refl c.put_row.ensures
