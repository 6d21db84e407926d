-- `text_decode::element::put_vocab` meets its contract.
use mathlib.Core.Path.{refl}
use lib.ListN.{drop}
use Rattle.list.specs.Tree.{vocab}
use Rattle.text.specs.Read.{vocab_at}
use Rattle.text_decode.proofs.Knowns.{got-first}
use Rattle.text_decode.proofs.Values.{word-put}
use Rattle.text_decode.proofs.element.put_vocab.Goals as goal

pub known_letters-vocab-requires : goal.known_letters-vocab-requires
known_letters-vocab-requires c =
    got-first (vocab_at (drop c.args.x.pos c.args.text.now)) _ c.requires.there

pub returns : goal.returns
returns c =
    word-put vocab (vocab_at (drop c.args.x.pos c.args.text.now)) c.requires.there c.known_letters-vocab.ensures refl c.put_row.ensures
