-- `text_decode::known::known_char` meets its contract.
use mathlib.Core.Path.{refl}
use native.Mathlib.Omega.{arith}
use Rattle.text_check.proofs.Spans.{char-escape}
use Rattle.text_decode.proofs.Knowns.{known_as, known_same}
use Rattle.text_decode.proofs.Letters.{char-inside, char-small, char-plain}
use Rattle.text_decode.proofs.known.known_char.Goals as goal

pub bounds-text-at : goal.bounds-text-at
bounds-text-at c = char-inside c.args.text.now c.args.at c.requires

pub known_escape-requires : goal.known_escape-requires
known_escape-requires c =
    let inside = char-inside c.args.text.now c.args.at c.requires in
    rw (char-escape c.args.text.now c.args.at inside c.if-c-eq92.true) at c.requires

pub returns-then-c-eq92 : goal.returns-then-c-eq92
returns-then-c-eq92 c =
    let inside = char-inside c.args.text.now c.args.at c.requires in
    known_same (char-escape c.args.text.now c.args.at inside c.if-c-eq92.true) c.known_escape.ensures

pub overflow_cast-result : goal.overflow_cast-result
overflow_cast-result c =
    omega (arith, char-small c.args.text.now c.args.at c.requires c.if-c-eq92.false)

pub overflow_add-result : goal.overflow_add-result
overflow_add-result c = omega (arith, char-inside c.args.text.now c.args.at c.requires)

pub returns : goal.returns
returns c =
    known_as _ _ 1 c.args.at _ (char-plain c.args.text.now c.args.at c.requires c.if-c-eq92.false) refl refl
