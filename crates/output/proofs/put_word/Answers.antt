-- `output::put_word` meets its contract: a number of 32 bits has no more than eight digits.
use mathlib.Core.Path.{◌∙◌}
use borrow.Author.Rules.{rules}
use Rattle.output.proofs.Digits.{word-digits}
use Rattle.output.proofs.put_word.Goals as goal

pub returns : goal.returns
returns c =
    let n = c.args.n in
    let d = c.hex-count in
    rw (d.ensures.digits ∙ word-digits d.result n (search rules) d.ensures.len) at c.put.ensures
