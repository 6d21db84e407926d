-- `output::put_number` meets its contract: the digits that `io::decimal` puts are the decimal digits.
use Prim.Native.Nat.{◌+◌}
use mathlib.Core.Path.{ap, ◌∙◌}
use mathlib.Core.List.{[], ◌∷◌}
use borrow.Author.Rules.{rules}
use Rattle.digits.specs.Decimal.{decimal}
use Rattle.output.specs.Output.{put, puts}
use Rattle.output.proofs.Digits.{decimal-digits, decimal-one}
use Rattle.output.proofs.put_number.Goals as goal

pub returns-then-n-lt10 : goal.returns-then-n-lt10
unfolding puts
returns-then-n-lt10 c =
    let n = c.args.n in
    let one = decimal-one n (search rules) in
    rw one (c.put.ensures ∙ ap (λ t. put t ((48 + n) ∷ [])) c.put-at.ensures)

pub returns : goal.returns
unfolding puts
returns c =
    let n = c.args.n in
    let d = c.decimal-count in
    let second = rw (d.ensures.digits ∙ decimal-digits d.result n (search rules) d.ensures.len) at c.put-2.ensures in
    second ∙ ap (λ t. put t (decimal n)) c.put-at.ensures
