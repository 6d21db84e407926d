-- `text_check::token::payload_of` meets its contract.
use Prim.Native.Nat.{◌+◌}
use mathlib.Core.Path.{◌≡◌, ◌∙◌}
use native.Mathlib.Omega.{arith}
use Rattle.text_check.proofs.Counters.{at-most-over, at-most-is}
use Rattle.text_check.proofs.token.payload_of.Goals as goal

pub returns-then-stored-ge-LIST_LIMIT : goal.returns-then-stored-ge-LIST_LIMIT
returns-then-stored-ge-LIST_LIMIT c = let a = c.args in
    at-most-over (4 + (a.stored + a.tail)) (omega arith)

pub returns-then-n-gt-LIST_LIMIT : goal.returns-then-n-gt-LIST_LIMIT
returns-then-n-gt-LIST_LIMIT c = let a = c.args in
    at-most-over (4 + (a.stored + a.tail)) (omega arith)

pub returns : goal.returns
returns c = let a = c.args in
    let e : 4 + a.stored + a.tail ≡ 4 + (a.stored + a.tail) = omega arith in
    e ∙ at-most-is (4 + (a.stored + a.tail)) (omega arith)
