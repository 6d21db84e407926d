-- `list_check::refuse` meets its contract: the number and the offset can be taken out of the sum again.
use Prim.Native.Nat.{ℕ, ◌<◌, ◌+◌, ◌*◌, ◌/◌, ◌%◌}
use mathlib.Core.Path.{◌≡◌, ap}
use native.Mathlib.Omega.{arith}
use borrow.Author.Tests.{lt-ltb}
use Rattle.list.specs.Limits.{list_limit}
use Rattle.list.specs.Refusal.{refusal}
use Rattle.list_check.specs.Check.{refused}
use Rattle.list_check.specs.Steps.{told_by}
use Rattle.list_check.proofs.refuse.Goals as goal

pub returns : goal.returns
unfolding told_by
returns c =
    let n = c.number.result in
    let some : 0 < n = omega (arith, c.requires.0, c.number.ensures) in
    let o = c.args.offset in
    let e : (2 * list_limit * n + o) / (2 * list_limit) % 256 ≡ n = omega arith in
    let f : (2 * list_limit * n + o) % (2 * list_limit) ≡ o = omega arith in
    let d : (2 * list_limit * n + o) / (256 * (2 * list_limit)) ≡ 0 = omega arith in
    rw (lt-ltb list_limit (2 * list_limit * n + o) (omega arith), e, f, d)
    (ap (λ (m : ℕ). refused (refusal m o)) c.number.ensures)
