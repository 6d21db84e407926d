-- `list_check::in_list` meets its contract: the number and the offset stay, and one list more is counted.
use Prim.Native.Nat.{suc, ◌+◌, ◌*◌, ◌/◌, ◌%◌}
use mathlib.Core.Path.{◌≡◌}
use native.Mathlib.Omega.{arith}
use borrow.Author.Tests.{lt-ltb}
use Rattle.list.specs.Limits.{list_limit}
use Rattle.list_check.specs.Steps.{told_by, depth_of}
use Rattle.list_check.proofs.in_list.Goals as goal

pub returns : goal.returns
unfolding told_by
returns c =
    let j = c.args.j in
    let level = 256 * (2 * list_limit) in
    let number : (level + j) / (2 * list_limit) % 256 ≡ j / (2 * list_limit) % 256 = omega arith in
    let offset : (level + j) % (2 * list_limit) ≡ j % (2 * list_limit) = omega arith in
    let depth : depth_of (level + j) ≡ suc (depth_of j) = omega arith in
    rw (lt-ltb list_limit (level + j) (omega arith), lt-ltb list_limit j c.requires.0, number, offset, depth)

pub overflow_add-result : goal.overflow_add-result
overflow_add-result c = record { fits = omega (arith, c.requires.1) }
