-- `output::has_line_room` meets its contract.
use Prim.Native.Nat.{◌+◌}
use mathlib.Core.Path.{sym}
use native.Mathlib.Omega.{arith}
use lib.ListN.{length}
use borrow.Author.Tests.{lt-leb}
use borrow.Author.Rules.{rules}
use Rattle.output.specs.Output.{list_line_room}
use Rattle.output.proofs.Putting.{room-left}
use Rattle.output.proofs.has_line_room.Goals as goal

pub returns-then-out-lt-LIST_LINE_ROOM : goal.returns-then-out-lt-LIST_LINE_ROOM
returns-then-out-lt-LIST_LINE_ROOM c =
    let a = c.args in
    sym (lt-leb (a.used + list_line_room) (length a.out.now) (omega arith))

pub returns : goal.returns
returns c =
    let a = c.args in
    room-left a.used (length a.out.now) list_line_room (search rules)
