-- `output::put` meets its contract: the piece is copied where it fits.
use Prim.Native.Nat.{◌+◌, ◌≤◌}
use mathlib.Core.Path.{sym, ap, ◌∙◌}
use native.Mathlib.Omega.{arith}
use lib.ListN.{length}
use Rattle.wire.proofs.Buffers.{put-fits as area-fits}
use Rattle.output.specs.Output.{output}
use Rattle.output.proofs.Putting.{put-fits, put-out}
use Rattle.output.proofs.put.Goals as goal

pub returns-then-piece-out : goal.returns-then-piece-out
returns-then-piece-out c =
    let a = c.args in
    let room : a.used + length a.piece.now ≤ length a.out.now = omega arith in
    ap (λ l. output l (a.used + length a.piece.now)) (c.copy_at.ensures ∙ area-fits a.out.now a.used a.piece.now room)
    ∙ sym (put-fits a.out.now a.used a.piece.now room)

pub returns-else-piece-out : goal.returns-else-piece-out
returns-else-piece-out c =
    let a = c.args in
    put-out a.out.now a.used a.piece.now (omega arith)

pub returns-else-used-out : goal.returns-else-used-out
returns-else-used-out c =
    let a = c.args in
    put-out a.out.now a.used a.piece.now (omega arith)
