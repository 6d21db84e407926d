-- `wire::copy_at` meets its contract: a part of the buffer is replaced, or nothing where the source does not fit.
use Prim.Native.Nat.{◌+◌, ◌-◌}
use mathlib.Core.Path.{sym, ap, ◌∙◌}
use native.Mathlib.Omega.{arith}
use lib.ListN.{length}
use borrow.Rule.Slice.PartMut.{put_mid}
use Rattle.wire.proofs.Buffers.{put-none, put-part}
use Rattle.wire.proofs.copy_at.Goals as goal

pub returns-then-dst-at : goal.returns-then-dst-at
returns-then-dst-at c =
    let a = c.args in
    sym (put-none a.dst.now a.at a.src.now (omega arith))

pub returns-then-dst-at-2 : goal.returns-then-dst-at-2
returns-then-dst-at-2 c =
    let a = c.args in
    sym (put-none a.dst.now a.at a.src.now (omega arith))

pub returns : goal.returns
returns c =
    let a = c.args in
    ap (λ l. put_mid a.at (a.at + length a.src.now - a.at) a.dst.now l) c.copy.ensures
    ∙ put-part a.dst.now a.at a.src.now (omega arith)
