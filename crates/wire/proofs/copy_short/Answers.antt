-- `wire::copy_short` meets its contract.
use mathlib.Core.Path.{sym, ◌∙◌}
use native.Mathlib.Omega.{arith}
use lib.ListN.{length}
use borrow.Author.Tests.{ne_eqb}
use Rattle.wire.proofs.Buffers.{replaced-all, replaced-none}
use Rattle.wire.proofs.copy_short.Goals as goal

pub returns-then-dst-src : goal.returns-then-dst-src
returns-then-dst-src c =
    let a = c.args in
    rw (ne_eqb (length a.dst.now) (length a.src.now) c.if-dst-src.true)

pub returns-then-src-le-SHORT : goal.returns-then-src-le-SHORT
returns-then-src-le-SHORT c =
    let a = c.args in
    c.copy_few.ensures ∙ sym (replaced-all a.dst.now a.src.now c.if-dst-src.false (omega arith))

pub returns-then-src-le-BLOCK : goal.returns-then-src-le-BLOCK
returns-then-src-le-BLOCK c =
    let a = c.args in
    c.copy_block.ensures ∙ sym (replaced-all a.dst.now a.src.now c.if-dst-src.false c.if-src-le-BLOCK.true)

pub returns-else-src-le-BLOCK : goal.returns-else-src-le-BLOCK
returns-else-src-le-BLOCK c =
    let a = c.args in
    sym (replaced-none a.dst.now a.src.now c.if-dst-src.false c.if-src-le-BLOCK.false)
