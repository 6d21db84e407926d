-- `list_check::string_end` meets its contract.
use Prim.Native.Nat.{◌+◌, ◌-◌}
use mathlib.Core.Path.{◌≡◌, sym}
use native.Mathlib.Omega.{arith}
use borrow.Author.Tests.{lt-ltb, le-ltb, le-leb, lt-leb}
use Rattle.list.specs.Parse.{value_at, string_at}
use Rattle.list_check.proofs.Told.{told-end, item-missing, there}
use borrow.Author.Rules.{rules}
use Rattle.list_check.proofs.string_end.Goals as goal

pub returns-then-length-lt-TERMINATOR : goal.returns-then-length-lt-TERMINATOR
unfolding value_at string_at
returns-then-length-lt-TERMINATOR c =
    let a = c.args in
    let p = c.requires in
    rw (there a.s.now a.at 4 p.1 p.0, ← c.u32_at-length.ensures, lt-ltb _ _ c.if-length-lt-TERMINATOR.true) c.refuse.ensures

pub returns-then-length-ge-NEGATIVE : goal.returns-then-length-ge-NEGATIVE
unfolding value_at string_at
returns-then-length-ge-NEGATIVE c =
    let a = c.args in
    let p = c.requires in
    rw (there a.s.now a.at 4 p.1 p.0, ← c.u32_at-length.ensures, le-ltb _ _ c.if-length-lt-TERMINATOR.false, le-leb _ _ c.if-length-ge-NEGATIVE.true)
    c.refuse-then-length-ge-NEGATIVE.ensures

pub returns-then-s-first : goal.returns-then-s-first
unfolding value_at string_at
returns-then-s-first c =
    let a = c.args in
    let p = c.requires in
    let n = c.u32_at-length.result in
    rw (there a.s.now a.at 4 p.1 p.0, ← c.u32_at-length.ensures, le-ltb _ _ c.if-length-lt-TERMINATOR.false, lt-leb _ _ c.if-length-ge-NEGATIVE.false)
    (rw (item-missing a.s.now (a.at + 4) n _ c.if-s-first.true) c.missing.ensures)

pub returns-then-is_closed : goal.returns-then-is_closed
unfolding value_at string_at
returns-then-is_closed c =
    let a = c.args in
    let p = c.requires in
    let n = c.u32_at-length.result in
    let w : a.at + 4 + n - (a.at + 4) ≡ n = omega arith in
    rw (there a.s.now a.at 4 p.1 p.0, ← c.u32_at-length.ensures, le-ltb _ _ c.if-length-lt-TERMINATOR.false, lt-leb _ _ c.if-length-ge-NEGATIVE.false)
    (rw (there a.s.now (a.at + 4) n p.1 c.if-s-first.false, rw w at (sym c.is_closed.ensures), c.if-is_closed.true) (told-end _ (search rules)))

pub returns : goal.returns
unfolding value_at string_at
returns c =
    let a = c.args in
    let p = c.requires in
    let n = c.u32_at-length.result in
    let w : a.at + 4 + n - (a.at + 4) ≡ n = omega arith in
    rw (there a.s.now a.at 4 p.1 p.0, ← c.u32_at-length.ensures, le-ltb _ _ c.if-length-lt-TERMINATOR.false, lt-leb _ _ c.if-length-ge-NEGATIVE.false)
    (rw (there a.s.now (a.at + 4) n p.1 c.if-s-first.false, rw w at (sym c.is_closed.ensures), c.if-is_closed.false) c.refuse-2.ensures)
