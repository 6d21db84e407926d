-- `list_check::front_fault` meets its contract.
use mathlib.Core.Path.{sym, ◌∙◌}
use native.Mathlib.Omega.{arith}
use Rattle.list.specs.Limits.{depth_limit}
use Rattle.list.specs.Parse.{parse}
use Rattle.list_check.proofs.Told.{item-missing, there, may-enclose, told_in}
use Rattle.list_check.proofs.Mixed.{short}
use Rattle.list_check.proofs.front_fault.Goals as goal

pub returns-then-s-lt-NUMBER : goal.returns-then-s-lt-NUMBER
unfolding parse
returns-then-s-lt-NUMBER c = rw (item-missing c.args.s.now 0 4 _ c.if-s-lt-NUMBER.true) c.missing.ensures

pub returns-then-is_list_code : goal.returns-then-is_list_code
unfolding parse
returns-then-is_list_code c =
    let s = c.args.s.now in
    let l = sym c.is_list_code.ensures ∙ c.if-is_list_code.true in
    rw (there s 0 4 (omega arith) c.if-s-lt-NUMBER.false, ← c.u32_at.ensures, l, short depth_limit s 0 c.u32_at.result (λ e. omega arith) (omega arith))
    (told_in _ _ _ c.missing-then-is_list_code.ensures c.in_list.ensures)

pub returns : goal.returns
unfolding parse
returns c =
    let l = sym c.is_list_code.ensures ∙ c.if-is_list_code.false in
    rw (there c.args.s.now 0 4 (omega arith) c.if-s-lt-NUMBER.false, ← c.u32_at.ensures, l) c.refuse.ensures

pub in_list-requires : goal.in_list-requires
in_list-requires c = may-enclose _ _ _ c.missing-then-is_list_code.ensures
