use Prim.Native.Nat.{◌+◌, ◌-◌, ◌≤◌, ◌<◌}
use mathlib.Core.Path.{◌≡◌, sym, ap, ◌∙◌}
use native.Mathlib.Omega.{arith}
use lib.ListN.{length}
use borrow.Author.Tests.{ltb-true, le-leb, lt-leb}
use Rattle.list.specs.declared.Kind.TheVariants.{Int, Float, Str, Blob, Vocab}
use Rattle.list.specs.Limits.{list_limit}
use Rattle.list.specs.Kind.{kind_of}
use Rattle.list.specs.Parse.{list_at}
use Rattle.list.proofs.Codes.{kind-of-code}
use Rattle.list_check.specs.Check.{judged}
use Rattle.list_check.proofs.Told.{may-enclose, told_in}
use Rattle.list_check.proofs.Typed.{value-enclose}
use Rattle.list_check.proofs.Codes.{list-high, list-typed, no_kind}
use Rattle.list_check.proofs.Mixed.{list-depth, coded-depth, shallow, is_negative, is-typed, is-mixed, coded-missing, coded-unknown}
use Rattle.list_check.proofs.Mixed.{turn-fault, turn-value, turn-fixed, turn-stop, turn-list, turn-bad, mixed-done}
use Rattle.list_check.proofs.+check_list.Goals.{in-1, in-9, in-10+else-s-next, in-4+else-is_refused, in-12+else-is_refused-2, in_default+else-not-is_list_code+else-is_refused-3}
use Rattle.list_check.proofs.+check_list.Goals as goal

pub returns-then-depth-eq0 : goal.returns-then-depth-eq0
returns-then-depth-eq0 t c = c.refuse.ensures ∙ sym (ap judged (shallow _ _ _ _ c.if-depth-eq0.true))

pub in_list-requires : goal.in_list-requires
in_list-requires t c = may-enclose _ _ _ c.refuse-then-count-ge-NEGATIVE.ensures

pub returns-then-count-ge-NEGATIVE : goal.returns-then-count-ge-NEGATIVE
returns-then-count-ge-NEGATIVE t c =
    let p = c.requires in
    told_in _ _ _ c.refuse-then-count-ge-NEGATIVE.ensures c.in_list.ensures
    ∙ sym (is_negative _ _ _ _ _ c.if-depth-eq0.false p.1 p.0 p.3 (le-leb _ _ c.if-count-ge-NEGATIVE.true))

pub overflow_sub-code : goal.overflow_sub-code
overflow_sub-code t c = list-high _ c.requires.2

pub returns-then-code-ne-LIST_CODE : goal.returns-then-code-ne-LIST_CODE
returns-then-code-ne-LIST_CODE t c =
    let p = c.requires in
    let k = list-typed _ p.2 c.if-code-ne-LIST_CODE.true in
    c.typed_list.ensures k.0 (omega (arith, k.1))
    ∙ is-typed _ _ _ _ _ c.if-depth-eq0.false p.1 p.0 p.3 (lt-leb _ _ c.if-count-ge-NEGATIVE.false) k.0 k.1

pub loop-done-init : goal.loop-done-init
loop-done-init t c =
    let p = c.requires in
    let all : c.args.count - 0 ≡ c.args.count = omega arith in
    rw all (is-mixed _ _ _ _ _ c.if-depth-eq0.false p.1 p.0 p.3 (lt-leb _ _ c.if-count-ge-NEGATIVE.false) c.if-code-ne-LIST_CODE.false, omega arith)

pub overflow_sub-depth : goal.overflow_sub-depth
overflow_sub-depth t c = omega (arith, c.if-depth-eq0.false)

-- an element of which less than its code and a number is there
pub in_list-requires-then-s-pos : goal.in_list-requires-then-s-pos
in_list-requires-then-s-pos t c =
    let a = c.args in
    let p = c.requires in
    let d = coded-depth (a.depth - 1) _ _ _ c.tail_fault.ensures in
    (d.0, omega (arith, d.1, p.4, c.if-depth-eq0.false))

pub returns-then-s-pos : goal.returns-then-s-pos
returns-then-s-pos t c =
    turn-fault _ _ _ _ _ _ _ _ _ c.loop-done.invariant.0 (omega arith) c.tail_fault.ensures c.in_list-then-s-pos.ensures

pub in_list-requires-then-s-next : goal.in_list-requires-then-s-next
in_list-requires-then-s-next t c = may-enclose _ _ _ c.missing_value.ensures

pub returns-then-s-next : goal.returns-then-s-next
returns-then-s-next t c =
    let a = c.args in
    let p = c.requires in
    let k = ap kind_of c.in-10.is ∙ kind-of-code Float in
    let e =
    coded-missing (list_at (a.depth - 1) list_limit a.s.now) a.s.now c.loop-done.pos _ p.1 (omega (arith, c.if-s-pos.false)) c.u32_at-kind.ensures
    Float k (omega (arith, c.if-s-next.true, c.behind-next.ensures)) in
    turn-fault _ _ _ _ _ _ _ _ _ c.loop-done.invariant.0 (omega arith) (rw e c.missing_value.ensures) c.in_list-then-s-next.ensures

pub in_list-requires-then-is_refused : goal.in_list-requires-then-is_refused
in_list-requires-then-is_refused t c = value-enclose _ Str _ _ c.string_end-next.ensures (sym c.is_refused.ensures ∙ c.if-is_refused.true)

pub returns-then-is_refused : goal.returns-then-is_refused
returns-then-is_refused t c =
    let p = c.requires in
    turn-stop _ _ _ _ _ _ _ c.loop-done.invariant.0 (omega arith) p.1 (omega (arith, c.if-s-pos.false))
    Str _ _ (sym c.u32_at-kind.ensures ∙ c.in-4.is) c.string_end-next.ensures
    (sym c.is_refused.ensures ∙ c.if-is_refused.true) c.in_list-then-is_refused.ensures

pub in_list-requires-then-is_refused-2 : goal.in_list-requires-then-is_refused-2
in_list-requires-then-is_refused-2 t c = value-enclose _ Blob _ _ c.blob_end-next.ensures (sym c.is_refused-in-12.ensures ∙ c.if-is_refused-2.true)

pub returns-then-is_refused-2 : goal.returns-then-is_refused-2
returns-then-is_refused-2 t c =
    let p = c.requires in
    turn-stop _ _ _ _ _ _ _ c.loop-done.invariant.0 (omega arith) p.1 (omega (arith, c.if-s-pos.false))
    Blob _ _ (sym c.u32_at-kind.ensures ∙ c.in-12.is) c.blob_end-next.ensures
    (sym c.is_refused-in-12.ensures ∙ c.if-is_refused-2.true) c.in_list-then-is_refused-2.ensures

pub in_list-requires-then-not-is_list_code : goal.in_list-requires-then-not-is_list_code
in_list-requires-then-not-is_list_code t c = may-enclose _ _ _ c.refuse-then-not-is_list_code.ensures

pub returns-then-not-is_list_code : goal.returns-then-not-is_list_code
returns-then-not-is_list_code t c =
    let a = c.args in
    let p = c.requires in
    let k = no_kind c.u32_at-kind.result (λ e. omega arith) (λ e. omega arith) (λ e. omega arith) (λ e. omega arith) (λ e. omega arith) in
    let l = sym c.is_list_code.ensures ∙ c.if-not-is_list_code.true in
    let e =
    coded-unknown (list_at (a.depth - 1) list_limit a.s.now) a.s.now c.loop-done.pos _ p.1 (omega (arith, c.if-s-pos.false)) c.u32_at-kind.ensures
    k l in
    turn-fault _ _ _ _ _ _ _ _ _ c.loop-done.invariant.0 (omega arith) (rw e c.refuse-then-not-is_list_code.ensures) c.in_list-then-not-is_list_code.ensures

pub overflow_sub-depth-in_default : goal.overflow_sub-depth-in_default
overflow_sub-depth-in_default t c = omega (arith, c.if-depth-eq0.false)

pub check_list-next-requires : goal.check_list-next-requires
check_list-next-requires t c =
    let p = c.requires in
    let in₈ = c.if-s-pos.false in (
      omega (arith, c.if-depth-eq0.false, p.0),
      (omega (arith, in₈), p.1, sym c.is_list_code.ensures ∙ c.if-not-is_list_code.false, c.u32_at.ensures, omega (arith, p.4)),
    )

-- at most as many lists are open in the inner list as may stand in it
pub in_list-requires-then-is_refused-3 : goal.in_list-requires-then-is_refused-3
in_list-requires-then-is_refused-3 t c =
    let p = c.requires in
    let d = list-depth _ _ _ _ _ c.check_list-next.ensures in
    (ltb-true _ _ (sym c.is_refused-in_default.ensures ∙ c.if-is_refused-3.true), omega (arith, d, p.4, c.if-depth-eq0.false))

pub returns-then-is_refused-3 : goal.returns-then-is_refused-3
returns-then-is_refused-3 t c =
    let p = c.requires in
    let l = sym c.is_list_code.ensures ∙ c.if-not-is_list_code.false in
    turn-bad _ _ _ _ _ _ _ c.loop-done.invariant.0 (omega arith) p.1 (omega (arith, c.if-s-pos.false))
    _ _ c.u32_at-kind.ensures l c.check_list-next.ensures _ (sym c.is_refused-in_default.ensures ∙ c.if-is_refused-3.true) c.in_list-then-is_refused-3.ensures

pub loop-done-preserved : goal.loop-done-preserved
loop-done-preserved t c =
    let s = c.args.s.now in
    let inv = c.loop-done.invariant.0 in
    let more : 0 < c.args.count - c.loop-done.done = omega arith in
    let next : c.args.count - (c.loop-done.done + 1) ≡ c.args.count - c.loop-done.done - 1 = omega arith in
    let cut = c.requires.1 in
    let word = sym c.u32_at-kind.ensures in
    let in₈ : c.loop-done.pos + 8 ≤ length s = c.if-s-pos.false in
    let in₄ : c.loop-done.pos + 4 ≤ length s = omega (arith, in₈) in
    rw next (elim c.match-kind.branch [
      | in-1 w ↦ rw (w.seen-is ∙ w.common_code-seen.ensures, w.pos-is ∙ w.behind-pos.ensures)
          (turn-fixed _ _ _ _ _ _ _ inv more cut in₄ Int tt (word ∙ w.in-1.is) (omega (arith, in₈)))
      | in-9 w ↦ rw (w.seen-is ∙ w.common_code-seen-in-9.ensures, w.pos-is ∙ w.behind-pos-in-9.ensures)
          (turn-fixed _ _ _ _ _ _ _ inv more cut in₄ Vocab tt (word ∙ w.in-9.is) (omega (arith, in₈)))
      | in-10+else-s-next w ↦ rw (w.seen-is ∙ w.common_code-seen-in-10.ensures, w.pos-is ∙ w.behind-next.ensures)
          (turn-fixed _ _ _ _ _ _ _ inv more cut in₄ Float tt (word ∙ w.in-10.is) (omega (arith, w.behind-next.ensures, w.if-s-next.false)))
      | in-4+else-is_refused w ↦ rw (w.seen-is ∙ w.common_code-seen-in-4.ensures, w.pos-is)
          (turn-value _ _ _ _ _ _ _ inv more cut in₄ Str _ (word ∙ w.in-4.is) w.string_end-next.ensures (sym w.is_refused.ensures ∙ w.if-is_refused.false))
      | in-12+else-is_refused-2 w ↦ rw (w.seen-is ∙ w.common_code-seen-in-12.ensures, w.pos-is)
          (turn-value _ _ _ _ _ _ _ inv more cut in₄ Blob _ (word ∙ w.in-12.is) w.blob_end-next.ensures (sym w.is_refused-in-12.ensures ∙ w.if-is_refused-2.false))
      | in_default+else-not-is_list_code+else-is_refused-3 w ↦ rw (w.seen-is, w.pos-is)
          (turn-list _ _ _ _ _ _ _ inv more cut in₄ _ _ c.u32_at-kind.ensures (sym w.is_list_code.ensures ∙ w.if-not-is_list_code.false) w.check_list-next.ensures
          (sym w.is_refused-in_default.ensures ∙ w.if-is_refused-3.false))
    ])

pub returns : goal.returns
returns t c = c.close.ensures ∙ sym (c.loop-done.invariant.0 ∙ mixed-done _ _ _ _ _ _ (omega arith))
