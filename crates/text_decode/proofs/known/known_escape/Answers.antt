-- `text_decode::known::known_escape` meets its contract.
use Prim.Native.Nat.{◌+◌}
use mathlib.Core.Path.{refl, sym, ◌∙◌}
use native.Mathlib.Omega.{arith}
use lib.ListN.{get_or}
use Rattle.text_value.proofs.Bounds.{marked-range}
use Rattle.text_decode.proofs.Knowns.{known_as}
use Rattle.text_decode.proofs.Letters.{escape-inside, escape-mark, escape-octal}
use Rattle.text_decode.proofs.known.known_escape.Goals as goal

pub overflow_add-c : goal.overflow_add-c
overflow_add-c c = omega (arith, escape-inside c.args.text.now (c.args.at + 1) c.requires)

pub bounds-text-at : goal.bounds-text-at
bounds-text-at c = escape-inside c.args.text.now (c.args.at + 1) c.requires

pub overflow_cast-result : goal.overflow_cast-result
overflow_cast-result c =
    omega (arith, marked-range (get_or c.args.text.now (c.args.at + 1) 0) (sym c.is_marked.ensures ∙ c.if-is_marked.true))

pub overflow_add-result : goal.overflow_add-result
overflow_add-result c = omega (arith, escape-inside c.args.text.now (c.args.at + 1) c.requires)

pub returns-then-is_marked : goal.returns-then-is_marked
returns-then-is_marked c =
    known_as _ _ 2 c.args.at _ (escape-mark c.args.text.now (c.args.at + 1) c.requires (sym c.is_marked.ensures ∙ c.if-is_marked.true)) refl refl

pub overflow_sub-high : goal.overflow_sub-high
overflow_sub-high c =
    let m = sym c.is_marked.ensures ∙ c.if-is_marked.false in
    let o = escape-octal c.args.text.now (c.args.at + 1) c.requires (c.args.at + 2) (c.args.at + 3) (omega arith) (omega arith) m in
    omega (arith, o.x)

pub overflow_cast-high : goal.overflow_cast-high
overflow_cast-high c =
    let m = sym c.is_marked.ensures ∙ c.if-is_marked.false in
    let o = escape-octal c.args.text.now (c.args.at + 1) c.requires (c.args.at + 2) (c.args.at + 3) (omega arith) (omega arith) m in
    omega (arith, o.x)

pub overflow_mul-high : goal.overflow_mul-high
overflow_mul-high c =
    let m = sym c.is_marked.ensures ∙ c.if-is_marked.false in
    let o = escape-octal c.args.text.now (c.args.at + 1) c.requires (c.args.at + 2) (c.args.at + 3) (omega arith) (omega arith) m in
    omega (arith, o.x)

pub overflow_add-low : goal.overflow_add-low
overflow_add-low c =
    let m = sym c.is_marked.ensures ∙ c.if-is_marked.false in
    let o = escape-octal c.args.text.now (c.args.at + 1) c.requires (c.args.at + 2) (c.args.at + 3) (omega arith) (omega arith) m in
    omega (arith, o.room)

pub bounds-text-at-2 : goal.bounds-text-at-2
bounds-text-at-2 c =
    let m = sym c.is_marked.ensures ∙ c.if-is_marked.false in
    let o = escape-octal c.args.text.now (c.args.at + 1) c.requires (c.args.at + 2) (c.args.at + 3) (omega arith) (omega arith) m in
    omega (arith, o.room)

pub overflow_sub-low : goal.overflow_sub-low
overflow_sub-low c =
    let m = sym c.is_marked.ensures ∙ c.if-is_marked.false in
    let o = escape-octal c.args.text.now (c.args.at + 1) c.requires (c.args.at + 2) (c.args.at + 3) (omega arith) (omega arith) m in
    omega (arith, o.y)

pub overflow_cast-low : goal.overflow_cast-low
overflow_cast-low c =
    let m = sym c.is_marked.ensures ∙ c.if-is_marked.false in
    let o = escape-octal c.args.text.now (c.args.at + 1) c.requires (c.args.at + 2) (c.args.at + 3) (omega arith) (omega arith) m in
    omega (arith, o.y)

pub overflow_mul-low : goal.overflow_mul-low
overflow_mul-low c =
    let m = sym c.is_marked.ensures ∙ c.if-is_marked.false in
    let o = escape-octal c.args.text.now (c.args.at + 1) c.requires (c.args.at + 2) (c.args.at + 3) (omega arith) (omega arith) m in
    omega (arith, o.y)

pub overflow_add-low-2 : goal.overflow_add-low-2
overflow_add-low-2 c =
    let m = sym c.is_marked.ensures ∙ c.if-is_marked.false in
    let o = escape-octal c.args.text.now (c.args.at + 1) c.requires (c.args.at + 2) (c.args.at + 3) (omega arith) (omega arith) m in
    omega (arith, o.room)

pub bounds-text-at-3 : goal.bounds-text-at-3
bounds-text-at-3 c =
    let m = sym c.is_marked.ensures ∙ c.if-is_marked.false in
    let o = escape-octal c.args.text.now (c.args.at + 1) c.requires (c.args.at + 2) (c.args.at + 3) (omega arith) (omega arith) m in
    omega (arith, o.room)

pub overflow_sub-low-2 : goal.overflow_sub-low-2
overflow_sub-low-2 c =
    let m = sym c.is_marked.ensures ∙ c.if-is_marked.false in
    let o = escape-octal c.args.text.now (c.args.at + 1) c.requires (c.args.at + 2) (c.args.at + 3) (omega arith) (omega arith) m in
    omega (arith, o.z)

pub overflow_cast-low-2 : goal.overflow_cast-low-2
overflow_cast-low-2 c =
    let m = sym c.is_marked.ensures ∙ c.if-is_marked.false in
    let o = escape-octal c.args.text.now (c.args.at + 1) c.requires (c.args.at + 2) (c.args.at + 3) (omega arith) (omega arith) m in
    omega (arith, o.z)

pub overflow_add-low-3 : goal.overflow_add-low-3
overflow_add-low-3 c =
    let m = sym c.is_marked.ensures ∙ c.if-is_marked.false in
    let o = escape-octal c.args.text.now (c.args.at + 1) c.requires (c.args.at + 2) (c.args.at + 3) (omega arith) (omega arith) m in
    omega (arith, o.y, o.z)

pub overflow_add-result-2 : goal.overflow_add-result-2
overflow_add-result-2 c =
    let m = sym c.is_marked.ensures ∙ c.if-is_marked.false in
    let o = escape-octal c.args.text.now (c.args.at + 1) c.requires (c.args.at + 2) (c.args.at + 3) (omega arith) (omega arith) m in
    omega (arith, o.x, o.y, o.z)

pub overflow_add-result-3 : goal.overflow_add-result-3
overflow_add-result-3 c =
    let m = sym c.is_marked.ensures ∙ c.if-is_marked.false in
    let o = escape-octal c.args.text.now (c.args.at + 1) c.requires (c.args.at + 2) (c.args.at + 3) (omega arith) (omega arith) m in
    omega (arith, o.room)

pub returns : goal.returns
returns c =
    let m = sym c.is_marked.ensures ∙ c.if-is_marked.false in
    let o = escape-octal c.args.text.now (c.args.at + 1) c.requires (c.args.at + 2) (c.args.at + 3) (omega arith) (omega arith) m in
    known_as _ _ 4 c.args.at _ o.whole (omega arith) refl
