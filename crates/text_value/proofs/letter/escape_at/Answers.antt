-- `text_value::letter::escape_at` meets its contract.
use mathlib.Core.Path.{refl, sym, ap, ◌∙◌}
use native.Mathlib.Omega.{arith}
use Rattle.text.specs.Read.{octal_byte}
use Rattle.text_value.proofs.Bounds.{marked-range, escape-placed}
use Rattle.text_value.proofs.Fixeds.{octal_digit, octals-other, octals-are}
use Rattle.text_value.proofs.Letters.{escape-past, escape-marked, escape-short, escape-none, escape-byte}
use Rattle.text_value.proofs.letter.escape_at.Goals as goal

pub returns-in_err-c : goal.returns-in_err-c
returns-in_err-c c =
    let a = c.args in
    rw c.from_residual.ensures (escape-past a.text.now a.at c.in_err-c.ensures.lookup.3, tt, tt)

pub overflow_cast-result : goal.overflow_cast-result
overflow_cast-result c = omega (arith, marked-range _ (sym c.is_marked.ensures ∙ c.if-is_marked.true))

pub returns-then-is_marked : goal.returns-then-is_marked
returns-then-is_marked c =
    let a = c.args in
    let found = c.in_ok-c.ensures.lookup.3 in
    rw (found.1 0) (escape-placed a.text.now a.at _ (omega (arith, found.0))
    (escape-marked a.text.now a.at (rw (found.1 0) at (sym c.is_marked.ensures ∙ c.if-is_marked.true))))

pub returns-then-text-at-lt3 : goal.returns-then-text-at-lt3
returns-then-text-at-lt3 c =
    let a = c.args in
    let found = c.in_ok-c.ensures.lookup.3 in
    let plain = rw (found.1 0) at (sym c.is_marked.ensures ∙ c.if-is_marked.false) in
    (escape-short a.text.now a.at plain c.if-text-at-lt3.true, tt, tt)

pub returns-then-is_octal : goal.returns-then-is_octal
returns-then-is_octal c =
    let a = c.args in
    let found = c.in_ok-c.ensures.lookup.3 in
    let plain = rw (found.1 0) at (sym c.is_marked.ensures ∙ c.if-is_marked.false) in
    let o = octals-are _ _ _ _ _ _ c.is_octal.ensures c.is_octal-2.ensures c.is_octal-3.ensures c.if-is_octal.true in
    escape-placed a.text.now a.at _ (omega (arith, found.0))
    (c.octal_byte.ensures
    ∙ ap octal_byte o.1
    ∙ escape-byte a.text.now a.at _ _ _ (ap octal_digit (found.1 0)) refl refl plain (omega arith) o.0)

pub returns : goal.returns
returns c =
    let a = c.args in
    let found = c.in_ok-c.ensures.lookup.3 in
    let plain = rw (found.1 0) at (sym c.is_marked.ensures ∙ c.if-is_marked.false) in
    let o = octals-other _ _ _ _ _ _ c.is_octal.ensures c.is_octal-2.ensures c.is_octal-3.ensures c.if-is_octal.false in
    (escape-none a.text.now a.at _ _ _ (ap octal_digit (found.1 0)) refl refl plain (omega arith) o, tt, tt)
