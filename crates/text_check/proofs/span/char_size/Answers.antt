-- `text_check::span::char_size` meets its contract: each return is a case of the definition.
use mathlib.Core.Path.{refl, sym, ◌∙◌}
use native.Mathlib.Omega.{arith}
use Rattle.text_check.proofs.Spans.{char-escape, char-plain, char-none}
use Rattle.text_check.proofs.span.char_size.Goals as goal

pub returns-then-c-eq92 : goal.returns-then-c-eq92
returns-then-c-eq92 c = rw (char-escape _ _ c.requires c.if-c-eq92.true) c.escape_size.ensures

pub returns-then-is_plain : goal.returns-then-is_plain
returns-then-is_plain c = rw (char-plain _ _ c.requires c.if-c-eq92.false (sym c.is_plain.ensures ∙ c.if-is_plain.true)) (refl, (omega arith, omega arith))

pub returns : goal.returns
returns c = rw (char-none _ _ c.requires c.if-c-eq92.false (sym c.is_plain.ensures ∙ c.if-is_plain.false)) (refl, tt)
