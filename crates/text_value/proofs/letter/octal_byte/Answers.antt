-- `text_value::letter::octal_byte` meets its contract.
use mathlib.Core.Path.{sym, ◌∙◌}
use native.Mathlib.Omega.{arith}
use Rattle.text_value.proofs.Letters.{octal-bad, octal-low, octal-good}
use Rattle.text_value.proofs.letter.octal_byte.Goals as goal

pub returns-then-b : goal.returns-then-b
returns-then-b c = octal-bad c.args.b c.if-b.true

pub overflow_cast-b : goal.overflow_cast-b
overflow_cast-b c = omega (arith, octal-low c.args.b c.if-b.false)

pub returns-then-is_printed : goal.returns-then-is_printed
returns-then-is_printed c = octal-good c.args.b _ c.if-b.false (sym c.is_printed.ensures ∙ c.if-is_printed.true)

pub returns : goal.returns
returns c = octal-good c.args.b _ c.if-b.false (sym c.is_printed.ensures ∙ c.if-is_printed.false)
