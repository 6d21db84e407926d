-- `text_check::span::escape_size` meets its contract: the size is that of what was read.
use mathlib.Core.Path.{refl}
use lib.ListN.{length}
use Rattle.std.specs.Prelude.{Some}
use Rattle.digits.specs.Read.{wrong}
use Rattle.text_value.specs.Answers.{word_of}
use Rattle.text_check.proofs.Spans.{sized, within-less}
use Rattle.text_check.proofs.span.escape_size.Goals as goal

pub returns-in_err-escape_at : goal.returns-in_err-escape_at
returns-in_err-escape_at c =
    let a = c.args in
    let e = c.in_err-escape_at.ensures in
    rw c.from_residual.ensures (sized _ _ _ _ _ e.0 (within-less a.at (length a.text.now) wrong e.1) refl)

pub returns : goal.returns
returns c =
    let a = c.args in
    let e = c.in_ok-escape_at.ensures in
    sized _ _ _ _ _ e.0 (within-less a.at (length a.text.now) (word_of (Some c.in_ok-escape_at.field-0)) e.1) refl
