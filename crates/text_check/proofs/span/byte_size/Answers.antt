-- `text_check::span::byte_size` meets its contract: the size is that of what was read.
use mathlib.Core.Path.{refl}
use Rattle.text_check.proofs.Spans.{sized}
use Rattle.text_check.proofs.span.byte_size.Goals as goal

pub returns-in_err-blob_byte_at : goal.returns-in_err-blob_byte_at
returns-in_err-blob_byte_at c =
    let e = c.in_err-blob_byte_at.ensures in
    rw c.from_residual.ensures (sized _ _ _ _ _ e.0 e.1 refl)

pub returns : goal.returns
returns c =
    let e = c.in_ok-blob_byte_at.ensures in
    sized _ _ _ _ _ e.0 e.1 refl
