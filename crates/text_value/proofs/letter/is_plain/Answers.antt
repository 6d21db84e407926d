-- `text_value::letter::is_plain` meets its contract.
use Rattle.text_value.proofs.letter.is_plain.Goals as goal

pub returns : goal.returns
returns c = rw (c.is_printed.ensures, c.is_marked.ensures)
