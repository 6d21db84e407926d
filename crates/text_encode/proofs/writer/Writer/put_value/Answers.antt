-- `text_encode::writer::Writer::put_value` meets its contract: the kind that was found is that of the code.
use mathlib.Core.Path.{sym, ◌∙◌}
use Rattle.text_encode.specs.Spell.{row_text}
use Rattle.text_encode.proofs.Writing.{wrote_none}
use Rattle.text_encode.proofs.writer.Writer.put_value.Goals as goal

pub put_kind-requires : goal.put_kind-requires
unfolding row_text
put_kind-requires c = rw (sym c.in-Some.ensures) at c.requires

pub returns-in-Some : goal.returns-in-Some
unfolding row_text
returns-in-Some c = rw (sym c.in-Some.ensures) c.put_kind.ensures

pub returns-in_default : goal.returns-in_default
unfolding row_text
returns-in_default c = rw (sym c.of_code.ensures ∙ c.in_default.is) (wrote_none c.args.self.now)
