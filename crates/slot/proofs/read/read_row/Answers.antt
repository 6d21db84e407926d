-- `slot::read::read_row` meets its contract: flags and bits are those of each parameter.
use mathlib.Core.Path.{refl}
use Rattle.slot.proofs.Rows.{same-make}
use Rattle.slot.proofs.read.read_row.Goals as goal

pub returns : goal.returns
returns c = same-make refl refl refl refl c.u64_at.ensures c.flags_of-present.ensures c.words_of-bits.ensures
