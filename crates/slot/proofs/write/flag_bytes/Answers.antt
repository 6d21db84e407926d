-- `slot::write::flag_bytes` meets its contract: each byte is that of its flag.
use mathlib.Core.Bool.{false}
use borrow.Author.Rules.{rules}
use lib.ListN.{get_or}
use Rattle.slot.specs.Slot.{param_count}
use Rattle.slot.specs.Row.{flag_byte}
use Rattle.slot.proofs.Filling.{made}
use Rattle.slot.proofs.write.flag_bytes.Goals as goal

pub returns : goal.returns
returns c =
    made _ _ param_count 0 (λ p. flag_byte (get_or c.args.present p false)) c.from_fn.result c.from_fn.ensures.items (λ i y q k. search rules)
