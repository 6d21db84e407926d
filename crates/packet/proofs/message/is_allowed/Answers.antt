-- `is_allowed` is `allowed`: by the type of that number, where there is one.
use mathlib.Core.Path.{sym}
use Rattle.packet.proofs.Lengths.{unknown-none}
use Rattle.packet.proofs.message.is_allowed.Goals as goal

pub returns-in-Err : goal.returns-in-Err
returns-in-Err c = sym (unknown-none c.args.kind c.args.n c.in-Err.ensures.1)
