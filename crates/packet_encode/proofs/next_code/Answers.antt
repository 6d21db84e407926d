-- `next_code` is one more than `gap_from`, by the test whether the byte is 00.
use Prim.Native.Nat.{suc, ◌+◌, ◌-◌}
use mathlib.Core.Path.{◌≡◌, ap, ◌∙◌}
use native.Mathlib.Omega.{arith}
use Rattle.packet.specs.Cobs.{gap_from}
use Rattle.packet_encode.proofs.EncodeStages.{gap-kept}
use Rattle.packet_encode.proofs.next_code.Goals as goal

pub returns-then-byte-eq0 : goal.returns-then-byte-eq0
unfolding gap_from
returns-then-byte-eq0 c = rw c.if-byte-eq0.true

pub returns-else-byte-eq0 : goal.returns-else-byte-eq0
returns-else-byte-eq0 c = let e : c.args.code + 1 ≡ suc (suc (c.args.code - 1)) = omega arith in e ∙ ap suc (gap-kept _ _ c.if-byte-eq0.false)
