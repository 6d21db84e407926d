-- `code_or` is `code_or`, by the test whether the byte is 00.
use Prim.Native.Nat.{suc, ◌-◌}
use mathlib.Core.Path.{◌≡◌}
use native.Mathlib.Omega.{arith}
use Rattle.packet.specs.Cobs.{code_or}
use Rattle.packet_encode.proofs.EncodeStages.{code-kept}
use Rattle.packet_encode.proofs.code_or.Goals as goal

pub returns-then-byte-eq0 : goal.returns-then-byte-eq0
unfolding code_or
returns-then-byte-eq0 c = let e : c.args.code ≡ suc (c.args.code - 1) = omega arith in rw c.if-byte-eq0.true e

pub returns-else-byte-eq0 : goal.returns-else-byte-eq0
returns-else-byte-eq0 c = code-kept _ _ c.if-byte-eq0.false
