use Prim.Native.Nat.{ℕ, ◌+◌, ◌-◌, ◌<◌}
use mathlib.Core.List.{List}
use native.Mathlib.Omega.{arith}
use lib.ListN.{length}
use borrow.Author.Rules.{rules}
use Rattle.packet_encode.proofs.EncodeSteps.{Coding, coding, coding-within, coding-next, coding-end}
use Rattle.packet_encode.proofs.encode_few.Goals as goal

room : (last : ℕ) (bytes part₀ part : List ℕ) (code i : ℕ) → Coding (last - 1) bytes part₀ part code i → 0 < last → last + length bytes < 256 → 0 < i → (0 < code) × (code < 256)
room last bytes part₀ part code i v o w h = (omega (arith, v.next), omega (arith, coding-within _ _ _ _ _ _ v))

pub loop-i-init : goal.loop-i-init
loop-i-init c = coding c.args.last c.args.bytes.now c.args.part.now c.requires.1 c.requires.0

pub code_or-requires : goal.code_or-requires
code_or-requires c = room _ _ _ _ _ _ c.loop-i.invariant c.requires.1 c.requires.2 (search rules)

pub next_code-code-requires : goal.next_code-code-requires
next_code-code-requires c = room _ _ _ _ _ _ c.loop-i.invariant c.requires.1 c.requires.2 (search rules)

pub loop-i-preserved : goal.loop-i-preserved
loop-i-preserved c =
    rw (c.code_or.ensures, c.next_code-code.ensures) (coding-next _ _ _ _ _ _ (c.loop-i.i - 1) c.loop-i.invariant (omega arith) c.requires.0)

pub returns : goal.returns
returns c = coding-end _ _ _ _ _ _ c.loop-i.invariant c.loop-i-test.false
