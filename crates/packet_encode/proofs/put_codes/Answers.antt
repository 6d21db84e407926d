use Prim.Native.Nat.{ℕ, suc, ◌+◌, ◌-◌, ◌<◌}
use mathlib.Core.Path.{◌≡◌, sym, ap}
use mathlib.Core.List.{List}
use native.Mathlib.Omega.{arith}
use lib.ListN.{length}
use Rattle.packet.specs.Cobs.{code_or, gap_from}
use borrow.Author.Rules.{rules}
use Rattle.packet_encode.proofs.EncodeSteps.{Coding, coding-kept, coding, coding-within, coding-next, coding-end}
use Rattle.packet_encode.proofs.put_codes.Goals as goal

lengths : (bytes part : List ℕ) → part ≡ bytes → length bytes ≡ length part
lengths bytes part e = ap length (sym e)

room : (last : ℕ) (bytes part₀ part : List ℕ) (code i : ℕ) → Coding (last - 1) bytes part₀ part code i → 0 < last → last + length bytes < 256 → 0 < i → code < 256
room last bytes part₀ part code i v o w h = omega (arith, coding-within _ _ _ _ _ _ v)

pub loop-i-init : goal.loop-i-init
loop-i-init c = coding c.args.last c.args.bytes.now c.args.part.now c.requires.1 (lengths _ _ c.requires.0)

pub overflow_cast-part : goal.overflow_cast-part
overflow_cast-part c = omega (arith, room _ _ _ _ _ _ c.loop-i.invariant c.requires.1 c.requires.2 (search rules))

pub loop-i-preserved-then-bytes-i-eq0 : goal.loop-i-preserved-then-bytes-i-eq0
unfolding code_or gap_from
loop-i-preserved-then-bytes-i-eq0 c =
    let l = c.loop-i in
    let e : l.code ≡ suc (l.code - 1) = omega (arith, l.invariant.next) in
    rw e (rw c.if-bytes-i-eq0.true at (coding-next _ _ _ _ _ _ (l.i - 1) l.invariant (omega arith) (lengths _ _ c.requires.0)))

pub overflow_add-code : goal.overflow_add-code
overflow_add-code c = omega (arith, room _ _ _ _ _ _ c.loop-i.invariant c.requires.1 c.requires.2 (search rules))

pub returns : goal.returns
returns c = coding-end _ _ _ _ _ _ c.loop-i.invariant c.loop-i-test.false

pub loop-i-preserved : goal.loop-i-preserved
loop-i-preserved c =
    coding-kept _ _ _ _ _ _ (c.loop-i.i - 1) c.loop-i.invariant (omega arith) (lengths _ _ c.requires.0) c.requires.0 c.if-bytes-i-eq0.false
