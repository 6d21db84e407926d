use Prim.Native.Nat.{ℕ, ◌+◌, ◌<◌}
use mathlib.Core.Path.{◌≡◌, refl, ap, ◌∙◌}
use mathlib.Core.List.{List}
use native.Mathlib.Omega.{arith}
use lib.ListN.{take, drop, get_or}
use lib.Seq.{get_or-take, get_or-drop}
use Rattle.wire.specs.Every.{every}
use Rattle.wire.proofs.Chains.{every-grow}
use Rattle.slot.specs.Slot.{param_count}
use Rattle.slot.specs.Row.{present_from, flag_legal}
use Rattle.slot.proofs.read.are_flags.Goals as goal

flag_in : (row : List ℕ) (p : ℕ) → p < param_count → get_or (take param_count (drop present_from row)) p 0 ≡ get_or row (present_from + p) 0
flag_in row p l = get_or-take param_count (drop present_from row) p 0 l ∙ get_or-drop present_from row p 0

pub loop-flag-init : goal.loop-flag-init
unfolding every
loop-flag-init c = refl

pub loop-flag-preserved : goal.loop-flag-preserved
loop-flag-preserved c = every-grow _ _ c.loop-flag.invariant (ap flag_legal (flag_in c.args.row.now c.loop-flag.flag-index (omega arith)))
