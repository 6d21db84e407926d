-- `text_encode::emit::put_list` meets its contract.
-- The invariant: the writing is underway from the place on, and `outer` holds the lists around the innermost open one.
use Prim.Native.Nat.{◌+◌, ◌-◌, ◌*◌, ◌<◌}
use mathlib.Core.Path.{◌≡◌}
use lib.ListN.{length}
use lib.Seq.{sets}
use Rattle.list.specs.Limits.{depth_limit}
use Rattle.list.specs.RowBytes.{unpacked}
use Rattle.list_rows.proofs.Nestings.{stack_of}
use Rattle.text_encode.specs.Spell.{spell_list, place, Underway}
use Rattle.text_encode.proofs.emit.put_list.Given as goal

abbrev pub invariant-loop-outer : goal.invariant-loop-outer
invariant-loop-outer l =
    Underway (unpacked l.rows) l.store (sets l.initial.out.text.now l.initial.out.end (spell_list (unpacked l.rows) l.store))
    (l.initial.out.end + length (spell_list (unpacked l.rows) l.store)) l.out.text.now (stack_of l.outer l.level) (place l.x l.out)
    × (l.level < depth_limit) × (length l.outer ≡ depth_limit) × (l.out.text.ghost_name ≡ l.initial.out.text.ghost_name)

abbrev pub decreases-loop-outer : goal.decreases-loop-outer
decreases-loop-outer l = 2 * (l.count - l.x.row) + l.level
