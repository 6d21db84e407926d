-- `text_encode::emit::put_values` meets its contract.
-- The invariant: the writing goes on from the place, which is not before the first.
use Prim.Native.Nat.{◌≤◌}
use mathlib.Core.Path.{◌≡◌}
use Rattle.list.specs.RowBytes.{unpacked}
use Rattle.text_encode.specs.Spell.{place, GoesOn}
use Rattle.text_encode.proofs.emit.put_values.Given as goal

abbrev pub invariant-loop-row : goal.invariant-loop-row
invariant-loop-row l =
    GoesOn (unpacked l.rows) l.store l.initial.out.text.now (place l.initial.x l.initial.out) l.out.text.now (place l.x l.out)
    × (l.initial.x.row ≤ l.x.row) × (l.out.text.ghost_name ≡ l.initial.out.text.ghost_name)

abbrev pub decreases-loop-row : goal.decreases-loop-row
decreases-loop-row l = l.x.left
