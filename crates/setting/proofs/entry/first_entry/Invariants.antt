-- `setting::entry::first_entry` meets its contract. The loop's invariant: the search among the elements from here on is the whole search.
use Prim.Native.Nat.{◌-◌}
use Rattle.setting.proofs.Search.{Left}
use Rattle.setting.proofs.entry.first_entry.Given as goal

abbrev pub invariant-loop-done : goal.invariant-loop-done
invariant-loop-done l = Left l.s l.key (l.n - l.done) l.pos
