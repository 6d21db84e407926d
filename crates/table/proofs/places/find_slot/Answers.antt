-- `find_slot` meets its contract: the slots are gone through in rising order.
use Prim.Native.Nat.{ℕ}
use mathlib.Core.Path.{◌≡◌}
use mathlib.Core.Bool.{true, false}
use borrow.Author.Rules.{rules}
use borrow.Author.Tests.{tests}
use Rattle.std.proofs.lemmas.Iterator.{first_from_Range}
use Rattle.slot.specs.Rows.{slot_at}
use Rattle.table.specs.Places.{holds}
use Rattle.table.proofs.Steps.{place-is}
use Rattle.table.proofs.places.find_slot.Goals as goal

pub returns : goal.returns
returns c =
    let t = c.args.t.now in
    let s = c.args.socket in
    let f = first_from_Range _ _ _ c.find.result (λ (i : ℕ). holds (slot_at t i) s ≡ true) (λ (i : ℕ). holds (slot_at t i) s ≡ false) c.find.ensures.ran (λ x q k. search (rules, tests)) (λ x q k. search (rules, tests)) in
    place-is c.args.slots t s c.find.result f
