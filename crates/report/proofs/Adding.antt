-- Output is put together piece by piece: one piece, two in a row, and the pieces of a line; and how long the last lines are.
use Prim.Native.Nat.{ℕ, ◌+◌, ◌≤◌}
use mathlib.Core.Path.{◌≡◌, refl, sym, ap, ◌∙◌}
use mathlib.Core.List.{List, [], ◌∷◌, ◌++◌, append_assoc, append-nil}
use native.Mathlib.Omega.{arith}
use lib.ListN.{length, take, drop, length-append}
use lib.Seq.{sets, sets-eq, take_at, length-take-le}
use Rattle.list.specs.Refusal.{Refusal}
use Rattle.output.specs.Output.{Output, output, put, puts}
use Rattle.output.proofs.Putting.{put-fits, length-puts}
use Rattle.output.proofs.Digits.{decimal-short}
use Rattle.report.specs.Limits.{last_room}
use Rattle.report.specs.Added.{Added}
use Rattle.report.specs.Text.{joined, end_line, stop_line}

pub one_piece : {old new : List ℕ} {at to : ℕ} (x : List ℕ) → output new to ≡ put (output old at) x → at + length x ≤ length old → Added old at new to x
one_piece {old} {new} {at} {to} x e h =
    let done : output new to ≡ output (sets old at x) (at + length x) = e ∙ put-fits old at x h in
    let size : to ≡ at + length x = ap (λ (t : Output). t.used) done in
    let whole : new ≡ (take at old ++ x) ++ drop (at + length x) old = ap (λ (t : Output). t.buffer) done ∙ sets-eq x old at h in
    let front : length (take at old ++ x) ≡ to = omega (arith, size, length-append (take at old) x, length-take-le at old (omega arith)) in
    record { front = ap (take to) whole ∙ take_at (take at old ++ x) (drop (at + length x) old) to front; size = size }

pub two-pieces : {a b c : List ℕ} {i j k : ℕ} {x y : List ℕ} → Added a i b j x → Added b j c k y → Added a i c k (x ++ y)
two-pieces {a} {i = i} {x = x} {y = y} p q = record {
  front = q.front ∙ ap (λ (z : List ℕ). z ++ y) p.front ∙ append_assoc (take i a) x y;
  size = omega (arith, p.size, q.size, length-append x y);
}

no-piece : {old new : List ℕ} {at to : ℕ} → output new to ≡ output old at → Added old at new to []
no-piece {old} {new} {at} {to} e =
    let size : to ≡ at = ap (λ (t : Output). t.used) e in
    let same : new ≡ old = ap (λ (t : Output). t.buffer) e in
    record { front = rw (size, same) (sym (append-nil (take at old))); size = omega arith }

-- all pieces of a line
pub pieces-added : (pieces : List (List ℕ)) {old new : List ℕ} {at to : ℕ} → output new to ≡ puts (output old at) pieces
    → at + length (joined pieces) ≤ length old → Added old at new to (joined pieces)
unfolding puts
pieces-added [] e h = no-piece e
pieces-added (piece ∷ pieces) {old} {new} {at} {to} e h =
    let both = length-append piece (joined pieces) in
    let t : Output = put (output old at) piece in
    let first : Added old at t.buffer t.used piece = one_piece piece refl (omega arith) in
    let same : length t.buffer ≡ length old = length-puts (output old at) (piece ∷ []) in
    two-pieces first (pieces-added pieces {old = t.buffer} {at = t.used} e (omega (arith, first.size)))

-- the last lines fit into the room that is named for them
pub end_short : (offset : ℕ) → length (end_line offset) ≤ last_room
unfolding end_line
end_short offset = simp length-append (omega (arith, decimal-short offset))

pub stop-short : (r : Refusal) → length (stop_line r) ≤ last_room
unfolding stop_line
stop-short r = simp length-append (omega (arith, decimal-short r.number, decimal-short r.offset, decimal-short r.depth))
