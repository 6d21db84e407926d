-- Bytes inside a part, by where their first 00 stands.
use Rattle.std.proofs.Common.{◌≡◌, ℕ, suc, ◌+◌, ◌≤◌, true, List, ◌∷◌, ◌++◌, length, take, drop, ap, ◌∙◌, append_assoc, arith, length-take-le}
use lib.Seq.{split_at}
use Rattle.wire.specs.Zero.{has_zero, zero_at}
use Rattle.wire.proofs.Zeros.{zero-before, zero-found, zero-there}
use Rattle.packet_line.specs.State.{opened, inside}
use Rattle.packet_line.specs.Turn.{refused}
use Rattle.packet_line.specs.Push.{taken, taken_from}
use Rattle.packet_line.proofs.Taking.{inside-zero}

-- bytes with a 00 are those before it, the 00 and the rest
pub at_zero : (s : List ℕ) → has_zero s ≡ true → s ≡ take (zero_at s) s ++ 0 ∷ drop (suc (zero_at s)) s
at_zero s h =
    let l = zero-found s h in
    split_at s (zero_at s) 0 l ∙ ap (λ (b : ℕ). take (zero_at s) s ++ b ∷ drop (suc (zero_at s)) s) (zero-there s l)

pub inside-cut : (size : ℕ) (held bytes rest : List ℕ) → has_zero bytes ≡ true → length held + length bytes ≤ size
    → taken_from (inside size held) (bytes ++ rest) ≡ taken (refused 4) (zero_at bytes + 1) opened
inside-cut size held bytes rest h room =
    let xs = take (zero_at bytes) bytes in
    let ys = drop (suc (zero_at bytes)) bytes in
    let l = zero-found bytes h in
    let n : length xs ≡ zero_at bytes = length-take-le (zero_at bytes) bytes (omega arith) in
    let e : bytes ++ rest ≡ xs ++ 0 ∷ (ys ++ rest) = ap (λ (s : List ℕ). s ++ rest) (at_zero bytes h) ∙ append_assoc xs (0 ∷ ys) rest in
    ap (taken_from (inside size held)) e ∙ inside-zero size held xs (ys ++ rest) (zero-before bytes) (omega arith)
    ∙ ap (λ (k : ℕ). taken (refused 4) (k + 1) opened) n
