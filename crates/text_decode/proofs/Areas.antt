-- Rows as bytes at the front of a buffer: a number of them is read, and another takes its place.
use Prim.Native.Nat.{ℕ, ◌+◌, ◌*◌, ◌^◌, ◌≤◌, ◌<◌}
use mathlib.Core.Path.{◌≡◌, refl, sym, ap, ◌∙◌}
use mathlib.Core.List.{List, ◌∷◌, ◌++◌, append_assoc}
use native.Mathlib.Omega.{arith}
use lib.ListN.{length, take, drop, length-append}
use lib.Seq.{sets, sets-eq, take_at, drop_at, drop-append-add}
use Rattle.wire.proofs.Buffers.{sets-front, sets_more}
use Rattle.wire.proofs.Numbers.{value-of-bytes}
use Rattle.list.specs.Bytes.{number}
use Rattle.list.specs.RowBytes.{packed}
use Rattle.list.specs.Parse.{word}
use Rattle.list.proofs.RowBytes.{packed-append, packed-length}

-- a piece in the middle takes the place of one of its length
sets-inside : (xs ys zs new : List ℕ) (at : ℕ) → at ≡ length xs → length new ≡ length ys → sets (xs ++ (ys ++ zs)) at new ≡ xs ++ (new ++ zs)
sets-inside xs ys zs new at a n =
    let room : at + length new ≤ length (xs ++ (ys ++ zs)) = simp length-append (omega arith) in
    let front : take at (xs ++ (ys ++ zs)) ≡ xs = take_at xs (ys ++ zs) at (sym a) in
    let back : drop (at + length new) (xs ++ (ys ++ zs)) ≡ zs =
    rw (a, drop-append-add xs (ys ++ zs) (length new)) (drop_at ys zs (length new) (sym n)) in
    sets-eq new (xs ++ (ys ++ zs)) at room ∙ rw (front, back, append_assoc xs new zs)

module _ (area before : List ℕ) (n : ℕ) (behind : List ℕ) (at : ℕ) (here : at ≡ 4 * length before) (room : 4 * length (before ++ (n ∷ behind)) ≤ length area) where
  abbrev whole : List ℕ
  whole = packed (before ++ (n ∷ behind))

  abbrev rest : List ℕ
  rest = packed behind ++ drop (length whole) area

  parts : sets area 0 whole ≡ packed before ++ (number n ++ rest)
  parts =
      sets-front area whole (omega (arith, packed-length (before ++ (n ∷ behind))))
      ∙ ap (λ (l : List ℕ). l ++ drop (length whole) area) (packed-append before (n ∷ behind))
      ∙ append_assoc (packed before) (packed (n ∷ behind)) (drop (length whole) area)

  at-number : at ≡ length (packed before)
  at-number = omega (arith, packed-length before)

  pub number_read : n < 2 ^ 32 → word (sets area 0 whole) at ≡ n
  number_read small =
      let d : drop at (packed before ++ (number n ++ rest)) ≡ number n ++ rest = drop_at (packed before) (number n ++ rest) at (sym at-number) in
      rw (parts, d) (value-of-bytes 4 n (omega arith))

  pub number_put : (m : ℕ) → sets (sets area 0 whole) at (number m) ≡ sets area 0 (packed (before ++ (m ∷ behind)))
  number_put m =
      let len : length (before ++ (m ∷ behind)) ≡ length (before ++ (n ∷ behind)) = simp length-append in
      let same : length (packed (before ++ (m ∷ behind))) ≡ length whole = omega (arith, packed-length (before ++ (m ∷ behind)), packed-length (before ++ (n ∷ behind)), len) in
      let new : List ℕ = packed (before ++ (m ∷ behind)) in
      let put : sets area 0 new ≡ packed before ++ (number m ++ rest) =
      sets-front area new (omega (arith, packed-length (before ++ (n ∷ behind))))
      ∙ ap (λ (k : ℕ). new ++ drop k area) same
      ∙ ap (λ (l : List ℕ). l ++ drop (length whole) area) (packed-append before (m ∷ behind))
      ∙ append_assoc (packed before) (packed (m ∷ behind)) (drop (length whole) area) in
      ap (λ (l : List ℕ). sets l at (number m)) parts ∙ sets-inside (packed before) (number n) rest (number m) at at-number refl ∙ sym put

-- further rows behind them
pub rows_more : (area xs ys : List ℕ) (at : ℕ) → at ≡ 4 * length xs → sets (sets area 0 (packed xs)) at (packed ys) ≡ sets area 0 (packed (xs ++ ys))
rows_more area xs ys at h =
    sets_more area (packed xs) (packed ys) 0 at (omega (arith, packed-length xs)) ∙ ap (sets area 0) (sym (packed-append xs ys))
