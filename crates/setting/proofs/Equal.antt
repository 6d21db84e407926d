-- Laws of the test of two byte strings, from an offset on.
use Prim.Native.Nat.{ℕ, ◌+◌, ◌≤◌, ◌<◌}
use mathlib.Core.Path.{◌≡◌, refl, sym, ap, ◌∙◌}
use mathlib.Core.Bool.{Bool, true, false}
use mathlib.Core.List.{List, [], ◌∷◌, ◌++◌}
use native.Mathlib.Omega.{arith}
use native.Mathlib.Nat.{add-zero}
use lib.ListN.{length, take, drop, get_or, length-drop, take-append-drop, drop_of_length-le}
use lib.Seq.{drop-cons, drop-drop, get_or-drop, length-take-le}
use borrow.Author.Tests.{eq-eqb}
use Rattle.wire.specs.Number.{Bytes, le_bytes, le_value, number_at}
use Rattle.wire.specs.Equal.{same}
use Rattle.wire.proofs.Equal.{same_refl, same-equal}
use Rattle.wire.proofs.Numbers.{bytes-of-value}
use Rattle.wire.proofs.ByteLists.{take-bytes, drop-bytes}

-- what tells two apart
pub differ : (f : List ℕ → ℕ) (a b : List ℕ) → (f a ≡ f b → ⊥) → same a b ≡ false
differ f a b d = go (same a b) refl
  where
    go : (t : Bool) → same a b ≡ t → t ≡ false
    go true e = absurd (d (ap f (same-equal a b e)))
    go false e = refl

-- equal fronts do not matter
pub same-front : (x p q : List ℕ) → same (x ++ p) (x ++ q) ≡ same p q
unfolding same
same-front [] p q = refl
same-front (n ∷ x) p q = rw (eq-eqb n n refl) (same-front x p q)

module _ (a b : List ℕ) (i : ℕ) where
  -- parts of one size that are equal, and what follows them
  pub part_step : (n : ℕ) → take n (drop i a) ≡ take n (drop i b) → same (drop i a) (drop i b) ≡ same (drop (i + n) a) (drop (i + n) b)
  part_step n e =
      let x : List ℕ = take n (drop i a) in
      let left : drop i a ≡ x ++ drop (i + n) a = sym (take-append-drop n (drop i a)) ∙ ap (λ (l : List ℕ). x ++ l) (drop-drop n i a) in
      let right : drop i b ≡ x ++ drop (i + n) b =
      sym (take-append-drop n (drop i b)) ∙ ap (λ (l : List ℕ). l ++ drop n (drop i b)) (sym e) ∙ ap (λ (l : List ℕ). x ++ l) (drop-drop n i b) in
      rw (left, right) (same-front x (drop (i + n) a) (drop (i + n) b))

  -- bytes that are equal
  pub byte-same : i < length a → i < length b → get_or a i 0 ≡ get_or b i 0 → take 1 (drop i a) ≡ take 1 (drop i b)
  byte-same h g e = rw (drop-cons a i 0 h, drop-cons b i 0 g, e)

  pub byte-differs : (get_or a i 0 ≡ get_or b i 0 → ⊥) → same (drop i a) (drop i b) ≡ false
  byte-differs d = differ (λ l. get_or l 0 0) (drop i a) (drop i b) (λ e. d (sym (front a) ∙ e ∙ front b))
    where
      front : (s : List ℕ) → get_or (drop i s) 0 0 ≡ get_or s i 0
      front s = get_or-drop i s 0 0 ∙ ap (λ (k : ℕ). get_or s k 0) (add-zero i)

  -- past both ends
  pub none_left : length a ≤ i → length b ≤ i → same (drop i a) (drop i b) ≡ true
  none_left h g = rw (drop_of_length-le a h, drop_of_length-le b g) (same_refl [])

  -- words of n bytes that do not spell one number differ, and those that do are equal
  pub word-differs : (n : ℕ) → (number_at n a i ≡ number_at n b i → ⊥) → same (drop i a) (drop i b) ≡ false
  word-differs n d = differ (λ l. le_value (take n l)) (drop i a) (drop i b) d

  pub word_same : (n : ℕ) → Bytes a → Bytes b → i + n ≤ length a → i + n ≤ length b → number_at n a i ≡ number_at n b i → take n (drop i a) ≡ take n (drop i b)
  word_same n all other h g e =
      let of : (s : List ℕ) → Bytes s → i + n ≤ length s → le_bytes n (number_at n s i) ≡ take n (drop i s) = λ s t f.
      let len : length (take n (drop i s)) ≡ n = length-take-le n (drop i s) (omega (arith, length-drop i s)) in
      rw len at (bytes-of-value (take n (drop i s)) (take-bytes n (drop i s) (drop-bytes i s t))) in
      sym (of a all h) ∙ ap (le_bytes n) e ∙ of b other g
