-- The letters of a vocab, judged from the lowest byte on: what one turn of the loop decides.
use Prim.Native.Nat.{ℕ, suc, ◌+◌, ◌*◌, ◌/◌, ◌%◌, ◌^◌, ◌≤◌, ◌<◌}
use mathlib.Core.Path.{◌≡◌, refl, sym, ap, ◌∙◌}
use mathlib.Core.Bool.{Bool, true, false, cond, not, ◌&&◌}
use mathlib.Core.List.{List, [], ◌∷◌}
use native.Mathlib.Omega.{arith}
use lib.Dec.{eqb}
use lib.ListN.{length}
use borrow.Author.Tests.{eq-eqb, ne_eqb, eqb-true, eqb-false}
use Rattle.wire.specs.Number.{le_value}
use Rattle.text.specs.Text.{letters}
use Rattle.text.specs.Form.{is_letter, all_letters, is_vocab}
use Rattle.text_encode.proofs.Letters.{letters-more, letters-none}

-- the bytes below the first zero are letters, and the number has no others
unfoldable pub all_vocab : ℕ → Bool
all_vocab n = all_letters (letters n) && eqb (le_value (letters n)) n

first-letter : (n : ℕ) → n < 2 ^ 32 → letters n ≡ cond (eqb (n % 256) 0) [] (n % 256 ∷ letters (n / 256))
first-letter n h = go (eqb (n % 256) 0) refl
  where
    go : (b : Bool) → eqb (n % 256) 0 ≡ b → letters n ≡ cond b [] (n % 256 ∷ letters (n / 256))
    go true e = letters-none n (eqb-true (n % 256) 0 e)
    go false e = letters-more n h (eqb-false (n % 256) 0 e)

-- a number is that of its bytes where the higher ones' is
value-above : (n v : ℕ) → eqb (n % 256 + 256 * v) n ≡ eqb v (n / 256)
value-above n v = go (eqb v (n / 256)) refl
  where
    go : (b : Bool) → eqb v (n / 256) ≡ b → eqb (n % 256 + 256 * v) n ≡ b
    go true e = eq-eqb (n % 256 + 256 * v) n (omega (arith, eqb-true v (n / 256) e))
    go false e = ne_eqb (n % 256 + 256 * v) n (λ (h : n % 256 + 256 * v ≡ n). eqb-false v (n / 256) e (omega arith))

pub and_assoc : (a b c : Bool) → ((a && b) && c) ≡ (a && (b && c))
and_assoc true b c = refl
and_assoc false b c = refl

pub vocab-turn : (n : ℕ) → 0 < n → n < 2 ^ 32 → all_vocab n ≡ (is_letter (n % 256) && all_vocab (n / 256))
unfolding all_vocab is_letter
vocab-turn n more small = ap (λ (l : List ℕ). all_letters l && eqb (le_value l) n) (first-letter n small) ∙ go (eqb (n % 256) 0) refl
  where
    go : (b : Bool) → eqb (n % 256) 0 ≡ b
        → (all_letters (cond b [] (n % 256 ∷ letters (n / 256))) && eqb (le_value (cond b [] (n % 256 ∷ letters (n / 256)))) n)
        ≡ (is_letter (n % 256) && all_vocab (n / 256))
    go true e = rw (ne_eqb 0 n (λ (h : 0 ≡ n). omega arith), eqb-true (n % 256) 0 e)
    go false e =
        and_assoc (is_letter (n % 256)) (all_letters (letters (n / 256))) _
        ∙ ap (λ (b : Bool). is_letter (n % 256) && (all_letters (letters (n / 256)) && b)) (value-above n (le_value (letters (n / 256))))

pub vocab-end : (n : ℕ) → n ≤ 0 → all_vocab n ≡ true
unfolding all_vocab
vocab-end n h = let z : n ≡ 0 = omega arith in rw z

pub no-vocab : (n : ℕ) → n ≡ 0 → false ≡ is_vocab n
unfolding is_vocab
no-vocab n h = rw h

some-letter : (x : ℕ) (l : List ℕ) (b : Bool) → (not (eqb (length (x ∷ l)) 0) && b) ≡ b
some-letter x l b = rw (ne_eqb (suc (length l)) 0 (λ (h : suc (length l) ≡ 0). omega arith))

pub vocab-is : (n : ℕ) → (n ≡ 0 → ⊥) → n < 2 ^ 32 → is_vocab n ≡ all_vocab n
unfolding is_vocab all_vocab
vocab-is n some small =
    ap (λ (l : List ℕ). not (eqb (length l) 0) && (all_letters l && eqb (le_value l) n)) (first-letter n small) ∙ go (eqb (n % 256) 0)
    ∙ ap (λ (l : List ℕ). all_letters l && eqb (le_value l) n) (sym (first-letter n small))
  where
    go : (b : Bool)
        → (not (eqb (length (cond b [] (n % 256 ∷ letters (n / 256)))) 0)
        && (all_letters (cond b [] (n % 256 ∷ letters (n / 256))) && eqb (le_value (cond b [] (n % 256 ∷ letters (n / 256)))) n))
        ≡ (all_letters (cond b [] (n % 256 ∷ letters (n / 256))) && eqb (le_value (cond b [] (n % 256 ∷ letters (n / 256)))) n)
    go true = sym (ne_eqb 0 n (λ h. some (sym h)))
    go false = some-letter (n % 256) (letters (n / 256)) _
