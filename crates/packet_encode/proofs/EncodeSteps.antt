-- The steps of encoding from the back, by single bytes and by several at once.
use Prim.Native.Nat.{ℕ, suc, ◌+◌, ◌-◌, ◌≤◌, ◌<◌}
use mathlib.Core.Path.{◌≡◌, sym, ap, ap₂, ◌∙◌}
use mathlib.Core.List.{List, [], ◌∷◌, ◌++◌, append-nil}
use native.Mathlib.Omega.{arith}
use lib.ListN.{length, take, drop, get_or, set, length-drop, length-append, take-append-drop, drop_of_length-le}
use lib.Seq.{drop-cons, drop-drop, drop_at, drop-length, take_all, take-take, take-suc, take-append-le, length-take-le, append_snoc, set_at}
use borrow.Rule.Slice.PartMut.{put_mid}
use Rattle.packet.specs.Cobs.{code_or, gap_from, gap_before, stuffed}
use Rattle.packet_encode.specs.Word.{word_size}
use Rattle.packet_encode.proofs.EncodeStages.{length-stuffed, gap-le, code-kept, gap-kept, gap-append, stuffed-append}

-- all from i on is encoded, where `gap` bytes follow the last one before the next 00; `code` is that of a block which opens before the i-th
pub record Coding (gap : ℕ) (bytes part₀ part : List ℕ) (code i : ℕ) : Type 0 where
  pub within : i ≤ length bytes
  pub held : part ≡ take i part₀ ++ stuffed gap (drop i bytes)
  pub next : code ≡ suc (gap_before gap (drop i bytes))

pub coding : (last : ℕ) (bytes part : List ℕ) → 0 < last → length bytes ≡ length part → Coding (last - 1) bytes part part last (length bytes)
unfolding gap_before stuffed
coding last bytes part o l = let e : last ≡ suc (last - 1) = omega arith in record {
  within = omega arith;
  held = sym (rw drop-length (ap (λ (x : List ℕ). x ++ []) (take_all (length bytes) part (omega arith)) ∙ append-nil part));
  next = e ∙ rw drop-length;
}

module _ (gap : ℕ) (bytes part₀ part : List ℕ) (code i : ℕ) (inv : Coding gap bytes part₀ part code i) where
  pub coding-within : code + i ≤ suc gap + length bytes
  coding-within = omega (arith, inv.next, inv.within, gap-le gap (drop i bytes), length-drop i bytes)

  pub coding-length : length bytes ≡ length part₀ → length part ≡ length part₀
  coding-length l =
      rw inv.held (simp (length-append, length-stuffed, length-drop) (omega (arith, length-take-le i part₀ (omega (arith, inv.within)), inv.within)))

  pub coding-end : i ≤ 0 → (code ≡ suc (gap_before gap bytes)) × (part ≡ stuffed gap bytes)
  coding-end h = let z : i ≡ 0 = omega arith in (inv.next ∙ rw z, inv.held ∙ rw z)

-- one byte
module _ (gap : ℕ) (bytes part₀ part : List ℕ) (code i k : ℕ) (inv : Coding gap bytes part₀ part code i) (e : i ≡ suc k) (l : length bytes ≡ length part₀) where
  abbrev byte : ℕ
  byte = get_or bytes k 0

  -- the bytes before the next 00 behind it
  abbrev after : ℕ
  after = gap_before gap (drop (suc k) bytes)

  inside : k < length bytes
  inside = omega (arith, inv.within)

  long : length (take k part₀) ≡ k
  long = length-take-le k part₀ (omega (arith, inside))

  whole : part ≡ take k part₀ ++ get_or part₀ k 0 ∷ stuffed gap (drop (suc k) bytes)
  whole = inv.held ∙ rw (e, take-suc part₀ k 0 (omega (arith, inside))) (append_snoc (take k part₀) (get_or part₀ k 0) (stuffed gap (drop (suc k) bytes)))

  coded : code ≡ suc after
  coded = inv.next ∙ rw e

  pub coding-next : Coding gap bytes part₀ (set part k (code_or byte (code - 1))) (suc (gap_from byte (code - 1))) k
  unfolding gap_before stuffed
  coding-next = let g : code - 1 ≡ after = omega (arith, coded) in rw g record {
    within = omega (arith, inside);
    held = ap (λ (x : List ℕ). set x k (code_or byte after)) whole
        ∙ set_at (take k part₀) (get_or part₀ k 0) (stuffed gap (drop (suc k) bytes)) (code_or byte after) k long
        ∙ rw (drop-cons bytes k 0 inside);
    next = rw (drop-cons bytes k 0 inside);
  }

  -- the same where the part holds the bytes and the byte is no 00: it stays
  pub coding-kept : part₀ ≡ bytes → (byte ≡ 0 → ⊥) → Coding gap bytes part₀ part (code + 1) k
  unfolding gap_before stuffed
  coding-kept same other = let g : code + 1 ≡ suc (suc after) = omega (arith, coded) in rw g record {
    within = omega (arith, inside);
    held = whole
        ∙ ap (λ (b : ℕ). take k part₀ ++ b ∷ stuffed gap (drop (suc k) bytes)) (ap (λ (m : List ℕ). get_or m k 0) same ∙ code-kept byte after other)
        ∙ rw (drop-cons bytes k 0 inside);
    next = rw (drop-cons bytes k 0 inside) (ap suc (gap-kept byte after other));
  }

-- w bytes at once
module _ (gap : ℕ) (bytes part₀ part : List ℕ) (code i k w : ℕ) (inv : Coding gap bytes part₀ part code i) (e : i ≡ k + w) (l : length bytes ≡ length part₀) where
  abbrev some : List ℕ
  some = take w (drop k bytes)

  abbrev behind : List ℕ
  behind = drop i bytes

  kept-front : take k part ≡ take k part₀
  kept-front =
      ap (take k) inv.held
      ∙ take-append-le k (take i part₀) (stuffed gap behind) (omega (arith, length-take-le i part₀ (omega (arith, inv.within))))
      ∙ take-take k i part₀ (omega arith)

  kept-behind : drop w (drop k part) ≡ stuffed gap behind
  kept-behind =
      drop-drop w k part ∙ ap (λ (n : ℕ). drop n part) (sym e) ∙ ap (drop i) inv.held
      ∙ drop_at (take i part₀) (stuffed gap behind) i (length-take-le i part₀ (omega (arith, inv.within)))

  split : drop k bytes ≡ some ++ behind
  split = sym (take-append-drop w (drop k bytes)) ∙ ap (λ (r : List ℕ). some ++ r) (drop-drop w k bytes ∙ ap (λ (n : ℕ). drop n bytes) (sym e))

  pub coding-part : (out : List ℕ) (next : ℕ) → next ≡ suc (gap_before (code - 1) some) → out ≡ stuffed (code - 1) some
      → Coding gap bytes part₀ (put_mid k w part out) next k
  coding-part out next n h = let g : code - 1 ≡ gap_before gap behind = omega (arith, inv.next) in record {
    within = omega (arith, inv.within);
    held = ap₂ (λ (f r : List ℕ). f ++ (out ++ r)) kept-front kept-behind
        ∙ ap (λ (o : List ℕ). take k part₀ ++ (o ++ stuffed gap behind)) (h ∙ ap (λ (x : ℕ). stuffed x some) g)
        ∙ ap (λ (o : List ℕ). take k part₀ ++ o) (sym (ap (stuffed gap) split ∙ stuffed-append gap some behind));
    next = n ∙ ap (λ (x : ℕ). suc (gap_before x some)) g ∙ sym (ap (λ (m : List ℕ). suc (gap_before gap m)) split ∙ ap suc (gap-append gap some behind));
  }

-- the bytes of a word, before others
abbrev pub spelled : List ℕ → List ℕ → List ℕ
spelled w r = get_or w 0 0 ∷ get_or w 1 0 ∷ get_or w 2 0 ∷ get_or w 3 0 ∷ get_or w 4 0 ∷ get_or w 5 0 ∷ get_or w 6 0 ∷ get_or w 7 0 ∷ r

pub word-spelled : (w : List ℕ) → length w ≡ word_size → w ≡ spelled w []
word-spelled w l =
    drop-cons w 0 0 (omega arith)
    ∙ ap (λ (r : List ℕ). get_or w 0 0 ∷ r) (drop-cons w 1 0 (omega arith)
    ∙ ap (λ (r : List ℕ). get_or w 1 0 ∷ r) (drop-cons w 2 0 (omega arith)
    ∙ ap (λ (r : List ℕ). get_or w 2 0 ∷ r) (drop-cons w 3 0 (omega arith)
    ∙ ap (λ (r : List ℕ). get_or w 3 0 ∷ r) (drop-cons w 4 0 (omega arith)
    ∙ ap (λ (r : List ℕ). get_or w 4 0 ∷ r) (drop-cons w 5 0 (omega arith)
    ∙ ap (λ (r : List ℕ). get_or w 5 0 ∷ r) (drop-cons w 6 0 (omega arith)
    ∙ ap (λ (r : List ℕ). get_or w 6 0 ∷ r) (drop-cons w 7 0 (omega arith)
    ∙ ap (λ (r : List ℕ). get_or w 7 0 ∷ r) (drop_of_length-le w {i = word_size} (omega arith)))))))))
