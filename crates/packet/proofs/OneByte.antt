-- "Two good messages of equal length never differ in exactly one byte."
use Prim.Native.Nat.{ℕ, suc, ◌<◌}
use mathlib.Core.Path.{◌≡◌, refl, sym, ap, ◌∙◌}
use mathlib.Core.Bool.{Bool, true, false}
use mathlib.Core.List.{List, [], ◌∷◌}
use native.Mathlib.Omega.{arith}
use lib.Bits.{xor_self}
use lib.Dec.{eqb, ltb}
use lib.ListN.{length, get_or, take, drop, set, length-set}
use lib.Seq.{ext_get_or, set_out, set_split, split_at, get_or-set_same, get_or-set_other}
use borrow.Author.Tests.{eqb-true, eqb-false, ltb-true, ltb-false}
use Rattle.packet.specs.Message.{xor_from, head_of, GoodMessage}
use Rattle.packet.proofs.Sums.{xor-append, same_byte}

-- two lists differ at the offset j, and nowhere else
pub record DifferOnlyAt (j : ℕ) (m n : List ℕ) : Type 0 where
  pub there : get_or m j 0 ≡ get_or n j 0 → ⊥
  pub elsewhere : (i : ℕ) → (i ≡ j → ⊥) → get_or m i 0 ≡ get_or n i 0

-- the exclusive or of all bytes of a good message is 0
good-sum : (m : List ℕ) → GoodMessage m → xor_from 0 m ≡ 0
unfolding xor_from
good-sum m g =
    let h = head_of g.kind g.payload in
    ap (xor_from 0) g.bytes ∙ xor-append h (xor_from 0 h ∷ []) 0 ∙ xor_self (xor_from 0 h)

-- two lists of one length that agree everywhere but at j
agree : (m n : List ℕ) (j : ℕ) → length m ≡ length n → ((i : ℕ) → (i ≡ j → ⊥) → get_or m i 0 ≡ get_or n i 0) → n ≡ set m j (get_or n j 0)
agree m n j l a = ext_get_or 0 n (set m j (get_or n j 0)) (sym l ∙ sym (length-set m j (get_or n j 0))) (λ i h. at i h (eqb i j) refl)
  where
    at : (i : ℕ) → i < length n → (t : Bool) → eqb i j ≡ t → get_or n i 0 ≡ get_or (set m j (get_or n j 0)) i 0
    at i h true e = let q : i ≡ j = eqb-true i j e in let f : j < length m = omega arith in rw (q, get_or-set_same m j (get_or n j 0) 0 f)
    at i h false e = sym (get_or-set_other m j i (get_or n j 0) 0 (eqb-false i j e) ∙ a i (eqb-false i j e))

pub one_byte : (m n : List ℕ) → GoodMessage m → GoodMessage n → length m ≡ length n → (j : ℕ) → DifferOnlyAt j m n → ⊥
one_byte m n gm gn l j d = d.there (ap (λ (x : List ℕ). get_or x j 0) (in-or-out (ltb j (length m)) refl (agree m n j l d.elsewhere) (good-sum m gm ∙ sym (good-sum n gn))))
  where
    in-or-out : (t : Bool) → ltb j (length m) ≡ t → n ≡ set m j (get_or n j 0) → xor_from 0 m ≡ xor_from 0 n → m ≡ n
    in-or-out false t e s = sym (e ∙ set_out m j (get_or n j 0) (ltb-false _ _ t))
    in-or-out true t e s =
        let f = ltb-true _ _ t in
        let p = split_at m j 0 f in
        let q = e ∙ set_split m j (get_or n j 0) f in
        let b = same_byte (take j m) (drop (suc j) m) (get_or m j 0) (get_or n j 0) 0 (sym (ap (xor_from 0) p) ∙ s ∙ ap (xor_from 0) q) in
        p ∙ rw b (sym q)
