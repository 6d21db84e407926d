-- Laws of what a buffer holds after a write.
use Prim.Native.Nat.{ℕ, suc, ◌+◌, ◌-◌, ◌≤◌, ◌<◌}
use mathlib.Core.Path.{◌≡◌, ap, sym, ◌∙◌}
use mathlib.Core.List.{List, [], ◌∷◌, ◌++◌, append_assoc}
use native.Mathlib.Omega.{arith}
use lib.ListN.{length, take, drop, set, length-append, length-drop}
use lib.Seq.{take_all, take_at, take-add, take-append_seam, drop_at, drop-drop, length-take-le, sets, sets-eq}
use borrow.Rule.Slice.PartMut.{put_mid, post_of, Post-is}
use borrow.Author.Tests.{eq-eqb, le-leb, lt-leb}
use Rattle.wire.specs.Area.{block_size, over, put_at, replaced}

-- what fits is written
pub put-fits : {A : Type 0} (area : List A) (at : ℕ) (xs : List A) → at + length xs ≤ length area → put_at area at xs ≡ sets area at xs
put-fits area at xs h = rw (le-leb _ _ h)

-- the same of a buffer that is known by a call's promise
pub put_is : {A : Type 0} {m : List A} (l : List A) (at : ℕ) (xs : List A) → m ≡ put_at l at xs → at + length xs ≤ length l → m ≡ sets l at xs
put_is l at xs e h = e ∙ put-fits l at xs h

-- what does not fit changes nothing
pub put-none : {A : Type 0} (area : List A) (at : ℕ) (xs : List A) → length area < at + length xs → put_at area at xs ≡ area
put-none area at xs h = rw (lt-leb _ _ h)

-- a part of the buffer, of the length of `xs`, replaced by `xs`
pub put-part :
    {A : Type 0} (area : List A) (at : ℕ) (xs : List A) → at + length xs ≤ length area
    → put_mid at (at + length xs - at) area xs ≡ put_at area at xs
put-part {A} area at xs h =
    let tail : post_of at (at + length xs - at) area ≡ drop (at + length xs) area = Post-is at (at + length xs) area (omega arith) in
    ap (λ (l : List A). take at area ++ (xs ++ l)) tail ∙ sym (put-fits area at xs h ∙ (sets-eq xs area at h ∙ append_assoc (take at area) xs (drop (at + length xs) area)))

-- a buffer whose first i elements are those of the source, which has no more of them
pub copied_all : {A : Type 0} (dst src : List A) (i : ℕ) → length src ≤ i → length dst ≡ length src → take i dst ≡ take i src → dst ≡ src
copied_all dst src i h l e = sym (take_all i dst (omega arith)) ∙ e ∙ take_all i src h

-- two pieces, the second behind the first
pub sets_more : {A : Type 0} (l xs ys : List A) (at next : ℕ) → next ≡ at + length xs → sets (sets l at xs) next ys ≡ sets l at (xs ++ ys)
sets_more l [] ys at next e = let z : next ≡ at = omega arith in rw z
sets_more l (x ∷ xs) ys at next e = sets_more (set l at x) xs ys (suc at) next (omega arith)

pub joined :
    {A : Type 0} {m n : List A} (l : List A) (at next : ℕ) (xs ys : List A) → next ≡ at + length xs → m ≡ sets l at xs → n ≡ sets m next ys
    → n ≡ sets l at (xs ++ ys)
joined {A} l at next xs ys h e f = f ∙ ap (λ (k : List A). sets k next ys) e ∙ sets_more l xs ys at next h

-- the same where the first piece was put by a call
pub put-joined :
    {A : Type 0} {m n : List A} (l : List A) (at next : ℕ) (xs ys : List A) → next ≡ at + length xs → at + length xs ≤ length l
    → m ≡ put_at l at xs → n ≡ sets m next ys → n ≡ sets l at (xs ++ ys)
put-joined l at next xs ys h room e f = joined l at next xs ys h (put_is l at xs e room) f

-- a piece at the front
pub sets-front : {A : Type 0} (l xs : List A) → length xs ≤ length l → sets l 0 xs ≡ over xs l
sets-front {A} l xs h =
    let z : 0 + length xs ≡ length xs = omega arith in
    sets-eq xs l 0 (omega arith) ∙ ap (λ (n : ℕ). xs ++ drop n l) z

-- a source of the buffer's length, of at most one block, takes its place; another changes nothing
pub replaced-all : {A : Type 0} (area xs : List A) → length area ≡ length xs → length xs ≤ block_size → replaced area xs ≡ xs
replaced-all area xs e h = rw (eq-eqb (length area) (length xs) e, le-leb (length xs) block_size h)

pub replaced-none : {A : Type 0} (area xs : List A) → length area ≡ length xs → block_size < length xs → replaced area xs ≡ area
replaced-none area xs e h = rw (eq-eqb (length area) (length xs) e, lt-leb (length xs) block_size h)

-- one more piece comes off the front of the rest
pub cut-rest : {A : Type 0} (s rest x next : List A) (i n : ℕ) → rest ≡ drop i s → rest ≡ x ++ next → length x ≡ n → next ≡ drop (i + n) s
cut-rest s rest x next i n r e l = sym (drop_at x next n l) ∙ ap (drop n) (sym e ∙ r) ∙ drop-drop n i s

pub cut-within : {A : Type 0} (s rest x next : List A) (i n : ℕ) → i ≤ length s → rest ≡ drop i s → rest ≡ x ++ next → length x ≡ n → i + n ≤ length s
cut-within s rest x next i n h r e l = omega (arith, length-drop i s, ap length (sym r ∙ e), length-append x next, l)

-- a piece of the source is put where it stands there
pub cut-copied :
    {A : Type 0} (dst src rest x next y : List A) (at : ℕ) → rest ≡ drop at src → rest ≡ x ++ next → at + length x ≤ length src
    → take at dst ≡ take at src → y ≡ x → take (at + length x) (put_mid at (at + length x - at) dst y) ≡ take (at + length x) src
cut-copied dst src rest x next y at r e h t q =
    let k : take (length x) (drop at src) ≡ x = ap (take (length x)) (sym r ∙ e) ∙ take-append_seam x next in
    rw (q, t, ← append_assoc) (take_at (take at src ++ x) _ _ (simp length-append (omega (arith, length-take-le at src (omega arith)))) ∙ rw (take-add at (length x) src, k))
