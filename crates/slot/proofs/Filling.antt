-- Laws of lists that are filled index by index, of bytes that are put into a list, and of what stays beside them.
use Prim.Native.Nat.{ℕ, zero, suc, ◌+◌, ◌*◌, ◌≤◌, ◌<◌, ◌^◌}
use mathlib.Core.Path.{◌≡◌, refl, sym, ap, subst, ◌∙◌}
use mathlib.Core.Bool.{Bool, true, false}
use mathlib.Core.List.{List, [], ◌∷◌, ◌++◌, append_assoc}
use mathlib.Core.Logic.{◌⊎◌, inl, inr, ⊎_elim}
use native.Mathlib.Numerals.{add-one}
use native.Mathlib.Nat.{zero-add, suc-add, eq-or-lt_of_le, pow-succ'}
use native.Mathlib.Omega.{arith}
use denote.Param.Members.{Mut}
use Rattle.std.specs.Fn.{Called}
use Rattle.std.specs.Array.{IsFromFnResult, IsFromFnResultFrom}
use lib.Dec.{leb}
use lib.ListN.{length, take, drop, get_or, set, length-append, length-drop, get_or-append}
use lib.Seq.{take-suc-set, take-suc, take_all, take-add, sets, sets-eq, length-sets, take_at, drop_at, take-nil, take-set-le}
use lib.Seq.{drop-set-lt, take-append-le, drop-append-le, get_or_at, get_or-set_other, length-take-le, ext_get_or}
use borrow.Author.Tests.{leb-true, leb-false}
use Rattle.wire.specs.Every.{every}
use Rattle.wire.specs.Number.{le_bytes, le_value, number_at, Bytes}
use Rattle.wire.specs.Area.{put_at}
use Rattle.wire.proofs.ByteLists.{append-bytes, take-bytes, drop-bytes, byte_small}
use Rattle.wire.proofs.Chains.{and-true}
use Rattle.wire.proofs.Numbers.{length-le_bytes, le_bytes-bytes, bytes-of-value, number_step}
use Rattle.wire.proofs.Buffers.{put-fits, put-none}
use Rattle.slot.specs.Slot.{tabulate}
use Rattle.slot.specs.Row.{word_size, spelled}

pub le-or-lt : (a b : ℕ) → (a ≤ b) ⊎ (b < a)
le-or-lt a b = go (leb a b) refl
  where
    go : (t : Bool) → leb a b ≡ t → (a ≤ b) ⊎ (b < a)
    go true e = inl (leb-true a b e)
    go false e = inr (leb-false a b e)

-- a test that holds at each index holds at every one
pub every-each : (n : ℕ) (test : ℕ → Bool) → ((k : ℕ) → k < n → test k ≡ true) → every n test ≡ true
unfolding every
every-each zero test h = refl
every-each (suc n) test h = and-true (every n test) (test n) (every-each n test (λ k l. h k (omega arith))) (h n (omega arith))

-- one round of a loop that fills a list
pub fill_step :
    {A : Type 0} (r : List A) (i : ℕ) (f : ℕ → A) → i < length r → take i r ≡ tabulate i f → take (i + 1) (set r i (f i)) ≡ tabulate (i + 1) f
unfolding tabulate
fill_step r i f h e = rw (add-one i, take-suc-set r i (f i) h, e)

-- its end
pub fill-all :
    {A : Type 0} (n : ℕ) (r : List A) (i : ℕ) (f : ℕ → A) → i ≤ n → n ≤ i → length r ≡ n → take i r ≡ tabulate i f → r ≡ tabulate n f
fill-all n r i f h k l e = let q : i ≡ n = omega arith in sym (take_all i r (omega arith)) ∙ e ∙ ap (λ m. tabulate m f) q

pub length-tabulate : {A : Type 0} (n : ℕ) (f : ℕ → A) → length (tabulate n f) ≡ n
unfolding tabulate
length-tabulate zero f = refl
length-tabulate (suc n) f = length-append (tabulate n f) (f n ∷ []) ∙ rw (length-tabulate n f) (add-one n)

pub get_d_tabulate : {A : Type 0} (n : ℕ) (f : ℕ → A) (k : ℕ) (d : A) → k < n → get_or (tabulate n f) k d ≡ f k
unfolding tabulate
get_d_tabulate zero f k d h = absurd (omega arith)
get_d_tabulate (suc n) f k d h =
    ⊎_elim
    (λ (e : k ≡ n). rw e (get_or_at (tabulate n f) (f n) [] d n (length-tabulate n f)))
    (λ (l : k < n).
    get_or-append (tabulate n f) (f n ∷ []) d k (let q = length-tabulate n f in omega (arith, q)) ∙ get_d_tabulate n f k d l)
    (let g : k ≤ n = omega arith in eq-or-lt_of_le g)

-- lists of n elements that agree at each index
pub same-each :
    {A : Type 0} (n : ℕ) (d : A) (l m : List A) → length l ≡ n → length m ≡ n → ((k : ℕ) → k < n → get_or l k d ≡ get_or m k d) → l ≡ m
same-each n d l m p q e = ext_get_or d l m (p ∙ sym q) (λ k b. e k (omega arith))

-- a list of n elements is what its own indices give
pub tabulate-self : {A : Type 0} (n : ℕ) (d : A) (l : List A) (f : ℕ → A) → length l ≡ n → ((k : ℕ) → k < n → f k ≡ get_or l k d) → tabulate n f ≡ l
tabulate-self n d l f h e = same-each n d (tabulate n f) l (length-tabulate n f) h (λ k b. get_d_tabulate n f k d b ∙ e k b)

-- an array that is made from the index is what its indices give, where each call of the closure gives that and changes nothing
pub made :
    {F A : Type 0} (g : Mut F (ℕ × Unit {0}) A) (f : F) (n : ℕ) (d : A) (h : ℕ → A) (ys : List A) → IsFromFnResult g f ys n →
    ((i : ℕ) (y : A) (q : F) → Called g f (i, tt) y q → (q ≡ f) × (y ≡ h i)) → ys ≡ tabulate n h
made {F} {A} g f n d h ys r call = sym (tabulate-self n d ys h r.long (λ k l. sym (go n 0 f refl r.each k (omega arith) (omega arith))))
  where
    go :
        (m i : ℕ) (p : F) → p ≡ f → IsFromFnResultFrom g p ys i m → (k : ℕ) → i ≤ k → k < i + m → get_or ys k d ≡ h k
    go zero i p e r k l u = absurd (omega arith)
    go (suc m) i p e r k l u =
        let c = call i r.1 r.0 (subst (λ (x : F). Called g x (i, tt) r.1 r.0) e r.3) in
        ⊎_elim
        (λ (x : i ≡ k). rw (← x) (r.2.1 d ∙ c.1))
        (λ (x : i < k). go m (i + 1) r.0 c.0 r.4 k (omega arith) (omega arith))
        (eq-or-lt_of_le l)

-- the front of a list is what its own indices give
pub tabulate-front :
    {A : Type 0} (n : ℕ) (d : A) (l : List A) (f : ℕ → A) → n ≤ length l → ((k : ℕ) → k < n → f k ≡ get_or l k d) → tabulate n f ≡ take n l
unfolding tabulate
tabulate-front zero d l f h e = refl
tabulate-front (suc n) d l f h e =
    rw (tabulate-front n d l f (omega arith) (λ k b. e k (omega arith)), e n (omega arith)) (sym (take-suc l n d (omega arith)))

pub tabulate-bytes : (n : ℕ) (f : ℕ → ℕ) → ((k : ℕ) → f k < 256) → Bytes (tabulate n f)
unfolding tabulate
tabulate-bytes zero f h = tt
tabulate-bytes (suc n) f h = append-bytes (tabulate n f) (f n ∷ []) (tabulate-bytes n f h) (h n, tt)

pub length-spelled : (n : ℕ) (f : ℕ → ℕ) → length (spelled n f) ≡ word_size * n
unfolding spelled
length-spelled zero f = refl
length-spelled (suc n) f =
    length-append (spelled n f) (le_bytes word_size (f n))
    ∙ (let q = length-spelled n f in let p = length-le_bytes word_size (f n) in omega (arith, q, p))

pub spelled-bytes : (n : ℕ) (f : ℕ → ℕ) → Bytes (spelled n f)
unfolding spelled
spelled-bytes zero f = tt
spelled-bytes (suc n) f = append-bytes (spelled n f) (le_bytes word_size (f n)) (spelled-bytes n f) (le_bytes-bytes word_size (f n))

-- one round of a loop that spells words
pub spell-step :
    (r : List ℕ) (i : ℕ) (f : ℕ → ℕ) → word_size * i + word_size ≤ length r → take (word_size * i) r ≡ spelled i f
    → take (word_size * (i + 1)) (put_at r (word_size * i) (le_bytes word_size (f i))) ≡ spelled (i + 1) f
unfolding spelled
spell-step r i f h e =
    let x = le_bytes word_size (f i) in
    let n : length x ≡ word_size = length-le_bytes word_size (f i) in
    let fits : word_size * i + length x ≤ length r = omega (arith, n) in
    let m : length (spelled i f ++ x) ≡ word_size * (i + 1) =
    length-append (spelled i f) x ∙ (let q = length-spelled i f in omega (arith, q, n)) in
    ap (take (word_size * (i + 1))) (
    put-fits r (word_size * i) x fits
    ∙ sets-eq x r (word_size * i) fits
    ∙ ap (λ y. y ++ x ++ drop (word_size * i + length x) r) e)
    ∙ take_at (spelled i f ++ x) (drop (word_size * i + length x) r) (word_size * (i + 1)) m
    ∙ rw (add-one i)

-- the loop's end
pub spell-all :
    (n : ℕ) (r : List ℕ) (i : ℕ) (f : ℕ → ℕ) → i ≤ n → n ≤ i → length r ≡ word_size * n → take (word_size * i) r ≡ spelled i f → r ≡ spelled n f
spell-all n r i f h k l e = let q : i ≡ n = omega arith in sym (take_all (word_size * i) r (omega arith)) ∙ e ∙ ap (λ m. spelled m f) q

-- the bytes of one word
pub word_in : (n : ℕ) (f : ℕ → ℕ) (k : ℕ) → k < n → take word_size (drop (word_size * k) (spelled n f)) ≡ le_bytes word_size (f k)
unfolding spelled
word_in zero f k h = absurd (omega arith)
word_in (suc n) f k h =
    let q = length-spelled n f in
    let x = le_bytes word_size (f n) in
    ⊎_elim
    (λ (e : k ≡ n).
    rw e (
    ap (take word_size) (drop_at (spelled n f) x (word_size * n) q)
    ∙ take_all word_size x (let p = length-le_bytes word_size (f n) in omega (arith, p))))
    (λ (l : k < n).
    let m = length-drop (word_size * k) (spelled n f) in
    ap (take word_size) (drop-append-le (word_size * k) (spelled n f) x (omega (arith, q)))
    ∙ take-append-le word_size (drop (word_size * k) (spelled n f)) x (omega (arith, q, m))
    ∙ word_in n f k l)
    (let g : k ≤ n = omega arith in eq-or-lt_of_le g)

-- bytes that are as many as the width are those of the number that they spell
pub number-bytes : (width : ℕ) (l : List ℕ) (at : ℕ) → Bytes l → at + width ≤ length l → le_bytes width (number_at width l at) ≡ take width (drop at l)
number-bytes width l at b h =
    let x = take width (drop at l) in
    let n : length x ≡ width = length-take-le width (drop at l) (let m = length-drop at l in omega (arith, m)) in
    ap (λ w. le_bytes w (le_value x)) (sym n) ∙ bytes-of-value x (take-bytes width (drop at l) (drop-bytes at l b))

pub number_small : (width : ℕ) (l : List ℕ) (at : ℕ) → Bytes l → number_at width l at < 256 ^ width
number_small zero l at b = omega arith
number_small (suc width) l at b =
    let p = pow-succ' 256 width in
    let n = number_step width l at in
    let h = byte_small l at b in
    let k = number_small width l (at + 1) b in
    omega (arith, p, n, h, k)

-- the front of a list of bytes is what its own words spell
pub spelled-front :
    (n : ℕ) (l : List ℕ) (f : ℕ → ℕ) → Bytes l → word_size * n ≤ length l → ((k : ℕ) → k < n → f k ≡ number_at word_size l (word_size * k))
    → spelled n f ≡ take (word_size * n) l
unfolding spelled
spelled-front zero l f b h e = refl
spelled-front (suc n) l f b h e =
    let m : word_size * suc n ≡ word_size * n + word_size = omega arith in
    rw (spelled-front n l f b (omega arith) (λ k j. e k (omega arith)), e n (omega arith), number-bytes word_size l (word_size * n) b (omega arith), m)
    (sym (take-add (word_size * n) word_size l))

-- what stands before and behind a write stays
pub take-sets : {A : Type 0} (n : ℕ) (l : List A) (at : ℕ) (x : List A) → n ≤ at → take n (sets l at x) ≡ take n l
take-sets n l at [] h = refl
take-sets n l at (v ∷ x) h = take-sets n (set l at v) (suc at) x (omega arith) ∙ take-set-le n l at v h

pub drop-sets : {A : Type 0} (n : ℕ) (l : List A) (at : ℕ) (x : List A) → at + length x ≤ n → drop n (sets l at x) ≡ drop n l
drop-sets n l at [] h = refl
drop-sets n l at (v ∷ x) h = drop-sets n (set l at v) (suc at) x (omega arith) ∙ drop-set-lt n l at v (omega arith)

pub get_d_sets : {A : Type 0} (l : List A) (at : ℕ) (x : List A) (k : ℕ) (d : A) → k < at → get_or (sets l at x) k d ≡ get_or l k d
get_d_sets l at [] k d h = refl
get_d_sets l at (v ∷ x) k d h = get_d_sets (set l at v) (suc at) x k d (omega arith) ∙ get_or-set_other l at k v d (λ e. omega arith)

pub take-drop : {A : Type 0} (n m : ℕ) (l : List A) → take n (drop m l) ≡ drop m (take (m + n) l)
take-drop n zero l = rw (zero-add n)
take-drop n (suc m) [] = rw (suc-add m n, take-nil n)
take-drop n (suc m) (a ∷ l) = rw (suc-add m n) (take-drop n m l)

-- a part that was written, a part before it, and one behind it
pub part_same : {A : Type 0} (t : List A) (at n : ℕ) (x : List A) → length x ≡ n → at + n ≤ length t → take n (drop at (sets t at x)) ≡ x
part_same t at n x e h =
    ap (λ z. take n (drop at z)) (sets-eq x t at (omega arith) ∙ append_assoc (take at t) x (drop (at + length x) t))
    ∙ ap (take n) (drop_at (take at t) (x ++ drop (at + length x) t) at (length-take-le at t (omega arith)))
    ∙ take_at x (drop (at + length x) t) n e

pub part-before :
    {A : Type 0} (t : List A) (at from n : ℕ) (x : List A) → from + n ≤ at → take n (drop from (sets t at x)) ≡ take n (drop from t)
part-before t at from n x h =
    take-drop n from (sets t at x) ∙ ap (drop from) (take-sets (from + n) t at x h) ∙ sym (take-drop n from t)

-- a write keeps the length
pub length-put : {A : Type 0} (l : List A) (at : ℕ) (x : List A) → length (put_at l at x) ≡ length l
length-put l at x =
    ⊎_elim
    (λ (h : at + length x ≤ length l). ap length (put-fits l at x h) ∙ length-sets l at x)
    (λ (h : length l < at + length x). ap length (put-none l at x h))
    (le-or-lt (at + length x) (length l))

pub set-bytes : (l : List ℕ) (i v : ℕ) → Bytes l → v < 256 → Bytes (set l i v)
set-bytes [] i v b h = tt
set-bytes (x ∷ l) zero v b h = (h, b.1)
set-bytes (x ∷ l) (suc i) v b h = (b.0, set-bytes l i v b.1 h)

sets-bytes : (l : List ℕ) (at : ℕ) (x : List ℕ) → Bytes l → Bytes x → Bytes (sets l at x)
sets-bytes l at [] b h = b
sets-bytes l at (v ∷ x) b h = sets-bytes (set l at v) (suc at) x (set-bytes l at v b h.0) h.1

pub put-bytes : (l : List ℕ) (at : ℕ) (x : List ℕ) → Bytes l → Bytes x → Bytes (put_at l at x)
put-bytes l at x b h = go (leb (at + length x) (length l)) refl
  where
    go : (t : Bool) → leb (at + length x) (length l) ≡ t → Bytes (put_at l at x)
    go true e = rw e (sets-bytes l at x b h)
    go false e = rw e b

-- numbers that are all below a bound, with one more such number among them
pub set_below : (bound : ℕ) (l : List ℕ) (i v : ℕ) → ((k : ℕ) → get_or l k 0 < bound) → v < bound → (k : ℕ) → get_or (set l i v) k 0 < bound
set_below bound [] i v h n k = h k
set_below bound (x ∷ l) zero v h n zero = n
set_below bound (x ∷ l) zero v h n (suc k) = h (suc k)
set_below bound (x ∷ l) (suc i) v h n zero = h 0
set_below bound (x ∷ l) (suc i) v h n (suc k) = set_below bound l i v (λ j. h (suc j)) n k
