-- The bytes of a legal list are read as that list, whatever follows them.
use Prim.Native.Nat.{ℕ, zero, suc, ◌+◌, ◌-◌, ◌^◌, ◌≤◌, ◌<◌}
use mathlib.Core.Path.{◌≡◌, refl, sym, ap, ◌∙◌}
use mathlib.Core.Bool.{true, false, cond}
use mathlib.Core.List.{List, [], ◌∷◌, ◌++◌, append_assoc}
use native.Mathlib.Omega.{arith}
use native.Mathlib.Nat.{add-zero}
use lib.Dec.{eqb}
use lib.ListN.{length, take, drop, length-append}
use lib.Seq.{take_at, drop_at}
use borrow.Author.Tests.{eq-eqb, le-ltb, lt-leb}
use Rattle.wire.specs.Zero.{has_zero}
use Rattle.wire.proofs.Equal.{same_refl}
use Rattle.list.specs.declared.Kind.{Kind}
use Rattle.list.specs.Limits.{depth_limit}
use Rattle.list.specs.Kind.{code_of, kind_of, list_code, typed_code}
use Rattle.list.specs.Tree.{Value, Elements, int, vocab, float, str, blob, none, value, list, kind, count}
use Rattle.list.specs.Bytes.{number, string_bytes, blob_bytes, value_bytes, element_bytes, list_code_of, list_bytes}
use Rattle.list.specs.Legal.{NoZero, LegalValue, LegalElements, Legal}
use Rattle.list.specs.Refusal.{refusal}
use Rattle.list.specs.Strings.{terminator, string_length, string_size, closed}
use Rattle.list.specs.Parse.{Parsed, good, bad, in_list, is_list_code, item_fault, string_at, blob_at, value_at, typed_at, coded_at, mixed_at, elements_at, body_at, list_at, parse}
use Rattle.list.proofs.Codes.{kind-of-code, kind-of-typed, kind-of-list, kind-no-list, typed-no-list, code-low, code_is, code-good, AllKind, CodeIs, mixed, typed}
use Rattle.list.proofs.RowBound.{value-size}
use Rattle.list.proofs.Items.{Stands, stands-front, stands-length, stands-behind, stands-take, word_of, fault-none}

-- a string's run is closed by its zero
pub no_zero : (bs : List ℕ) → NoZero bs → has_zero bs ≡ false
unfolding has_zero
no_zero [] h = refl
no_zero (zero ∷ bs) h = absurd (h.0 refl)
no_zero (suc b ∷ bs) h = no_zero bs h.1

closed-string : (bs : List ℕ) → NoZero bs → closed (bs ++ terminator) ≡ true
closed-string bs h =
    let e : string_size (length (bs ++ terminator)) ≡ length bs = omega (arith, length-append bs terminator) in
    rw (e, take_at bs terminator (length bs) refl, no_zero bs h, drop_at bs terminator (length bs) refl, same_refl terminator)

-- every element has a byte, so a count is no more than the bytes
pub count-le : (code : ℕ) (es : Elements) → count es ≤ length (element_bytes code es)
count-le code none = omega arith
count-le code (value v es) = simp length-append (omega (arith, count-le code es, value-size v))
count-le code (list inner es) = simp length-append (omega (arith, count-le code es))

module _ (limit : ℕ) (small : limit < 2 ^ 31) (s : List ℕ) where
  -- an item that is there
  item : (at : ℕ) (xs rest : List ℕ) → Stands s at (xs ++ rest) → at + length xs ≤ limit → item_fault limit s at (length xs) ≡ 0
  item at xs rest h f = fault-none limit s at (length xs) f (stands-length s at xs rest h)

  -- a string and a blob
  string-ok : (bs : List ℕ) (at : ℕ) (rest : List ℕ) → NoZero bs → Stands s at (string_bytes bs ++ rest) → at + length (string_bytes bs) ≤ limit
      → string_at limit s at ≡ good (str bs) (at + length (string_bytes bs))
  unfolding string_at
  string-ok bs at rest z h f =
      let n : ℕ = string_length (length bs) in
      let run : List ℕ = bs ++ terminator in
      let len : length run ≡ n = omega (arith, length-append bs terminator) in
      let h₄ : Stands s (at + 4) (run ++ rest) = stands-behind s at (number n) (run ++ rest) h in
      let t : take n (drop (at + 4) s) ≡ run = ap (λ (k : ℕ). take k (drop (at + 4) s)) (sym len) ∙ stands-take s (at + 4) run rest h₄ in
      let e : string_size n ≡ length bs = omega arith in
      let u : take (string_size n) (drop (at + 4) s) ≡ bs = rw e (stands-take s (at + 4) bs (terminator ++ rest) (rw append_assoc at h₄)) in
      rw (
        item at (number n) (run ++ rest) h (omega arith),
        word_of s at n (run ++ rest) (omega arith) h,
        le-ltb n (length terminator) (omega arith),
        lt-leb 2147483648 n (omega arith),
        fault-none limit s (at + 4) n (omega arith) (omega (arith, stands-length s (at + 4) run rest h₄)),
        t,
        closed-string bs z,
        u,
      )
      (ap (good (str bs)) (omega arith))

  blob-ok : (bs : List ℕ) (at : ℕ) (rest : List ℕ) → Stands s at (blob_bytes bs ++ rest) → at + length (blob_bytes bs) ≤ limit
      → blob_at limit s at ≡ good (blob bs) (at + length (blob_bytes bs))
  unfolding blob_at
  blob-ok bs at rest h f =
      let n : ℕ = length bs in
      let h₄ : Stands s (at + 4) (bs ++ rest) = stands-behind s at (number n) (bs ++ rest) h in
      rw (
        item at (number n) (bs ++ rest) h (omega arith),
        word_of s at n (bs ++ rest) (omega arith) h,
        lt-leb 2147483648 n (omega arith),
        item (at + 4) bs rest h₄ (omega arith),
        stands-take s (at + 4) bs rest h₄,
      )
      (ap (good (blob bs)) (omega arith))

  -- an element that is no list, without its code
  value-ok : (v : Value) (at : ℕ) (rest : List ℕ) → LegalValue v → Stands s at (value_bytes v ++ rest) → at + length (value_bytes v) ≤ limit
      → value_at limit s at (kind v) ≡ good v (at + length (value_bytes v))
  unfolding value_at
  value-ok (int n) at rest l h f = rw (item at (number n) rest h f, word_of s at n rest l h)
  value-ok (vocab n) at rest l h f = rw (item at (number n) rest h f, word_of s at n rest l h)
  value-ok (float low high) at rest l h f =
      rw (
        item at (number low ++ number high) rest h f,
        word_of s at low (number high ++ rest) l.0 h,
        word_of s (at + 4) high rest l.1 (stands-behind s at (number low) (number high ++ rest) h),
      )
  value-ok (str bs) at rest l h f = string-ok bs at rest l.1 h f
  value-ok (blob bs) at rest l h f = blob-ok bs at rest h f

  -- elements of one kind, without codes
  typed-ok : (code : ℕ) (k : Kind) (es : Elements) (d at : ℕ) (rest : List ℕ) → eqb code list_code ≡ false → AllKind k es → LegalElements d es
      → Stands s at (element_bytes code es ++ rest) → at + length (element_bytes code es) ≤ limit
      → typed_at limit s k (count es) at ≡ good es (at + length (element_bytes code es))
  unfolding typed_at
  typed-ok code k none d at rest bare a l h f = rw add-zero
  typed-ok code k (list inner es) d at rest bare a l h f = absurd a
  typed-ok code k (value v es) d at rest bare a l h f =
      let x : List ℕ = value_bytes v in
      let y : List ℕ = element_bytes code es in
      let h₁ : Stands s at (x ++ (y ++ rest)) = rw (bare, append_assoc x y rest) at h in
      let f₁ : at + length (x ++ y) ≤ limit = rw bare at f in
      let len : length (x ++ y) ≡ length x + length y = length-append x y in
      let w : value_at limit s at k ≡ good v (at + length x) = ap (value_at limit s at) (sym a.0) ∙ value-ok v at (y ++ rest) l.0 h₁ (omega arith) in
      let r = typed-ok code k es d (at + length x) rest bare a.1 l.1 (stands-behind s at x (y ++ rest) h₁) (omega arith) in
      rw (bare, w, r) (ap (good (value v es)) (omega arith))

  -- an element behind its code
  coded-ok : (inner : ℕ → ℕ → Parsed Elements) (v : Value) (at : ℕ) (rest : List ℕ) → LegalValue v
      → Stands s at (number (code_of (kind v)) ++ (value_bytes v ++ rest)) → at + (4 + length (value_bytes v)) ≤ limit
      → coded_at inner limit s at ≡ good (value v) (at + 4 + length (value_bytes v))
  unfolding coded_at
  coded-ok inner v at rest l h f =
      let c : ℕ = code_of (kind v) in
      let x : List ℕ = value_bytes v ++ rest in
      rw (
        item at (number c) x h (omega arith),
        word_of s at c x (omega (arith, (code-low (kind v)).1)) h,
        kind-no-list (kind v),
        kind-of-code (kind v),
        value-ok v (at + 4) rest l (stands-behind s at (number c) x h) (omega arith),
      )

  -- a list as an element, where `inner` reads it
  coded-list : (inner : ℕ → ℕ → Parsed Elements) (es : Elements) (at next : ℕ) (rest : List ℕ)
      → Stands s at (number (list_code_of es) ++ rest) → at + 4 ≤ limit → inner at (list_code_of es) ≡ good es next
      → coded_at inner limit s at ≡ good (list es) next
  unfolding coded_at
  coded-list inner es at next rest h f r =
      rw (
        item at (number (list_code_of es)) rest h f,
        word_of s at (list_code_of es) rest (code-good es).1 h,
        (code-good es).0,
        r,
      )

  -- elements behind any code and their count: a list if the code is theirs
  pub body_ok : (d code : ℕ) (es : Elements) (at : ℕ) (rest : List ℕ)
      → Stands s at (number code ++ (number (count es) ++ (element_bytes code es ++ rest))) → at + (8 + length (element_bytes code es)) ≤ limit
      → (Stands s (at + 8) (element_bytes code es ++ rest)
      → elements_at (list_at d limit s) limit s (kind_of (code - list_code)) (count es) (at + 8) ≡ good es (at + 8 + length (element_bytes code es)))
      → list_at (suc d) limit s at code ≡ in_list (cond (eqb code (list_code_of es)) (good es (at + 8 + length (element_bytes code es))) (bad (refusal 24 at)))
  unfolding list_at body_at
  body_ok d code es at rest h f go =
      let x : List ℕ = element_bytes code es ++ rest in
      let h₄ : Stands s (at + 4) (number (count es) ++ x) = stands-behind s at (number code) (number (count es) ++ x) h in
      let e₈ : at + 4 + 4 ≡ at + 8 = omega arith in
      let h₈ : Stands s (at + 8) x = rw e₈ at (stands-behind s (at + 4) (number (count es)) x h₄) in
      let few : count es < 2147483648 = omega (arith, count-le code es) in
      rw (
        item (at + 4) (number (count es)) x h₄ (omega arith),
        word_of s (at + 4) (count es) x (omega arith) h₄,
        lt-leb 2147483648 (count es) few,
        go h₈,
      )

  -- what is to be shown of elements that follow their codes
  abbrev ReadMixed : ℕ → Elements → Type 0
  ReadMixed d es =
      (at : ℕ) (rest : List ℕ) → Stands s at (element_bytes list_code es ++ rest) → at + length (element_bytes list_code es) ≤ limit
      → mixed_at (list_at d limit s) limit s (count es) at ≡ good es (at + length (element_bytes list_code es))

  -- a list of any code
  list-ok : (d : ℕ) (es : Elements) (at : ℕ) (rest : List ℕ) → LegalElements d es → ReadMixed d es
      → Stands s at (list_bytes es ++ rest) → at + length (list_bytes es) ≤ limit → list_at (suc d) limit s at (list_code_of es) ≡ good es (at + length (list_bytes es))
  unfolding list_bytes
  list-ok d es at rest l m h f =
      body_ok d (list_code_of es) es at rest h (omega arith) (λ h₈. go (code_is es) h₈ (omega arith))
      ∙ rw (eq-eqb (list_code_of es) (list_code_of es) refl) (ap (good es) (omega arith))
    where
      go : CodeIs es → Stands s (at + 8) (element_bytes (list_code_of es) es ++ rest) → at + 8 + length (element_bytes (list_code_of es) es) ≤ limit
          → elements_at (list_at d limit s) limit s (kind_of (list_code_of es - list_code)) (count es) (at + 8) ≡ good es (at + 8 + length (element_bytes (list_code_of es) es))
      go (mixed e) h₈ f₈ = rw (e, kind-of-list) (m (at + 8) rest (rw e at h₈) (rw e at f₈))
      go (typed k e a) h₈ f₈ = rw (e, kind-of-typed k) (typed-ok (typed_code k) k es d (at + 8) rest (typed-no-list k) a l (rw e at h₈) (rw e at f₈))

  -- elements that follow their codes
  pub mixed-ok : (es : Elements) (d : ℕ) → LegalElements d es → ReadMixed d es
  unfolding mixed_at list_bytes
  mixed-ok none d l at rest h f = rw add-zero
  mixed-ok (value v es) d l at rest h f =
      let c : List ℕ = number (code_of (kind v)) in
      let x : List ℕ = value_bytes v in
      let y : List ℕ = element_bytes list_code es in
      let len : length (x ++ y) ≡ length x + length y = length-append x y in
      let h₁ : Stands s at (c ++ (x ++ (y ++ rest))) = rw (append_assoc x y rest) at h in
      let h₂ : Stands s (at + 4 + length x) (y ++ rest) = stands-behind s (at + 4) x (y ++ rest) (stands-behind s at c (x ++ (y ++ rest)) h₁) in
      rw (coded-ok (list_at d limit s) v at (y ++ rest) l.0 h₁ (omega arith), mixed-ok es d l.1 (at + 4 + length x) rest h₂ (omega arith))
      (ap (good (value v es)) (omega arith))
  mixed-ok (list inner es) zero l at rest h f = absurd l
  mixed-ok (list inner es) (suc d) l at rest h f =
      let x : List ℕ = list_bytes inner in
      let y : List ℕ = element_bytes list_code es in
      let len : length (x ++ y) ≡ length x + length y = length-append x y in
      let h₁ : Stands s at (x ++ (y ++ rest)) = rw (append_assoc (element_bytes (list_code_of inner) inner) y rest) at h in
      let r : list_at (suc d) limit s at (list_code_of inner) ≡ good inner (at + length x) =
      list-ok d inner at (y ++ rest) l.0 (mixed-ok inner d l.0) h₁ (omega arith) in
      rw (
        coded-list (list_at (suc d) limit s) inner at (at + length x) (number (count inner) ++ (element_bytes (list_code_of inner) inner ++ (y ++ rest))) h₁ (omega arith) r,
        mixed-ok es (suc d) l.1 (at + length x) rest (stands-behind s at x (y ++ rest) h₁) (omega arith),
      )
      (ap (good (list inner es)) (omega arith))

  -- a list code at the front
  pub front-ok : (code : ℕ) (rest : List ℕ) → is_list_code code ≡ true → code < 2 ^ 32 → Stands s 0 (number code ++ rest) → 4 ≤ limit
      → parse limit s ≡ list_at depth_limit limit s 0 code
  unfolding parse
  front-ok code rest c small-code h f = rw (item 0 (number code) rest h f, word_of s 0 code rest small-code h, c)

-- legal lists are accepted with their own meaning and size
pub complete : (limit : ℕ) (es : Elements) (rest : List ℕ) → limit < 2 ^ 31 → Legal limit es → parse limit (list_bytes es ++ rest) ≡ good es (length (list_bytes es))
unfolding list_bytes
complete limit es rest small l =
    let s : List ℕ = list_bytes es ++ rest in
    let c : ℕ = list_code_of es in
    front-ok limit small s c (number (count es) ++ (element_bytes c es ++ rest)) (code-good es).0 (code-good es).1 (stands-front s) (omega arith)
    ∙ list-ok limit small s (depth_limit - 1) es 0 rest l.0 (mixed-ok limit small s es (depth_limit - 1) l.0) (stands-front s) (omega arith)
    ∙ ap (good es) (omega arith)
