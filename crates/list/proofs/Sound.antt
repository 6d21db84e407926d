-- What is read is a legal list, and its bytes are those at the front; a fault is never past the end.
-- Both are shown at once, through each step of reading: `Judged` says what holds of an answer, good or bad.
use Prim.Native.Nat.{ℕ, zero, suc, ◌+◌, ◌-◌, ◌^◌, ◌≤◌, ◌<◌}
use mathlib.Core.Path.{◌≡◌, refl, sym, ap, ◌∙◌}
use mathlib.Core.Bool.{Bool, true, false, not, ◌&&◌, ◌||◌}
use mathlib.Core.List.{List, [], ◌∷◌, ◌++◌, append_assoc}
use native.Mathlib.Omega.{arith}
use lib.Dec.{eqb, ltb, leb}
use lib.ListN.{length, take, drop, length-append, length-drop, take-append-drop}
use lib.Seq.{take-take, drop-drop, length-take-le}
use borrow.Author.Tests.{eqb-true, ltb-false, ne_eqb, not-true}
use Rattle.std.specs.Prelude.{Option, Some, None}
use Rattle.wire.specs.Number.{Bytes}
use Rattle.wire.specs.Zero.{has_zero}
use Rattle.wire.specs.Equal.{same}
use Rattle.wire.proofs.Equal.{same-equal}
use Rattle.wire.proofs.Chains.{and_left, and_right}
use Rattle.wire.proofs.Numbers.{bytes-of-value, value-fits}
use Rattle.list.specs.declared.Kind.{Kind}
use Rattle.list.specs.declared.Kind.TheVariants.{Int, Float, Str, Blob, Vocab}
use Rattle.list.specs.Limits.{depth_limit}
use Rattle.list.specs.Kind.{code_of, kind_of, list_code}
use Rattle.list.specs.Tree.{Value, Elements, str, none, value, list, kind, count}
use Rattle.list.specs.Bytes.{number, string_bytes, value_bytes, element_code, element_bytes, list_code_of, list_bytes}
use Rattle.list.specs.Legal.{NoZero, LegalValue, LegalElements, Legal}
use Rattle.list.specs.Refusal.{Refusal, refusal, enclosed}
use Rattle.list.specs.Strings.{terminator, string_length, string_size, negative, bad_length, closed}
use Rattle.list.specs.Parse.{Parsed, good, bad, after_item, word, item_fault}
use Rattle.list.specs.Parse.{string_at, blob_at, value_at, typed_at, is_list_code, coded_value, coded_at, mixed_at, elements_at, body_at, list_at, parse}
use Rattle.list.proofs.Codes.{code-of-kind}
use Rattle.list.proofs.Items.{bytes_take, bytes_drop, fault-is}
use Rattle.list.proofs.Says.{Says, test, next-step, after-item, in_list_lem, weaken}

-- a closed run is a string's bytes
pub zero-none : (bs : List ℕ) → has_zero bs ≡ false → NoZero bs
unfolding has_zero
zero-none [] h = tt
zero-none (zero ∷ bs) h = absurd (let z : ◌≡◌ {A = ℕ} 0 1 = cc in omega arith)
zero-none (suc b ∷ bs) h = (λ e. omega arith, zero-none bs h)

closed_is : (m : ℕ) (run : List ℕ) → string_size (length run) ≡ m → closed run ≡ true → NoZero (take m run) × (run ≡ take m run ++ terminator)
closed_is m run e h =
    let h₁ : (not (has_zero (take m run)) && same (drop m run) terminator) ≡ true = rw e at h in
    let z : has_zero (take m run) ≡ false = not-true (has_zero (take m run)) (and_left (not (has_zero (take m run))) (same (drop m run) terminator) h₁) in
    let l : drop m run ≡ terminator = same-equal (drop m run) terminator (and_right (not (has_zero (take m run))) (same (drop m run) terminator) h₁) in
    (zero-none (take m run) z, sym (take-append-drop m run) ∙ ap (λ (bs : List ℕ). take m run ++ bs) l)

or_left : (a b : Bool) → (a || b) ≡ false → a ≡ false
or_left true b h = h
or_left false b h = refl

-- a string's run has room for what stands behind the bytes
pub string-room : (n : ℕ) → bad_length n ≡ false → length terminator ≤ n
string-room n fine = ltb-false n (length terminator) (or_left (ltb n (length terminator)) (negative n) fine)

-- a list that stands in d lists, itself included
abbrev Deep : ℕ → Elements → Type 0
Deep zero es = ⊥
Deep (suc d) es = LegalElements d es

deep-list : (d : ℕ) (inner es : Elements) → Deep d inner → LegalElements d es → LegalElements d (list inner es)
deep-list zero inner es p q = p
deep-list (suc d) inner es p q = (p, q)

-- a list code that names no kind is 256, and 256 names none
code-mixed : (code : ℕ) → is_list_code code ≡ true → kind_of (code - list_code) ≡ None → code ≡ list_code
unfolding is_list_code
code-mixed code h e = go (eqb code list_code) refl (rw e at h)
  where
    go : (b : Bool) → eqb code list_code ≡ b → (b || (leb list_code code && false)) ≡ true → code ≡ list_code
    go true q r = eqb-true code list_code q
    go false q r = absurd (let y : false ≡ true = and_right (leb list_code code) false r in let z : ◌≡◌ {A = ℕ} 0 1 = cc in omega arith)

code-typed : (code : ℕ) (k : Kind) → kind_of (code - list_code) ≡ Some k → eqb code list_code ≡ false
unfolding kind_of
code-typed code k e = ne_eqb code list_code (λ q. let y : None ≡ Some k = rw q at e in let z : ◌≡◌ {A = ℕ} 0 1 = cc in omega arith)

-- a refusal has a number of list reading, up to `last`, and its offset is not past the end
pub record SaneRefusal (last : ℕ) (s : List ℕ) (r : Refusal) : Type 0 where
  pub low : 20 < r.number
  pub high : r.number ≤ last
  pub inside : r.offset ≤ length s

fault-number : (limit : ℕ) (s : List ℕ) (at n fault : ℕ) → item_fault limit s at n ≡ suc fault → (20 < suc fault) × (suc fault ≤ 28)
fault-number limit s at n fault = fault-is (λ (number : ℕ). (20 < number) × (number ≤ 28)) limit s at n fault (omega arith) (omega arith)

module _ (limit : ℕ) (s : List ℕ) where
  sane : (n at : ℕ) → at ≤ length s → (20 < n) × (n ≤ 28) → SaneRefusal 28 s (refusal n at)
  sane n at h b = record { low = b.0; high = b.1; inside = h }

  sane-list : (r : Refusal) → SaneRefusal 28 s r → SaneRefusal 28 s (enclosed r)
  sane-list r h = record { low = h.low; high = h.high; inside = h.inside }

  -- from `at` to `next`, within the limit and the bytes, stands xs
  record Span (at : ℕ) (xs : List ℕ) (next : ℕ) : Type 0 where
    fits : next ≤ limit
    inside : next ≤ length s
    spells : Bytes s → drop at s ≡ xs ++ drop next s

  -- what holds of an answer: G of what was read and the offset behind it; a refusal is sane
  abbrev Judged : {A : Type 0} → (A → ℕ → Type 0) → Parsed A → Type 0
  Judged G = Says G (SaneRefusal 28 s)

  item-read : {A : Type 0} (G : A → ℕ → Type 0) (at n : ℕ) (p : Parsed A) → at ≤ length s
      → (at + n ≤ limit → at + n ≤ length s → Judged G p) → Judged G (after_item (item_fault limit s at n) at p)
  item-read G at n p h go = after-item limit s G (SaneRefusal 28 s) at n p (λ fault e. sane (suc fault) at h (fault-number limit s at n fault e)) go

  -- spans one behind the other
  join : (at mid next : ℕ) (xs ys : List ℕ) → Span at xs mid → Span mid ys next → Span at (xs ++ ys) next
  join at mid next xs ys a b = record {
    fits = b.fits;
    inside = b.inside;
    spells = λ all. a.spells all ∙ ap (λ (l : List ℕ). xs ++ l) (b.spells all) ∙ sym (append_assoc xs ys (drop next s));
  }

  spells-as : (at next : ℕ) (xs ys : List ℕ) → xs ≡ ys → Span at xs next → Span at ys next
  spells-as at next xs ys e a = record { fits = a.fits; inside = a.inside; spells = λ all. a.spells all ∙ ap (λ (l : List ℕ). l ++ drop next s) e }

  -- a run of n bytes, and a number
  run : (at n : ℕ) → at + n ≤ limit → at + n ≤ length s → Span at (take n (drop at s)) (at + n)
  run at n f i = record {
    fits = f;
    inside = i;
    spells = λ all. sym (take-append-drop n (drop at s)) ∙ ap (λ (l : List ℕ). take n (drop at s) ++ l) (drop-drop n at s);
  }

  run_length : (at n : ℕ) → at + n ≤ length s → length (take n (drop at s)) ≡ n
  run_length at n i = length-take-le n (drop at s) (omega (arith, length-drop at s))

  a-number : (at : ℕ) → at + 4 ≤ limit → at + 4 ≤ length s → Span at (number (word s at)) (at + 4)
  a-number at f i = record {
    fits = f;
    inside = i;
    spells = λ all.
        let e : number (word s at) ≡ take 4 (drop at s) = rw (run_length at 4 i) at (bytes-of-value (take 4 (drop at s)) (bytes_take 4 (drop at s) (bytes_drop at s all))) in
        (run at 4 f i).spells all ∙ ap (λ (l : List ℕ). l ++ drop (at + 4) s) (sym e);
  }

  word_small : (at : ℕ) → at + 4 ≤ length s → Bytes s → word s at < 2 ^ 32
  word_small at i all = rw (run_length at 4 i) at (value-fits (take 4 (drop at s)) (bytes_take 4 (drop at s) (bytes_drop at s all)))

  -- a value of the kind k was read
  record IsValue (k : Kind) (at : ℕ) (v : Value) (next : ℕ) : Type 0 where
    of-kind : kind v ≡ k
    legal : Bytes s → LegalValue v
    span : Span at (value_bytes v) next

  is-string : (at n : ℕ) → bad_length n ≡ false → Span at (number n) (at + 4) → at + 4 + n ≤ limit → at + 4 + n ≤ length s
      → closed (take n (drop (at + 4) s)) ≡ true → IsValue Str at (str (take (string_size n) (drop (at + 4) s))) (at + 4 + n)
  is-string at n fine a f i c =
      let m : ℕ = string_size n in
      let all-bytes : List ℕ = drop (at + 4) s in
      let bs : List ℕ = take m all-bytes in
      let some : length terminator ≤ n = string-room n fine in
      let len : length (take n all-bytes) ≡ n = run_length (at + 4) n i in
      let r = closed_is m (take n all-bytes) (ap string_size len) c in
      let t : take m (take n all-bytes) ≡ bs = take-take m n all-bytes (omega arith) in
      let len₁ : string_length (length bs) ≡ n = omega (arith, length-take-le m all-bytes (omega (arith, length-drop (at + 4) s))) in
      let whole : take n all-bytes ≡ bs ++ terminator = r.1 ∙ ap (λ (l : List ℕ). l ++ terminator) t in
      record {
        of-kind = refl;
        legal = λ all. (bytes_take m all-bytes (bytes_drop (at + 4) s all), rw t at r.0);
        span = spells-as at (at + 4 + n) (number n ++ take n all-bytes) (string_bytes bs)
            (ap (λ (k : ℕ). number k ++ take n all-bytes) (sym len₁) ∙ ap (λ (l : List ℕ). number (string_length (length bs)) ++ l) whole)
            (join at (at + 4) (at + 4 + n) (number n) (take n all-bytes) a (run (at + 4) n f i));
      }

  string-read : (at : ℕ) → at ≤ length s → Judged (IsValue Str at) (string_at limit s at)
  unfolding string_at
  string-read at h =
      item-read _ at 4 _ h (λ f₄ i₄.
      test _ _ (bad_length (word s at)) _ _ (λ e. sane 25 at h (omega arith)) (λ e.
      item-read _ (at + 4) (word s at) _ i₄ (λ f i.
      test _ _ (closed (take (word s at) (drop (at + 4) s))) _ _
      (λ c. is-string at (word s at) e (a-number at f₄ i₄) f i c)
      (λ c. sane 25 (at + 4) i₄ (omega arith)))))

  blob-read : (at : ℕ) → at ≤ length s → Judged (IsValue Blob at) (blob_at limit s at)
  unfolding blob_at
  blob-read at h =
      item-read _ at 4 _ h (λ f₄ i₄.
      test _ _ (negative (word s at)) _ _ (λ e. sane 25 at h (omega arith)) (λ e.
      item-read _ (at + 4) (word s at) _ i₄ (λ f i. record {
        of-kind = refl;
        legal = λ all. bytes_take (word s at) (drop (at + 4) s) (bytes_drop (at + 4) s all);
        span = spells-as at (at + 4 + word s at) _ _
            (ap (λ (k : ℕ). number k ++ take (word s at) (drop (at + 4) s)) (sym (run_length (at + 4) (word s at) i)))
            (join at (at + 4) (at + 4 + word s at) _ _ (a-number at f₄ i₄) (run (at + 4) (word s at) f i));
      })))

  value_read : (k : Kind) (at : ℕ) → at ≤ length s → Judged (IsValue k at) (value_at limit s at k)
  unfolding value_at
  value_read Int at h = item-read _ at 4 _ h (λ f i. record { of-kind = refl; legal = word_small at i; span = a-number at f i })
  value_read Vocab at h = item-read _ at 4 _ h (λ f i. record { of-kind = refl; legal = word_small at i; span = a-number at f i })
  value_read Float at h =
      let e : at + 4 + 4 ≡ at + 8 = omega arith in
      item-read _ at 8 _ h (λ f i. record {
        of-kind = refl;
        legal = λ all. (word_small at (omega arith) all, word_small (at + 4) (omega arith) all);
        span = join at (at + 4) (at + 8) (number (word s at)) (number (word s (at + 4)))
            (a-number at (omega arith) (omega arith)) (rw e at (a-number (at + 4) (omega arith) (omega arith)));
      })
  value_read Str at h = string-read at h
  value_read Blob at h = blob-read at h

  -- n elements were read, in a list of the code `code`
  record AreElements (d code at n : ℕ) (es : Elements) (next : ℕ) : Type 0 where
    many : count es ≡ n
    legal : Bytes s → LegalElements d es
    span : Span at (element_bytes code es) next

  no-elements : (d code at : ℕ) → at ≤ limit → at ≤ length s → AreElements d code at 0 none at
  no-elements d code at f i = record { many = refl; legal = λ all. tt; span = record { fits = f; inside = i; spells = λ all. refl } }

  -- a value before elements
  add-value : (d code at mid n next : ℕ) (v : Value) (es : Elements) → (Bytes s → LegalValue v)
      → Span at (element_code code (code_of (kind v)) ++ value_bytes v) mid → AreElements d code mid n es next → AreElements d code at (suc n) (value v es) next
  add-value d code at mid n next v es l a r = record {
    many = ap suc r.many;
    legal = λ all. (l all, r.legal all);
    span = spells-as at next _ _ (append_assoc (element_code code (code_of (kind v))) (value_bytes v) (element_bytes code es))
        (join at mid next (element_code code (code_of (kind v)) ++ value_bytes v) (element_bytes code es) a r.span);
  }

  typed-read : (d code : ℕ) (k : Kind) → eqb code list_code ≡ false → (n at : ℕ) → at ≤ limit → at ≤ length s
      → Judged (AreElements d code at n) (typed_at limit s k n at)
  unfolding typed_at
  typed-read d code k bare zero at f i = no-elements d code at f i
  typed-read d code k bare (suc n) at f i =
      next-step _ _ _ (value_at limit s at k) _ (value_read k at i) (λ v mid _ a.
      next-step _ _ _ (typed_at limit s k n mid) _ (typed-read d code k bare n mid a.span.fits a.span.inside) (λ es next _ r.
      add-value d code at mid n next v es a.legal (rw bare a.span) r))

  -- an element of a 256 list was read: `put` puts it before others
  abbrev IsElement : ℕ → ℕ → (Elements → Elements) → ℕ → Type 0
  IsElement d at put mid =
      (mid ≤ limit) × (mid ≤ length s) × ((n next : ℕ) (es : Elements) → AreElements d list_code mid n es next → AreElements d list_code at (suc n) (put es) next)

  -- a list behind its code, which stands at `at`, was read
  record IsList (d at code : ℕ) (es : Elements) (next : ℕ) : Type 0 where
    legal : Bytes s → Deep d es
    code_is : code ≡ list_code_of es
    span : Span (at + 4) (number (count es) ++ element_bytes code es) next

  add-list : (d at mid n next : ℕ) (inner es : Elements) → Span at (number (word s at)) (at + 4) → IsList d at (word s at) inner mid
      → AreElements d list_code mid n es next → AreElements d list_code at (suc n) (list inner es) next
  add-list d at mid n next inner es a w r = record {
    many = ap suc r.many;
    legal = λ all. deep-list d inner es (w.legal all) (r.legal all);
    span = spells-as at next _ _
        (ap (λ (c : ℕ). number c ++ (number (count inner) ++ (element_bytes c inner ++ element_bytes list_code es))) w.code_is)
        (join at (at + 4) next (number (word s at)) _ a
        (join (at + 4) mid next (number (count inner) ++ element_bytes (word s at) inner) (element_bytes list_code es) w.span r.span));
  }

  -- what is to be shown of the reader of inner lists
  abbrev ReadsLists : ℕ → (ℕ → ℕ → Parsed Elements) → Type 0
  ReadsLists d inner = (at code : ℕ) → is_list_code code ≡ true → at + 4 ≤ limit → at + 4 ≤ length s → Judged (IsList d at code) (inner at code)

  coded-value : (d at : ℕ) (found : Option Kind) → kind_of (word s at) ≡ found → at + 4 ≤ limit → at + 4 ≤ length s → at ≤ length s
      → Judged (IsElement d at) (coded_value limit s at found)
  coded-value d at None e f i h = sane 26 at h (omega arith)
  coded-value d at (Some k) e f i h =
      next-step _ _ _ (value_at limit s (at + 4) k) _ (value_read k (at + 4) i) (λ v mid _ a.
      let c : word s at ≡ code_of (kind v) = code-of-kind (word s at) k e ∙ ap code_of (sym a.of-kind) in
      let b : Span at (number (code_of (kind v)) ++ value_bytes v) mid =
      spells-as at mid _ _ (ap (λ (w : ℕ). number w ++ value_bytes v) c) (join at (at + 4) mid (number (word s at)) (value_bytes v) (a-number at f i) a.span) in
      (a.span.fits, a.span.inside, λ n next es r. add-value d list_code at mid n next v es a.legal b r))

  coded-read : (d : ℕ) (inner : ℕ → ℕ → Parsed Elements) → ReadsLists d inner → (at : ℕ) → at ≤ length s
      → Judged (IsElement d at) (coded_at inner limit s at)
  unfolding coded_at
  coded-read d inner reads at h =
      item-read _ at 4 _ h (λ f i.
      test _ _ (is_list_code (word s at)) _ _
      (λ c. next-step _ _ _ (inner at (word s at)) _ (reads at (word s at) c f i) (λ es mid _ w.
      (w.span.fits, w.span.inside, λ n next fs r. add-list d at mid n next es fs (a-number at f i) w r)))
      (λ c. coded-value d at (kind_of (word s at)) refl f i h))

  mixed-read : (d : ℕ) (inner : ℕ → ℕ → Parsed Elements) → ReadsLists d inner → (n at : ℕ) → at ≤ limit → at ≤ length s
      → Judged (AreElements d list_code at n) (mixed_at inner limit s n at)
  unfolding mixed_at
  mixed-read d inner reads zero at f i = no-elements d list_code at f i
  mixed-read d inner reads (suc n) at f i =
      next-step _ _ _ (coded_at inner limit s at) _ (coded-read d inner reads at i) (λ put mid _ a.
      next-step _ _ _ (mixed_at inner limit s n mid) _ (mixed-read d inner reads n mid a.0 a.1) (λ es next _ r.
      a.2 n next es r))

  elements-read : (d : ℕ) (inner : ℕ → ℕ → Parsed Elements) → ReadsLists d inner → (code : ℕ) → is_list_code code ≡ true
      → (found : Option Kind) → kind_of (code - list_code) ≡ found → (n at : ℕ) → at ≤ limit → at ≤ length s
      → Judged (AreElements d code at n) (elements_at inner limit s found n at)
  elements-read d inner reads code c (Some k) e n at f i = typed-read d code k (code-typed code k e) n at f i
  elements-read d inner reads code c None e n at f i = rw (code-mixed code c e) (mixed-read d inner reads n at f i)

  is-list : (d at code : ℕ) (es : Elements) (next : ℕ) → Span (at + 4) (number (word s (at + 4))) (at + 8) → AreElements d code (at + 8) (word s (at + 4)) es next
      → code ≡ list_code_of es → IsList (suc d) at code es next
  is-list d at code es next a r e = record {
    legal = r.legal;
    code_is = e;
    span = spells-as (at + 4) next _ _ (ap (λ (m : ℕ). number m ++ element_bytes code es) (sym r.many))
        (join (at + 4) (at + 8) next (number (word s (at + 4))) (element_bytes code es) a r.span);
  }

  body-read : (d : ℕ) (inner : ℕ → ℕ → Parsed Elements) → ReadsLists d inner → (at code : ℕ) → is_list_code code ≡ true → at + 4 ≤ length s
      → Judged (IsList (suc d) at code) (body_at inner limit s at code)
  unfolding body_at
  body-read d inner reads at code c i =
      let e₈ : at + 4 + 4 ≡ at + 8 = omega arith in
      item-read _ (at + 4) 4 _ i (λ f₄ i₄.
      test _ _ (negative (word s (at + 4))) _ _ (λ e. sane 23 (at + 4) i (omega arith)) (λ e.
      next-step _ _ _ (elements_at inner limit s (kind_of (code - list_code)) (word s (at + 4)) (at + 8)) _
      (elements-read d inner reads code c (kind_of (code - list_code)) refl (word s (at + 4)) (at + 8) (omega arith) (omega arith))
      (λ es next _ r. test _ _ (eqb code (list_code_of es)) _ _
      (λ q. is-list d at code es next (rw e₈ at (a-number (at + 4) f₄ i₄)) r (eqb-true _ _ q))
      (λ q. sane 24 at (omega arith) (omega arith)))))

  list_read : (d : ℕ) → ReadsLists d (list_at d limit s)
  unfolding list_at
  list_read zero at code c f i = sane 27 at (omega arith) (omega arith)
  list_read (suc d) at code c f i =
      in_list_lem _ (SaneRefusal 28 s) _ (body_at (list_at d limit s) limit s at code) (body-read d (list_at d limit s) (list_read d) at code c i) (λ r. sane-list r)

  -- the whole list at the front
  record IsWhole (es : Elements) (next : ℕ) : Type 0 where
    legal : Bytes s → LegalElements (depth_limit - 1) es
    span : Span 0 (list_bytes es) next

  parse-read : Judged IsWhole (parse limit s)
  unfolding parse list_bytes
  parse-read =
      item-read _ 0 4 _ (omega arith) (λ f i.
      test _ _ (is_list_code (word s 0)) _ _
      (λ c. weaken (IsList depth_limit 0 (word s 0)) IsWhole _ (list_at depth_limit limit s 0 (word s 0)) (list_read depth_limit 0 (word s 0) c f i) (λ es next w. record {
        legal = w.legal;
        span = spells-as 0 next _ _ (ap (λ (k : ℕ). number k ++ (number (count es) ++ element_bytes k es)) w.code_is)
            (join 0 4 next (number (word s 0)) (number (count es) ++ element_bytes (word s 0) es) (a-number 0 f i) w.span);
      }))
      (λ c. sane 22 0 (omega arith) (omega arith)))

-- what is read is a legal list, and its bytes are those at the front
pub sound : (limit : ℕ) (s : List ℕ) (es : Elements) (n : ℕ) → Bytes s → parse limit s ≡ good es n
    → Legal limit es × (n ≡ length (list_bytes es)) × (s ≡ list_bytes es ++ drop n s)
sound limit s es n all h =
    let w : IsWhole limit s es n = rw h at (parse-read limit s) in
    let e : s ≡ list_bytes es ++ drop n s = w.span.spells all in
    let len : n ≡ length (list_bytes es) = omega (arith, w.span.inside, simp (length-append, length-drop) at (ap length e)) in
    ((w.legal all, omega (arith, w.span.fits)), len, e)

-- a refusal of list reading is sane
pub within : (limit : ℕ) (s : List ℕ) (r : Refusal) → parse limit s ≡ bad r → SaneRefusal 28 s r
within limit s r h = rw h at (parse-read limit s)

-- what is read ends within the limit and the bytes
pub reaches : (limit : ℕ) (s : List ℕ) (es : Elements) (n : ℕ) → parse limit s ≡ good es n → (n ≤ limit) × (n ≤ length s)
reaches limit s es n h = let w : IsWhole limit s es n = rw h at (parse-read limit s) in (w.span.fits, w.span.inside)
