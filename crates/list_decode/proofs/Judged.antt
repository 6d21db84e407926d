-- The bytes of a legal list, read element by element, give its rows and its store bytes.
use Prim.Native.Nat.{ℕ, zero, suc, ◌+◌, ◌-◌, ◌≤◌, ◌<◌}
use mathlib.Core.Path.{◌≡◌, refl, sym, ap, ◌∙◌}
use mathlib.Core.List.{List, [], ◌∷◌, ◌++◌, append_assoc, append-nil}
use native.Mathlib.Omega.{arith}
use native.Mathlib.Nat.{add-zero}
use lib.ListN.{length, length-append, length-drop}
use Rattle.list.specs.declared.Kind.{Kind}
use Rattle.list.specs.declared.Kind.TheVariants.{Int, Float, Str, Blob, Vocab}
use Rattle.list.specs.Limits.{list_limit}
use Rattle.list.specs.Kind.{code_of, kind_of, list_code, typed_code}
use Rattle.list.specs.Strings.{terminator, string_length}
use Rattle.list.specs.Tree.{Value, Elements, int, vocab, float, str, blob, none, value, list, kind, count}
use Rattle.list.specs.Bytes.{number, value_bytes, element_bytes, list_code_of}
use Rattle.list.specs.Rows.{value_store, value_row, element_store, element_rows, list_row}
use Rattle.list.specs.RowBytes.{packed}
use Rattle.list.specs.Legal.{LegalValue, LegalElements}
use Rattle.list.specs.Parse.{word}
use Rattle.list.proofs.Codes.{kind-of-code, kind-of-typed, typed-no-list, code-low, code_is, code-good, AllKind, CodeIs, mixed, typed}
use Rattle.list.proofs.Items.{Stands, stands-length, stands-behind, stands-take, word_of}
use Rattle.list.proofs.RowBound.{value-size, value_row_lem}
use Rattle.list.proofs.RowBytes.{packed-length}
use Rattle.list.proofs.Complete.{count-le}
use Rattle.list_decode.specs.Pieces.{Piece, piece, both, plain, stored, value_piece, run, element_piece, Here, RunHere, CodedHere}
use Rattle.list_decode.proofs.Elements.{list-no-kind, typed-no-kind, element-value, element-mixed, element-typed}

-- elements, as a piece that ends at `end`
abbrev pub pieces : ℕ → Elements → ℕ → Piece
pieces used es end = piece (element_rows used es) (element_store es) end

-- ELEMENTS BEFORE ELEMENTS: those of a list whose elements carry codes stand there as if they were of the list around it
abbrev plus : Elements → Elements → Elements
plus none es = es
plus (value v i) es = value v (plus i es)
plus (list j i) es = list j (plus i es)

plus-bytes : (i es : Elements) → element_bytes list_code (plus i es) ≡ element_bytes list_code i ++ element_bytes list_code es
plus-bytes none es = refl
plus-bytes (value v i) es = rw (plus-bytes i es) (ap (λ (l : List ℕ). number (code_of (kind v)) ++ l) (sym (append_assoc (value_bytes v) _ _)))
plus-bytes (list j i) es =
    rw (plus-bytes i es) (ap (λ (l : List ℕ). number (list_code_of j) ++ (number (count j) ++ l)) (sym (append_assoc (element_bytes (list_code_of j) j) _ _)))

plus-store : (i es : Elements) → element_store (plus i es) ≡ element_store i ++ element_store es
plus-store none es = refl
plus-store (value v i) es = rw (plus-store i es) (sym (append_assoc (value_store v) (element_store i) (element_store es)))
plus-store (list j i) es = rw (plus-store i es) (sym (append_assoc (element_store j) (element_store i) (element_store es)))

more-used : (used : ℕ) (x y : List ℕ) (es : Elements) → element_rows (used + length x + length y) es ≡ element_rows (used + length (x ++ y)) es
more-used used x y es = let e : used + length x + length y ≡ used + length (x ++ y) = simp length-append (omega arith) in rw e

plus-rows : (used : ℕ) (i es : Elements) → element_rows used (plus i es) ≡ element_rows used i ++ element_rows (used + length (element_store i)) es
plus-rows used none es = rw (add-zero used)
plus-rows used (value v i) es =
    rw (plus-rows (used + length (value_store v)) i es, more-used used (value_store v) (element_store i) es)
    (sym (append_assoc (value_row used v) (element_rows (used + length (value_store v)) i) _))
plus-rows used (list j i) es =
    rw (plus-rows (used + length (element_store j)) i es, more-used used (element_store j) (element_store i) es)
    (ap (λ (l : List ℕ). list_row j ++ l) (sym (append_assoc (element_rows used j) (element_rows (used + length (element_store j)) i) _)))

deeper : (d : ℕ) (es : Elements) → LegalElements d es → LegalElements (suc d) es
deeper d none l = tt
deeper d (value v es) l = (l.0, deeper d es l.1)
deeper zero (list i es) l = absurd l
deeper (suc d) (list i es) l = (deeper d i l.0, deeper (suc d) es l.1)

plus-legal : (d : ℕ) (i es : Elements) → LegalElements d i → LegalElements (suc d) es → LegalElements (suc d) (plus i es)
plus-legal d none es l m = m
plus-legal d (value v i) es l m = (l.0, plus-legal d i es l.1 m)
plus-legal zero (list j i) es l m = absurd l
plus-legal (suc d) (list j i) es l m = (deeper d j l.0, plus-legal (suc d) i es l.1 m)

-- ONE KIND: no element, and one more
here-none : (s : List ℕ) (k : Kind) (at : ℕ) → at ≤ length s → RunHere s k 0 at
here-none s Int at h = omega arith
here-none s Vocab at h = omega arith
here-none s Float at h = omega arith
here-none s Str at h = tt
here-none s Blob at h = tt

here-more : (s : List ℕ) (k : Kind) (n at : ℕ) → RunHere s k 1 at → RunHere s k n (value_piece s k 0 at).next → RunHere s k (suc n) at
here-more s Int n at h r = omega arith
here-more s Vocab n at h r = omega arith
here-more s Float n at h r = omega arith
here-more s Str n at h r = (h.0, r)
here-more s Blob n at h r = (h.0, r)

-- what stands at an offset is all that follows
stands-size : (s : List ℕ) (at : ℕ) (xs : List ℕ) → Stands s at xs → at + length xs ≡ length s
stands-size s at xs h = omega (arith, h.inside, length-drop at s, ap length h.reads)

module _ (s : List ℕ) (short : length s ≤ list_limit) where
  -- a value stands at `at`
  record IsValue (v : Value) (at : ℕ) : Type 0 where
    reads : (used : ℕ) → value_piece s (kind v) used at ≡ piece (value_row used v) (value_store v) (at + length (value_bytes v))
    here : RunHere s (kind v) 1 at

  -- bytes behind their length, which counts what follows them too
  record IsStored (code tail at : ℕ) (bs : List ℕ) (next : ℕ) : Type 0 where
    reads : (used : ℕ) → stored s code tail used at ≡ piece (code ∷ used ∷ length bs ∷ []) bs next
    here : Here s tail at

  stored_here : (code at n : ℕ) (bs tail body ys : List ℕ) → n ≡ length bs + length tail → body ≡ bs ++ tail → Stands s at (number n ++ (body ++ ys))
      → IsStored code (length tail) at bs (at + length (number n ++ body))
  stored_here code at n bs tail body ys e b h =
      let h₄ : Stands s (at + 4) (body ++ ys) = stands-behind s at (number n) _ h in
      let len : length body ≡ n = ap length b ∙ length-append bs tail ∙ sym e in
      let inside : at + 4 + n ≤ length s = omega (arith, stands-length s (at + 4) body ys h₄) in
      let w : word s at ≡ n = word_of s at n _ (omega arith) h in
      let m : n - length tail ≡ length bs = omega arith in
      let h₅ : Stands s (at + 4) (bs ++ (tail ++ ys)) = rw (b, append_assoc bs tail ys) at h₄ in
      let next : at + 4 + n ≡ at + length (number n ++ body) = omega arith in
      record {
        reads = λ used. rw (w, m, stands-take s (at + 4) bs (tail ++ ys) h₅, next);
        here = record { long = rw w (omega arith); there = rw w inside };
      }

  value-here : (v : Value) (at : ℕ) (rest : List ℕ) → LegalValue v → Stands s at (value_bytes v ++ rest) → IsValue v at
  value-here (int n) at rest l h = record { reads = λ used. rw (word_of s at n rest l h); here = stands-length s at (number n) rest h }
  value-here (vocab n) at rest l h = record { reads = λ used. rw (word_of s at n rest l h); here = stands-length s at (number n) rest h }
  value-here (float low high) at rest l h =
      let h₄ : Stands s (at + 4) (number high ++ rest) = stands-behind s at (number low) (number high ++ rest) h in
      record {
        reads = λ used. rw (word_of s at low (number high ++ rest) l.0 h, word_of s (at + 4) high rest l.1 h₄);
        here = stands-length s at (number low ++ number high) rest h;
      }
  value-here (str bs) at rest l h =
      let r = stored_here (code_of Str) at (string_length (length bs)) bs terminator (bs ++ terminator) rest refl refl h in
      record { reads = r.reads; here = (r.here, tt) }
  value-here (blob bs) at rest l h =
      let r = stored_here (code_of Blob) at (length bs) bs [] bs rest (omega arith) (sym (append-nil bs)) h in
      record { reads = r.reads; here = (r.here, tt) }

  -- elements of one kind, without codes
  record IsRun (k : Kind) (es : Elements) (at : ℕ) : Type 0 where
    reads : (used : ℕ) → run (value_piece s k) (count es) used at ≡ pieces used es (at + length (element_bytes (typed_code k) es))
    here : RunHere s k (count es) at

  run-here : (k : Kind) (es : Elements) (d at : ℕ) (rest : List ℕ) → AllKind k es → LegalElements d es → Stands s at (element_bytes (typed_code k) es ++ rest) → IsRun k es at
  unfolding run
  run-here k none d at rest a l h = record { reads = λ used. rw (add-zero at); here = here-none s k at h.inside }
  run-here k (list i es) d at rest a l h = absurd a
  run-here k (value v es) d at rest a l h =
      let x : List ℕ = value_bytes v in
      let y : List ℕ = element_bytes (typed_code k) es in
      let h₁ : Stands s at (x ++ (y ++ rest)) = rw (typed-no-list k, append_assoc x y rest) at h in
      let w = value-here v at (y ++ rest) l.0 h₁ in
      let one : (used : ℕ) → value_piece s k used at ≡ piece (value_row used v) (value_store v) (at + length x) =
      λ used. ap (λ (j : Kind). value_piece s j used at) (sym a.0) ∙ w.reads used in
      let r = run-here k es d (at + length x) rest a.1 l.1 (stands-behind s at x (y ++ rest) h₁) in
      let e : at + length x + length y ≡ at + length (x ++ y) = omega (arith, length-append x y) in
      record {
        reads = λ used. rw (one used, r.reads (used + length (value_store v)), typed-no-list k, e);
        here = here-more s k (count es) at (rw a.0 at w.here) (rw (one 0) r.here);
      }

  -- ONE ELEMENT THAT FOLLOWS ITS CODE: p is what it gives, and fs are the elements behind it
  pub record Next (used at : ℕ) (es : Elements) (p : Piece) : Type 0 where
    pub fs : Elements
    pub depth : ℕ
    pub legal : LegalElements depth fs
    pub stands : Stands s p.next (element_bytes list_code fs)
    pub same : (end : ℕ) → pieces used es end ≡ both p (pieces (used + length p.bytes) fs end)
    pub on : at + 8 ≤ p.next
    pub row : 12 ≤ length (packed p.numbers)
    pub here : CodedHere s (kind_of (word s at)) at

  next-value : (d used at : ℕ) (v : Value) (fs : Elements) → LegalElements d (value v fs) → Stands s at (element_bytes list_code (value v fs))
      → Next used at (value v fs) (element_piece s used at)
  next-value d used at v fs l h =
      let c : List ℕ = number (code_of (kind v)) in
      let x : List ℕ = value_bytes v in
      let y : List ℕ = element_bytes list_code fs in
      let h₄ : Stands s (at + 4) (x ++ y) = stands-behind s at c (x ++ y) h in
      let e : word s at ≡ code_of (kind v) = word_of s at (code_of (kind v)) (x ++ y) (omega (arith, (code-low (kind v)).1)) h in
      let w = value-here v (at + 4) y l.0 h₄ in
      let p : element_piece s used at ≡ piece (value_row used v) (value_store v) (at + 4 + length x) = element-value s used at (kind v) e ∙ w.reads used in
      rw p (record {
        fs = fs;
        depth = d;
        legal = l.1;
        stands = stands-behind s (at + 4) x y h₄;
        same = λ end. refl;
        on = omega (arith, value-size v);
        row = omega (arith, packed-length (value_row used v), value_row_lem used v);
        here = rw (e, kind-of-code (kind v)) w.here;
      })

  module _ (d used at : ℕ) (i fs : Elements) (l : LegalElements (suc d) (list i fs)) (h : Stands s at (element_bytes list_code (list i fs))) where
    abbrev x : List ℕ
    x = element_bytes (list_code_of i) i

    abbrev y : List ℕ
    y = element_bytes list_code fs

    h₄ : Stands s (at + 4) (number (count i) ++ (x ++ y))
    h₄ = stands-behind s at (number (list_code_of i)) _ h

    h₈ : Stands s (at + 8) (x ++ y)
    h₈ = let e : at + 4 + 4 ≡ at + 8 = omega arith in rw e at (stands-behind s (at + 4) (number (count i)) (x ++ y) h₄)

    code_here : word s at ≡ list_code_of i
    code_here = word_of s at (list_code_of i) _ (code-good i).1 h

    count-here : word s (at + 4) ≡ count i
    count-here = word_of s (at + 4) (count i) (x ++ y) (omega (arith, count-le (list_code_of i) i, stands-length s (at + 8) x y h₈)) h₄

    next-mixed : list_code_of i ≡ list_code → Next used at (list i fs) (element_piece s used at)
    next-mixed m =
        let e : word s at ≡ list_code = code_here ∙ m in
        let p : element_piece s used at ≡ plain list_code (count i) 0 (at + 8) = element-mixed s used at e ∙ rw count-here in
        let z : element_rows (used + 0) (plus i fs) ≡ element_rows used i ++ element_rows (used + length (element_store i)) fs =
        ap (λ (u : ℕ). element_rows u (plus i fs)) (add-zero used) ∙ plus-rows used i fs in
        rw p (record {
          fs = plus i fs;
          depth = suc d;
          legal = plus-legal d i fs l.0 l.1;
          stands = rw (plus-bytes i fs) (rw m at h₈);
          same = λ end. rw (z, plus-store i fs);
          on = omega arith;
          row = omega arith;
          here = rw (e, list-no-kind, e) (omega arith, λ no-list. absurd (no-list refl));
        })

    next-typed : (k : Kind) → list_code_of i ≡ typed_code k → AllKind k i → Next used at (list i fs) (element_piece s used at)
    next-typed k m a =
        let e : word s at ≡ typed_code k = code_here ∙ m in
        let r = run-here k i d (at + 8) y a l.0 (rw m at h₈) in
        let p : element_piece s used at ≡ both (plain list_code (count i) 0 (at + 8)) (pieces used i (at + 8 + length x)) =
        element-typed s used at k e ∙ rw (count-here, r.reads used, m) in
        rw p (record {
          fs = fs;
          depth = suc d;
          legal = l.1;
          stands = stands-behind s (at + 8) x y h₈;
          same = λ end. refl;
          on = omega arith;
          row = omega arith;
          here = rw (e, typed-no-kind k, e, kind-of-typed k, count-here) (omega arith, λ no-list. r.here);
        })

  pub next-element : (d used at : ℕ) (es : Elements) → LegalElements d es → Stands s at (element_bytes list_code es) → at + 8 ≤ length s → Next used at es (element_piece s used at)
  next-element d used at none l h some = absurd (omega (arith, stands-size s at [] h))
  next-element d used at (value v fs) l h some = next-value d used at v fs l h
  next-element zero used at (list i fs) l h some = absurd l
  next-element (suc d) used at (list i fs) l h some = go (code_is i)
    where
      go : CodeIs i → Next used at (list i fs) (element_piece s used at)
      go (mixed m) = next-mixed d used at i fs l h m
      go (typed k m a) = next-typed d used at i fs l h k m a

  -- where less than a code and a number is left, nothing is
  pub nothing_left : (at : ℕ) (es : Elements) → Stands s at (element_bytes list_code es) → length s < at + 8 → es ≡ none
  nothing_left at none h few = refl
  nothing_left at (value v fs) h few = absurd (omega (arith, value-size v, simp length-append at (stands-size s at _ h)))
  nothing_left at (list i fs) h few = absurd (omega (arith, simp length-append at (stands-size s at _ h)))
