-- The promise of stepping: elements that follow their codes end where their bytes end.
use Prim.Native.Nat.{ℕ, zero, suc, ◌+◌, ◌-◌, ◌≤◌, ◌<◌}
use mathlib.Core.Path.{◌≡◌, refl, sym, ap, ◌∙◌}
use mathlib.Core.List.{List, ◌++◌, append_assoc}
use native.Mathlib.Omega.{arith}
use native.Mathlib.Nat.{add-zero, zero-add, add_comm}
use lib.ListN.{length, length-append}
use lib.Seq.{take_all}
use Rattle.list.specs.declared.Kind.{Kind}
use Rattle.list.specs.declared.Kind.TheVariants.{Int, Float, Str, Blob, Vocab}
use Rattle.list.specs.Limits.{list_limit}
use Rattle.list.specs.Kind.{code_of, kind_of, list_code, typed_code}
use Rattle.list.specs.Tree.{Value, Elements, int, vocab, float, str, blob, none, value, list, kind, count}
use Rattle.list.specs.Strings.{terminator, string_length}
use Rattle.list.specs.Bytes.{number, value_bytes, element_bytes, list_code_of}
use Rattle.list.specs.Parse.{word, is_list_code}
use Rattle.list.proofs.Codes.{code-low, kind-of-list, kind-of-typed, typed-no-list, list-no-kind, code_is, code-good, AllKind, CodeIs, mixed, typed}
use Rattle.list.proofs.Complete.{count-le}
use Rattle.list.proofs.RowBound.{value-size}
use Rattle.list.proofs.Items.{Stands, stands-length, stands-behind, word_of}
use Rattle.list.specs.Open.{value_size}
use Rattle.list_skip.specs.Skip.{run_end, typed_end, stride, list_stride, stride_at, skip_from, elements_end}
use Rattle.list_skip.proofs.Ends.{run_step, run_none, stride-value, stride-list, skip_step, skip-none}

module _ (s : List ℕ) (short : length s ≤ list_limit) where
  -- the bytes of a value behind its code
  value-length : (v : Value) (at : ℕ) (rest : List ℕ) → Stands s at (value_bytes v ++ rest) → value_size s at (kind v) ≡ length (value_bytes v)
  value-length (int n) at rest h = refl
  value-length (vocab n) at rest h = refl
  value-length (float low high) at rest h = refl
  value-length (str bs) at rest h =
      let n : ℕ = string_length (length bs) in
      let len : length (bs ++ terminator) ≡ n = length-append bs terminator in
      let f = stands-length s at (value_bytes (str bs)) rest h in
      let w : word s at ≡ n = word_of s at n ((bs ++ terminator) ++ rest) (omega arith) h in
      omega arith
  value-length (blob bs) at rest h =
      let f = stands-length s at (value_bytes (blob bs)) rest h in
      let w : word s at ≡ length bs = word_of s at (length bs) (bs ++ rest) (omega arith) h in
      omega arith

  -- elements without codes, one after the other
  typed-none : (k : Kind) (at : ℕ) → typed_end s k 0 at ≡ at
  typed-none Int at = omega arith
  typed-none Vocab at = omega arith
  typed-none Float at = omega arith
  typed-none Str at = run_none s 0 at (omega arith)
  typed-none Blob at = run_none s 0 at (omega arith)

  typed-next : (k : Kind) (n at : ℕ) → at < length s → typed_end s k n (at + value_size s at k) ≡ typed_end s k (suc n) at
  typed-next Int n at h = omega arith
  typed-next Vocab n at h = omega arith
  typed-next Float n at h = omega arith
  typed-next Str n at h = ap (run_end s n) (omega arith) ∙ run_step s n at h
  typed-next Blob n at h = ap (run_end s n) (omega arith) ∙ run_step s n at h

  typed-end : (k : Kind) (es : Elements) (at : ℕ) (rest : List ℕ) → AllKind k es → Stands s at (element_bytes (typed_code k) es ++ rest)
      → typed_end s k (count es) at ≡ at + length (element_bytes (typed_code k) es)
  typed-end k none at rest a h = typed-none k at ∙ sym (add-zero at)
  typed-end k (list inner es) at rest a h = absurd a
  typed-end k (value v es) at rest a h =
      let x : List ℕ = value_bytes v in
      let y : List ℕ = element_bytes (typed_code k) es in
      let h₁ : Stands s at (x ++ (y ++ rest)) = rw (typed-no-list k, append_assoc x y rest) at h in
      let size : value_size s at k ≡ length x = ap (value_size s at) (sym a.0) ∙ value-length v at (y ++ rest) h₁ in
      let some : at < length s = omega (arith, stands-length s at x (y ++ rest) h₁, value-size v) in
      let r = typed-end k es (at + length x) rest a.1 (stands-behind s at x (y ++ rest) h₁) in
      let len : length (x ++ y) ≡ length x + length y = length-append x y in
      sym (typed-next k (count es) at some) ∙ rw (size, r, typed-no-list k) (omega arith)

  -- the strides that an element begins with: a value, a typed list, and another list
  value-stride : (v : Value) (at : ℕ) (rest : List ℕ) → Stands s at (number (code_of (kind v)) ++ (value_bytes v ++ rest))
      → stride_at s at ≡ stride (at + 4 + length (value_bytes v)) 0
  value-stride v at rest h =
      let c : ℕ = code_of (kind v) in
      let x : List ℕ = value_bytes v ++ rest in
      let w : word s at ≡ c = word_of s at c x (omega (arith, (code-low (kind v)).1)) h in
      stride-value s at (kind v) w ∙ ap (λ (n : ℕ). stride (at + 4 + n) 0) (value-length v (at + 4) rest (stands-behind s at (number c) x h))

  module _ (inner : Elements) (at : ℕ) (rest : List ℕ)
      (h : Stands s at (number (list_code_of inner) ++ (number (count inner) ++ (element_bytes (list_code_of inner) inner ++ rest)))) where
    abbrev code : ℕ
    code = list_code_of inner

    behind-count : Stands s (at + 8) (element_bytes code inner ++ rest)
    behind-count =
        let x : List ℕ = element_bytes code inner ++ rest in
        let e : at + 4 + 4 ≡ at + 8 = omega arith in
        rw e at (stands-behind s (at + 4) (number (count inner)) x (stands-behind s at (number code) (number (count inner) ++ x) h))

    few : count inner < list_limit
    few = omega (arith, count-le code inner, stands-length s (at + 8) (element_bytes code inner) rest behind-count)

    list-first : stride_at s at ≡ list_stride s (kind_of (code - list_code)) (count inner) (at + 8)
    list-first =
        let x : List ℕ = element_bytes code inner ++ rest in
        let w : word s at ≡ code = word_of s at code (number (count inner) ++ x) (code-good inner).1 h in
        let n : word s (at + 4) ≡ count inner =
        word_of s (at + 4) (count inner) x (omega (arith, few)) (stands-behind s at (number code) (number (count inner) ++ x) h) in
        stride-list s at (list-no-kind (word s at) (ap is_list_code w ∙ (code-good inner).0)) ∙ rw (w, n)

    typed-stride : (k : Kind) → code ≡ typed_code k → AllKind k inner → stride_at s at ≡ stride (at + 8 + length (element_bytes code inner)) 0
    typed-stride k e a =
        let b : Stands s (at + 8) (element_bytes (typed_code k) inner ++ rest) = rw e at behind-count in
        list-first ∙ rw (e, kind-of-typed k) (ap (λ (n : ℕ). stride n 0) (typed-end k inner (at + 8) rest a b))

    mixed-stride : code ≡ list_code → stride_at s at ≡ stride (at + 8) (count inner)
    mixed-stride e = list-first ∙ rw (e, kind-of-list)

  -- where stepping over elements leads: steps are left for all that follows
  record Passed (steps n at left next : ℕ) : Type 0 where
    steps-left : ℕ
    enough : length s ≤ steps-left + next
    same : skip_from steps s n at ≡ skip_from steps-left s left next

  -- one stride, then others
  pass-stride : (steps n at opens next left end : ℕ) → at < length s → length s ≤ steps + at → at < next → stride_at s at ≡ stride next opens
      → ((more : ℕ) → length s ≤ more + next → Passed more (n + opens) next left end) → Passed steps (suc n) at left end
  pass-stride zero n at opens next left end h enough f e go = absurd (omega arith)
  pass-stride (suc steps) n at opens next left end h enough f e go =
      let p = go steps (omega arith) in
      let r : skip_from steps s (n + opens) next ≡ skip_from (suc steps) s (suc n) at = rw e at (skip_step s steps n at h) in
      record { steps-left = p.steps-left; enough = p.enough; same = sym r ∙ p.same }

  passes : (steps at left : ℕ) {n n' end end' : ℕ} → n ≡ n' → end ≡ end' → Passed steps n at left end → Passed steps n' at left end'
  passes steps at left c e p = rw (← c, ← e) p

  -- what is shown of elements: stepping over them and `left` others leads behind them, and to the others
  abbrev Passes : Elements → Type 0
  Passes es = (steps at left : ℕ) (rest : List ℕ) → Stands s at (element_bytes list_code es ++ rest) → length s ≤ steps + at
      → Passed steps (count es + left) at left (at + length (element_bytes list_code es))

  pass-value : (v : Value) (es : Elements) → Passes es → Passes (value v es)
  pass-value v es go steps at left rest h enough =
      let c : List ℕ = number (code_of (kind v)) in
      let x : List ℕ = value_bytes v in
      let y : List ℕ = element_bytes list_code es in
      let h₁ : Stands s at (c ++ (x ++ (y ++ rest))) = rw (append_assoc x y rest) at h in
      let next : ℕ = at + 4 + length x in
      let h₂ : Stands s next (y ++ rest) = stands-behind s (at + 4) x (y ++ rest) (stands-behind s at c (x ++ (y ++ rest)) h₁) in
      let end : next + length y ≡ at + length (element_bytes list_code (value v es)) = omega (arith, length-append x y) in
      let one : suc (count es + left) ≡ count (value v es) + left = omega arith in
      let some : at < length s = omega (arith, stands-length s at c (x ++ (y ++ rest)) h₁) in
      passes steps at left one end
      (pass-stride steps (count es + left) at 0 next left (next + length y) some enough (omega arith) (value-stride v at (y ++ rest) h₁)
      (λ more f. passes more next left (sym (add-zero (count es + left))) refl (go more next left rest h₂ f)))

  pass-list : (inner es : Elements) → Passes inner → Passes es → Passes (list inner es)
  pass-list inner es in-it go steps at left rest h enough = by (code_is inner)
    where
      x : List ℕ
      x = element_bytes (list_code_of inner) inner

      y : List ℕ
      y = element_bytes list_code es

      h₁ : Stands s at (number (list_code_of inner) ++ (number (count inner) ++ (x ++ (y ++ rest))))
      h₁ = rw (append_assoc x y rest) at h

      h₂ : Stands s (at + 8) (x ++ (y ++ rest))
      h₂ = behind-count inner at (y ++ rest) h₁

      some : at < length s
      some = omega (arith, h₂.inside)

      one : suc (count es + left) ≡ count (list inner es) + left
      one = omega arith

      end : at + 8 + length x + length y ≡ at + length (element_bytes list_code (list inner es))
      end = omega (arith, length-append x y)

      by : CodeIs inner → Passed steps (count (list inner es) + left) at left (at + length (element_bytes list_code (list inner es)))
      by (typed k e a) =
          passes steps at left one end
          (pass-stride steps (count es + left) at 0 (at + 8 + length x) left (at + 8 + length x + length y) some enough (omega arith) (typed-stride inner at (y ++ rest) h₁ k e a)
          (λ more f. passes more (at + 8 + length x) left (sym (add-zero (count es + left))) refl
          (go more (at + 8 + length x) left rest (stands-behind s (at + 8) x (y ++ rest) h₂) f)))
      by (mixed e) =
          let z : x ≡ element_bytes list_code inner = ap (λ (c : ℕ). element_bytes c inner) e in
          let h₃ : Stands s (at + 8) (element_bytes list_code inner ++ (y ++ rest)) = rw z at h₂ in
          passes steps at left one end
          (pass-stride steps (count es + left) at (count inner) (at + 8) left (at + 8 + length x + length y) some enough (omega arith) (mixed-stride inner at (y ++ rest) h₁ e)
          (λ more f.
          let p : Passed more (count inner + (count es + left)) (at + 8) (count es + left) (at + 8 + length x) = rw z (in-it more (at + 8) (count es + left) (y ++ rest) h₃ f) in
          let q = go p.steps-left (at + 8 + length x) left rest (stands-behind s (at + 8) x (y ++ rest) h₂) p.enough in
          passes more (at + 8) left (add_comm (count inner) (count es + left)) refl
          (record { steps-left = q.steps-left; enough = q.enough; same = p.same ∙ q.same })))

  pass : (es : Elements) → Passes es
  pass none = λ steps at left rest h enough. record { steps-left = steps; enough = omega arith; same = rw (add-zero at, zero-add left) }
  pass (value v es) = pass-value v es (pass es)
  pass (list inner es) = pass-list inner es (pass inner) (pass es)

  -- LAW: of elements that follow their codes, as many as these end where their bytes end
  pub elements-end : (es : Elements) (at : ℕ) (rest : List ℕ) → Stands s at (element_bytes list_code es ++ rest)
      → elements_end s (count es) at ≡ at + length (element_bytes list_code es)
  unfolding elements_end
  elements-end es at rest h =
      let p = pass es list_limit at 0 rest h (omega arith) in
      rw (take_all list_limit s short, ← add-zero (count es)) (p.same ∙ skip-none s p.steps-left 0 _ (omega arith))
