-- The depth of a refusal is the number of lists that are open at its offset, for 24 with the list that begins there.
-- Reading and counting pass the same items; `Reads` says of an answer, good or bad, that they agree.
use Prim.Native.Nat.{ℕ, zero, suc, ◌+◌, ◌-◌, ◌≤◌, ◌<◌}
use mathlib.Core.Path.{◌≡◌, refl, sym, ap, ◌∙◌}
use mathlib.Core.Bool.{Bool, true, false, cond}
use mathlib.Core.List.{List, [], ◌∷◌}
use native.Mathlib.Omega.{arith}
use native.Mathlib.Nat.{add_assoc}
use lib.Dec.{eqb, ltb}
use lib.ListN.{length, take, drop}
use borrow.Author.Tests.{lt-ltb, le-ltb, ne_eqb}
use Rattle.std.specs.Prelude.{Option, Some, None}
use Rattle.list.specs.declared.Kind.{Kind}
use Rattle.list.specs.declared.Kind.TheVariants.{Int, Float, Str, Blob, Vocab}
use Rattle.list.specs.Limits.{depth_limit}
use Rattle.list.specs.Kind.{kind_of, size_of, list_code}
use Rattle.list.specs.Tree.{Value, Elements}
use Rattle.list.specs.Bytes.{list_code_of}
use Rattle.list.specs.Refusal.{Refusal, refusal, refusal_at, enclosed}
use Rattle.list.specs.Strings.{negative, bad_length, closed}
use Rattle.list.specs.Parse.{Parsed, good, bad, and_then, after_item, word, item_fault}
use Rattle.list.specs.Parse.{string_at, blob_at, value_at, typed_at, is_list_code, coded_value, coded_at, mixed_at, elements_at, body_at, list_at, parse}
use Rattle.list.specs.Open.{Open, uncounted, counted, position, value_size, still_open, past_code, past_item, open_from, open_at, own_list, depth_at}
use Rattle.list.proofs.Codes.{list-no-kind}
use Rattle.list.proofs.Items.{fault-is, fault-some}
use Rattle.list.proofs.Says.{Says, test, next-step, after-item, in_list_lem, weaken-bad}
use Rattle.list.proofs.Sound.{string-room}
use Rattle.list.proofs.Shallow.{parse-shallow}

-- a number that is neither 24, which counts the list at fault as open, nor 27, which needs as many open lists as may be
abbrev Plain : ℕ → Type 0
Plain number = (own_list number ≡ 0) × (number ≡ 27 → ⊥)

module _ (limit : ℕ) (s : List ℕ) where
  fault-plain : (at n fault : ℕ) → item_fault limit s at n ≡ suc fault → Plain (suc fault)
  fault-plain at n fault = fault-is Plain limit s at n fault (refl, λ e. omega arith) (refl, λ e. omega arith)

  -- a refusal at or behind `at`, where `lists` are open: counted on from there, as many lists are open at its place as its depth says, and m
  -- outside of what was read; at 27 as many as may be
  record Stops (m : ℕ) (lists : List Open) (at : ℕ) (r : Refusal) : Type 0 where
    behind : at ≤ r.offset
    agrees : (steps : ℕ) → r.offset < at + steps → r.depth + m ≡ own_list r.number + open_from steps s r.offset at lists
    deepest : r.number ≡ 27 → r.depth + m ≡ depth_limit

  -- counting from `at` on comes to `next`, where `lists'` are open
  abbrev Passes : List Open → ℕ → List Open → ℕ → Type 0
  Passes lists at lists' next = (m : ℕ) (r : Refusal) → Stops m lists' next r → Stops m lists at r

  -- from `at` on: what was read is passed, with `lists'` open behind it, or a refusal agrees with the count
  abbrev Reads : {A : Type 0} → ℕ → List Open → ℕ → List Open → Parsed A → Type 0
  Reads m lists at lists' = Says (λ a next. Passes lists at lists' next) (Stops m lists at)

  -- behind what was passed, and one reading behind the other
  reads-behind : {A : Type 0} (m : ℕ) (lists : List Open) (at : ℕ) (lists' : List Open) (mid : ℕ) (lists'' : List Open) (p : Parsed A)
      → Passes lists at lists' mid → Reads m lists' mid lists'' p → Reads m lists at lists'' p
  reads-behind m lists at lists' mid lists'' (good a next) first h = λ n r q. first n r (h n r q)
  reads-behind m lists at lists' mid lists'' (bad r) first h = first m r h

  reads_then : {A C : Type 0} (m : ℕ) (lists : List Open) (at : ℕ) (lists' lists'' : List Open) (p : Parsed A) (go : A → ℕ → Parsed C) → Reads m lists at lists' p
      → ((a : A) (mid : ℕ) → Reads m lists' mid lists'' (go a mid)) → Reads m lists at lists'' (and_then p go)
  reads_then m lists at lists' lists'' (good a mid) go h f = reads-behind m lists at lists' mid lists'' (go a mid) h (f a mid)
  reads_then m lists at lists' lists'' (bad r) go h f = h

  -- an item that ends at the place or ahead of it is passed
  pass : (lists : List Open) (at : ℕ) (lists' : List Open) (next : ℕ) → past_item s at lists ≡ position next lists' → at < next → Passes lists at lists' next
  unfolding open_from
  pass lists at lists' next e f m r h = record { behind = omega (arith, h.behind); agrees = go; deepest = h.deepest }
    where
      go : (steps : ℕ) → r.offset < at + steps → r.depth + m ≡ own_list r.number + open_from steps s r.offset at lists
      go zero g = absurd (omega (arith, h.behind))
      go (suc steps) g = rw (e, le-ltb r.offset next h.behind) (h.agrees steps (omega arith))

  -- the place is in the item at `at`
  stop : (lists : List Open) (at : ℕ) (r : Refusal) → at ≤ r.offset → r.offset < (past_item s at lists).next → r.depth ≡ own_list r.number
      → (r.number ≡ 27 → r.depth + length lists ≡ depth_limit) → Stops (length lists) lists at r
  unfolding open_from
  stop lists at r b f e d = record { behind = b; agrees = go; deepest = d }
    where
      go : (steps : ℕ) → r.offset < at + steps → r.depth + length lists ≡ own_list r.number + open_from steps s r.offset at lists
      go zero g = rw e
      go (suc steps) g = rw (e, lt-ltb r.offset (past_item s at lists).next f)

  stop-plain : (lists : List Open) (at number to : ℕ) → at ≤ to → to < (past_item s at lists).next → Plain number → Stops (length lists) lists at (refusal number to)
  stop-plain lists at number to b f p = stop lists at (refusal number to) b f (sym p.0) (λ e. absurd (p.1 e))

  -- a value at `at`, in the item at `from`
  module _ (lists : List Open) (from at : ℕ) (lists' : List Open) (starts : from ≤ at) where
    stop-value : (next number to : ℕ) → past_item s from lists ≡ position next lists' → at ≤ to → to < next → Plain number
        → Stops (length lists) lists from (refusal number to)
    stop-value next number to e b f p = stop-plain lists from number to (omega arith) (rw e f) p

    fixed_reads : (size : ℕ) (v : Value) → 0 < size → past_item s from lists ≡ position (at + size) lists'
        → Reads (length lists) lists from lists' (after_item (item_fault limit s at size) at (good v (at + size)))
    fixed_reads size v some e =
        after-item limit s _ _ at size _
        (λ fault q. stop-value (at + size) (suc fault) at e (omega arith) (omega arith) (fault-plain at size fault q))
        (λ f i. pass lists from lists' (at + size) e (omega arith))

    -- a length and the run that it counts: a run that is at fault has a byte or more, so its place is in the item
    run-reads : (n : ℕ) (wrong : Bool) (p : Parsed Value) → past_item s from lists ≡ position (at + 4 + n) lists' → (wrong ≡ false → Reads (length lists) lists from lists' p)
        → Reads (length lists) lists from lists'
        (after_item (item_fault limit s at 4) at (cond wrong (bad (refusal 25 at)) (after_item (item_fault limit s (at + 4) n) (at + 4) p)))
    run-reads n wrong p e go =
        after-item limit s _ _ at 4 _ (λ fault q. stop-value (at + 4 + n) (suc fault) at e (omega arith) (omega arith) (fault-plain at 4 fault q)) (λ f i.
        test _ _ wrong _ _ (λ w. stop-value (at + 4 + n) 25 at e (omega arith) (omega arith) (refl, λ q. omega arith)) (λ w.
        after-item limit s _ _ (at + 4) n _
        (λ fault q. stop-value (at + 4 + n) (suc fault) (at + 4) e (omega arith) (omega (arith, fault-some limit s (at + 4) n fault f i q)) (fault-plain (at + 4) n fault q))
        (λ _ _. go w)))

    string-reads : past_item s from lists ≡ position (at + 4 + word s at) lists' → Reads (length lists) lists from lists' (string_at limit s at)
    unfolding string_at
    string-reads e =
        let next : ℕ = at + 4 + word s at in
        run-reads (word s at) (bad_length (word s at)) _ e (λ fine.
        test _ _ (closed (take (word s at) (drop (at + 4) s))) _ _
        (λ c. pass lists from lists' next e (omega arith))
        (λ c. stop-value next 25 (at + 4) e (omega arith) (omega (arith, string-room (word s at) fine)) (refl, λ q. omega arith)))

    blob-reads : past_item s from lists ≡ position (at + 4 + word s at) lists' → Reads (length lists) lists from lists' (blob_at limit s at)
    unfolding blob_at
    blob-reads e = run-reads (word s at) (negative (word s at)) _ e (λ fine. pass lists from lists' (at + 4 + word s at) e (omega arith))

    value-reads : (k : Kind) → past_item s from lists ≡ position (at + value_size s at k) lists' → Reads (length lists) lists from lists' (value_at limit s at k)
    unfolding value_at
    value-reads Int e = fixed_reads (size_of Int) _ (omega arith) e
    value-reads Vocab e = fixed_reads (size_of Vocab) _ (omega arith) e
    value-reads Float e = fixed_reads (size_of Float) _ (omega arith) e
    value-reads Str e = string-reads (rw add_assoc e)
    value-reads Blob e = blob-reads (rw add_assoc e)

  typed-reads : (k : Kind) (os : List Open) (n at : ℕ)
      → Reads (suc (length os)) (still_open (counted (Some k) n ∷ os)) at (still_open os) (typed_at limit s k n at)
  unfolding typed_at still_open
  typed-reads k os zero at = λ m r h. h
  typed-reads k os (suc n) at =
      reads_then _ _ _ (still_open (counted (Some k) n ∷ os)) _ (value_at limit s at k) _ (value-reads (counted (Some k) (suc n) ∷ os) at at _ (omega arith) k refl) (λ v mid.
      reads_then _ _ _ (still_open os) _ (typed_at limit s k n mid) _ (typed-reads k os n mid) (λ es next m r h. h))

  -- what is to be shown of a refusal of the list whose code stands at `at`, where `os` are open: of 27 and 24 at the code, and of any behind it
  record Judges (os : List Open) (found : Option Kind) (at : ℕ) (B : Refusal → Type 0) : Type 0 where
    too-deep : length os ≡ depth_limit → B (refusal 27 at)
    wrong-code : B (refusal_at 24 at 1)
    inside : (r : Refusal) → Stops (length os) (uncounted found ∷ os) (at + 4) r → B r

  -- a list was passed, from its count on
  abbrev ListPassed : List Open → ℕ → ℕ → Elements → ℕ → Type 0
  ListPassed os at code es next = Passes (uncounted (kind_of (code - list_code)) ∷ os) (at + 4) (still_open os) next

  -- what is to be shown of the reader of lists that may stand in one another to depth d
  abbrev ReadsLists : ℕ → (ℕ → ℕ → Parsed Elements) → Type 1
  ReadsLists d inner = (os : List Open) (at code : ℕ) (B : Refusal → Type 0) → d + length os ≡ depth_limit → Judges os (kind_of (code - list_code)) at B
      → Says (ListPassed os at code) B (inner at code)

  -- an element that follows its code at `at`, with n elements behind it
  module _ (os : List Open) (n at : ℕ) where
    abbrev lists : List Open
    lists = counted None (suc n) ∷ os

    abbrev rest : List Open
    rest = counted None n ∷ os

    in_code : at < (past_item s at lists).next
    in_code = by (kind_of (word s at))
      where
        by : (found : Option Kind) → at < (past_code s at rest found).next
        by (Some k) = omega arith
        by None = omega arith

    coded-value-reads : (found : Option Kind) → kind_of (word s at) ≡ found → Reads (length lists) lists at (still_open rest) (coded_value limit s at found)
    coded-value-reads (Some k) e =
        reads_then _ _ _ (still_open rest) _ (value_at limit s (at + 4) k) _ (value-reads lists at (at + 4) _ (omega arith) k (ap (past_code s at rest) e)) (λ v next m r h. h)
    coded-value-reads None e = stop-plain lists at 26 at (omega arith) in_code (refl, λ q. omega arith)

    -- a list's code is an item of its own
    pass-code : is_list_code (word s at) ≡ true → Passes lists at (uncounted (kind_of (word s at - list_code)) ∷ rest) (at + 4)
    pass-code c = pass lists at _ (at + 4) (ap (past_code s at rest) (list-no-kind (word s at) c)) (omega arith)

    judges-inner : is_list_code (word s at) ≡ true → Judges rest (kind_of (word s at - list_code)) at (Stops (length lists) lists at)
    judges-inner c = record {
      too-deep = λ e. stop lists at (refusal 27 at) (omega arith) in_code refl (λ q. omega arith);
      wrong-code = stop lists at (refusal_at 24 at 1) (omega arith) in_code refl (λ q. absurd (omega arith));
      inside = pass-code c (length lists);
    }

    coded-reads : (d : ℕ) (inner : ℕ → ℕ → Parsed Elements) → ReadsLists d inner → d + length lists ≡ depth_limit
        → Reads (length lists) lists at (still_open rest) (coded_at inner limit s at)
    unfolding coded_at
    coded-reads d inner reads deep =
        after-item limit s _ _ at 4 _ (λ fault q. stop-plain lists at (suc fault) at (omega arith) in_code (fault-plain at 4 fault q)) (λ f i.
        test _ _ (is_list_code (word s at)) _ _
        (λ c. next-step _ _ _ (inner at (word s at)) _ (reads rest at (word s at) _ deep (judges-inner c)) (λ es next _ h m r q. pass-code c m r (h m r q)))
        (λ c. coded-value-reads (kind_of (word s at)) refl))

  mixed-reads : (d : ℕ) (inner : ℕ → ℕ → Parsed Elements) → ReadsLists d inner → (os : List Open) → d + suc (length os) ≡ depth_limit → (n at : ℕ)
      → Reads (suc (length os)) (still_open (counted None n ∷ os)) at (still_open os) (mixed_at inner limit s n at)
  unfolding mixed_at still_open
  mixed-reads d inner reads os deep zero at = λ m r h. h
  mixed-reads d inner reads os deep (suc n) at =
      reads_then _ _ _ (still_open (counted None n ∷ os)) _ (coded_at inner limit s at) _ (coded-reads os n at d inner reads deep) (λ put mid.
      reads_then _ _ _ (still_open os) _ (mixed_at inner limit s n mid) _ (mixed-reads d inner reads os deep n mid) (λ es next m r h. h))

  elements-reads : (d : ℕ) (inner : ℕ → ℕ → Parsed Elements) → ReadsLists d inner → (os : List Open) → d + suc (length os) ≡ depth_limit
      → (found : Option Kind) (n at : ℕ) → Reads (suc (length os)) (still_open (counted found n ∷ os)) at (still_open os) (elements_at inner limit s found n at)
  elements-reads d inner reads os deep (Some k) n at = typed-reads k os n at
  elements-reads d inner reads os deep None n at = mixed-reads d inner reads os deep n at

  -- one list more is open outside of a list's elements than outside of the list
  stops-enclosed : (m : ℕ) (lists : List Open) (at : ℕ) (r : Refusal) → Stops (suc m) lists at r → Stops m lists at (enclosed r)
  stops-enclosed m lists at r h = record {
    behind = h.behind;
    agrees = λ steps g. omega (arith, h.agrees steps g);
    deepest = λ e. omega (arith, h.deepest e);
  }

  -- a list's count, which stands behind its code
  pass-count : (os : List Open) (at : ℕ) (found : Option Kind)
      → Passes (uncounted found ∷ os) (at + 4) (still_open (counted found (word s (at + 4)) ∷ os)) (at + 8)
  pass-count os at found = let e : at + 4 + 4 ≡ at + 8 = omega arith in pass (uncounted found ∷ os) (at + 4) _ (at + 8) (rw e) (omega arith)

  -- the list behind the code at `at`
  module _ (os : List Open) (at code : ℕ) (B : Refusal → Type 0) (judges : Judges os (kind_of (code - list_code)) at B) where
    abbrev found : Option Kind
    found = kind_of (code - list_code)

    stop-body : (r : Refusal) → Stops (suc (length os)) (uncounted found ∷ os) (at + 4) r → B (enclosed r)
    stop-body r h = judges.inside (enclosed r) (stops-enclosed (length os) (uncounted found ∷ os) (at + 4) r h)

    stop-count : (number : ℕ) → Plain number → B (enclosed (refusal number (at + 4)))
    stop-count number p = stop-body (refusal number (at + 4)) (stop-plain (uncounted found ∷ os) (at + 4) number (at + 4) (omega arith) (omega arith) p)

    body_reads : (d : ℕ) (inner : ℕ → ℕ → Parsed Elements) → ReadsLists d inner → suc d + length os ≡ depth_limit
        → Says (ListPassed os at code) (λ r. B (enclosed r)) (body_at inner limit s at code)
    unfolding body_at
    body_reads d inner reads deep =
        let n : ℕ = word s (at + 4) in
        let p : Parsed Elements = elements_at inner limit s found n (at + 8) in
        let counts : Reads (suc (length os)) (uncounted found ∷ os) (at + 4) (still_open os) p =
        reads-behind _ _ _ _ _ _ p (pass-count os at found) (elements-reads d inner reads os (omega arith) found n (at + 8)) in
        after-item limit s _ _ (at + 4) 4 _ (λ fault q. stop-count (suc fault) (fault-plain (at + 4) 4 fault q)) (λ f i.
        test _ _ (negative n) _ _ (λ w. stop-count 23 (refl, λ q. omega arith)) (λ w.
        next-step _ _ _ p _ (weaken-bad _ _ _ p counts stop-body)
        (λ es next _ h. test _ _ (eqb code (list_code_of es)) _ _ (λ q. h) (λ q. judges.wrong-code))))

  list-reads : (d : ℕ) → ReadsLists d (list_at d limit s)
  unfolding list_at
  list-reads zero os at code B deep judges = judges.too-deep (omega arith)
  list-reads (suc d) os at code B deep judges =
      in_list_lem _ _ B (body_at (list_at d limit s) limit s at code) (body_reads os at code B judges d (list_at d limit s) (list-reads d) deep) (λ r h. h)

  -- the depth of a refusal of the whole
  record Placed (r : Refusal) : Type 0 where
    counts : r.depth ≡ depth_at s r.number r.offset
    deepest : r.number ≡ 27 → r.depth ≡ depth_limit

  judges-outermost : Judges [] (kind_of (word s 0 - list_code)) 0 Placed
  unfolding open_at
  judges-outermost = record {
    too-deep = λ e. absurd (omega arith);
    wrong-code = record { counts = refl; deepest = λ q. absurd (omega arith) };
    inside = λ r h. record { counts = rw (le-ltb r.offset 4 h.behind) (omega (arith, h.agrees r.offset (omega arith))); deepest = λ q. omega (arith, h.deepest q) };
  }

  parse-reads : Says (ListPassed [] 0 (word s 0)) Placed (parse limit s)
  unfolding parse open_at
  parse-reads =
      after-item limit s _ _ 0 4 _ (λ fault q. placed-code (suc fault) (fault-plain 0 4 fault q)) (λ f i.
      test _ _ (is_list_code (word s 0)) _ _ (λ c. list-reads depth_limit [] 0 (word s 0) Placed refl judges-outermost) (λ c. placed-code 22 (refl, λ q. omega arith)))
    where
      placed-code : (number : ℕ) → Plain number → Placed (refusal number 0)
      placed-code number p = record { counts = rw p.0; deepest = λ q. absurd (p.1 q) }

  placed : (r : Refusal) → parse limit s ≡ bad r → Placed r
  placed r e = rw e at parse-reads

  none_open : (steps to at : ℕ) → open_from steps s to at [] ≡ 0
  unfolding open_from
  none_open zero to at = refl
  none_open (suc steps) to at = go (ltb to at) (none_open steps to at)
    where
      go : (b : Bool) → open_from steps s to at [] ≡ 0 → cond {A = ℕ} b 0 (open_from steps s to at []) ≡ 0
      go true h = refl
      go false h = h

  -- behind a list that was read none is open
  pub closed-behind : (es : Elements) (end : ℕ) → parse limit s ≡ good es end → open_at s end ≡ 0
  unfolding open_at still_open
  closed-behind es end e =
      let passed : ListPassed [] 0 (word s 0) es end = rw e at parse-reads in
      let counts = passed 0 (refusal 29 end) (record {
        behind = omega arith;
        agrees = λ steps f. omega (arith, none_open steps end end);
        deepest = λ q. absurd (omega arith);
      }) in
      rw (le-ltb end 4 counts.behind) (omega (arith, counts.agrees end (omega arith)))

-- "the number of lists open at the fault .. and for 24 the depth of the list at fault"
pub depth-open : (limit : ℕ) (s : List ℕ) (r : Refusal) → parse limit s ≡ bad r → r.depth ≡ depth_at s r.number r.offset
depth-open limit s r e = (placed limit s r e).counts

-- the outermost list is open from its count on
open_code : (s : List ℕ) → open_at s 0 ≡ 0
unfolding open_at
open_code s = refl

open-count : (s : List ℕ) → open_at s 4 ≡ 1
unfolding open_at open_from
open-count s = refl

module _ (limit : ℕ) (s : List ℕ) (r : Refusal) (e : parse limit s ≡ bad r) where
  own-counted : r.number ≡ 24 → r.depth ≡ 1 + open_at s r.offset
  own-counted own = depth-open limit s r e ∙ ap (λ (number : ℕ). depth_at s number r.offset) own

  own-absent : (r.number ≡ 24 → ⊥) → r.depth ≡ open_at s r.offset
  own-absent other = omega (arith, depth-open limit s r e, ap (λ b. cond {A = ℕ} b 1 0) (ne_eqb r.number 24 other))

-- what the depth of a refusal says
pub record Depths (limit : ℕ) : Type 0 where
  -- "Each list-reading refusal is to carry the number of lists open at the fault"
  pub lists-open : (s : List ℕ) (r : Refusal) → parse limit s ≡ bad r → r.depth ≡ depth_at s r.number r.offset
  -- "0 at the outermost code"
  pub outermost-code : (s : List ℕ) (r : Refusal) → parse limit s ≡ bad r → r.offset ≡ 0 → (r.number ≡ 24 → ⊥) → r.depth ≡ 0
  -- "1 at the outermost count"
  pub outermost-count : (s : List ℕ) (r : Refusal) → parse limit s ≡ bad r → r.offset ≡ 4 → (r.number ≡ 24 → ⊥) → r.depth ≡ 1
  -- "for 24 the depth of the list at fault", "the outermost being 1"
  pub outermost-own : (s : List ℕ) (r : Refusal) → parse limit s ≡ bad r → r.number ≡ 24 → r.offset ≡ 0 → r.depth ≡ 1
  -- the list at fault is always counted
  pub some-own : (s : List ℕ) (r : Refusal) → parse limit s ≡ bad r → r.number ≡ 24 → 1 ≤ r.depth
  -- "27 is given at a nested list's code": that of the ninth, where 8 are open
  pub deepest : (s : List ℕ) (r : Refusal) → parse limit s ≡ bad r → r.number ≡ 27 → r.depth ≡ depth_limit
  -- "A list may stand inside a list to depth 8"
  pub shallow : (s : List ℕ) (r : Refusal) → parse limit s ≡ bad r → r.depth ≤ depth_limit

pub depths : (limit : ℕ) → Depths limit
depths limit = record {
  lists-open = depth-open limit;
  outermost-code = λ s r e o other. own-absent limit s r e other ∙ ap (open_at s) o ∙ open_code s;
  outermost-count = λ s r e o other. own-absent limit s r e other ∙ ap (open_at s) o ∙ open-count s;
  outermost-own = λ s r e own o. omega (arith, own-counted limit s r e own, ap (open_at s) o, open_code s);
  some-own = λ s r e own. omega (arith, own-counted limit s r e own);
  deepest = λ s r e. (placed limit s r e).deepest;
  shallow = parse-shallow limit;
}
