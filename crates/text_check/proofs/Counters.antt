-- The code's tally stands for the definition's through each token.
use Prim.Native.Nat.{ℕ, suc, ◌+◌, ◌-◌, ◌≤◌, ◌<◌, max}
use mathlib.Core.Path.{◌≡◌, refl, sym, ap, ◌∙◌}
use mathlib.Core.Bool.{Bool, true, false, cond, ◌||◌}
use mathlib.Core.Logic.{◌⊎◌, inl, inr, ⊎_elim}
use mathlib.Core.Option.{some}
use mathlib.Core.Option as option
use native.Mathlib.Omega.{arith}
use lib.Dec.{eqb, ltb}
use lib.ListN.{length}
use borrow.Author.Tests.{ltb-true, ltb-false, lt-ltb, le-ltb, eqb-true}
use Rattle.list.specs.Limits.{list_limit, depth_limit}
use Rattle.list.specs.Kind.{code_of, list_code}
use Rattle.list.specs.Tree.{kind}
use Rattle.list.specs.Bytes.{value_bytes, common}
use Rattle.list.proofs.RowBound.{value-size}
use Rattle.std.specs.Prelude.{Some}
use Rattle.digits.specs.Read.{Read, got, wrong, and_read}
use Rattle.text.specs.Tokens.{Token, opening, closing, item, opens}
use Rattle.text_check.specs.declared.token.TokenRead.{TokenRead}
use Rattle.text_check.specs.declared.token.TokenRead.TheVariants as read
use Rattle.text_check.specs.declared.tally.Tally as code
use Rattle.text_check.specs.Tally.{Tally, tally, with_value, with_opening, with_closing, with_token, at_end}
use Rattle.text_check.specs.Answers.{at_most, shape_of, shaped, token_of, opens_of, Small, Payload, StandsFor}
use Rattle.text_check.specs.Answers.{counter, counter_value, counter_open, counter_close, counter_after, counter_error}
use Rattle.text_check.proofs.Tallies.{value-settles, value-waits, tally_error}

-- NUMBERS ABOVE A LIMIT
at-most : (n : ℕ) → (at_most n ≡ n) ⊎ ((at_most n ≡ suc list_limit) × (list_limit < n))
unfolding at_most
at-most n = go (ltb list_limit n) refl
  where
    go : (b : Bool) → ltb list_limit n ≡ b → (cond b (suc list_limit) n ≡ n) ⊎ ((cond b (suc list_limit) n ≡ suc list_limit) × (list_limit < n))
    go true e = inr (refl, ltb-true list_limit n e)
    go false e = inl refl

pub at-most-small : (n : ℕ) → at_most n ≤ suc list_limit
unfolding at_most
at-most-small n = go (ltb list_limit n) refl
  where
    go : (b : Bool) → ltb list_limit n ≡ b → cond b (suc list_limit) n ≤ suc list_limit
    go true e = omega arith
    go false e = omega (arith, ltb-false list_limit n e)

pub at-most-over : (n : ℕ) → list_limit < n → suc list_limit ≡ at_most n
unfolding at_most
at-most-over n h = rw (lt-ltb list_limit n h)

pub at-most-is : (n : ℕ) → n ≤ list_limit → n ≡ at_most n
unfolding at_most
at-most-is n h = rw (le-ltb list_limit n h)

-- two numbers that are equal or both above the limit
either : (m n : ℕ) → (m ≡ n) ⊎ ((list_limit < m) × (list_limit < n)) → (ltb list_limit m ≡ ltb list_limit n) × (m ≤ list_limit → m ≡ n)
either m n h = ⊎_elim (λ e. (ap (ltb list_limit) e, λ l. e)) (λ e. (lt-ltb list_limit m e.0 ∙ sym (lt-ltb list_limit n e.1), λ l. absurd (omega arith))) h

-- a sum with a number, and with that number as far as the limit goes
sum-either : (x n m k : ℕ) → m ≡ x + at_most n → k ≡ x + n → (ltb list_limit m ≡ ltb list_limit k) × (m ≤ list_limit → m ≡ k)
sum-either x n m k a b = either m k (⊎_elim (λ e. inl (omega arith)) (λ e. inr (omega arith, omega arith)) (at-most n))

-- the deeper of two
deeper : (b : Bool) (m n : ℕ) → b ≡ ltb depth_limit m → (b || ltb depth_limit n) ≡ ltb depth_limit (max n m)
deeper b m n e = ap (λ (x : Bool). x || ltb depth_limit n) e ∙ go (ltb depth_limit m) refl (ltb depth_limit n) refl
  where
    go : (x : Bool) → ltb depth_limit m ≡ x → (y : Bool) → ltb depth_limit n ≡ y → (x || y) ≡ ltb depth_limit (max n m)
    go true p y q = sym (lt-ltb depth_limit (max n m) (omega (arith, ltb-true depth_limit m p)))
    go false p true q = sym (lt-ltb depth_limit (max n m) (omega (arith, ltb-true depth_limit n q)))
    go false p false q = sym (le-ltb depth_limit (max n m) (omega (arith, ltb-false depth_limit m p, ltb-false depth_limit n q)))

-- A VALUE IN THE DEFINITION'S TALLY
value_keeps : (t : Tally) (code payload : ℕ)
    → ((with_value t code payload).depth ≡ t.depth) × ((with_value t code payload).deepest ≡ t.deepest) × (t.size ≤ (with_value t code payload).size)
unfolding with_value
value_keeps t code payload = go (eqb (common t.seen code) list_code)
  where
    next : Bool → Tally
    next b =
        cond b
        (tally t.depth t.deepest list_code 0 (t.size + (t.pending + 4 + payload)))
        (tally t.depth t.deepest (common t.seen code) (t.pending + 4) (t.size + payload))

    go : (b : Bool) → ((next b).depth ≡ t.depth) × ((next b).deepest ≡ t.deepest) × (t.size ≤ (next b).size)
    go true = (refl, refl, omega arith)
    go false = (refl, refl, omega arith)

-- EACH TOKEN
-- what the code keeps of its tally: small numbers, and codes of no more bytes than the elements have
pub record Kept (c : code.Tally) : Type 0 where
  pub small : Small c
  pub less : c.pending ≤ c.size

module _ (c : code.Tally) (t : Tally) (s : StandsFor c t) where
  stands-long : (u : Tally) → u.depth ≡ t.depth → u.deepest ≡ t.deepest → t.size ≤ u.size → ltb list_limit c.size ≡ true → StandsFor c u
  stands-long u d m l e =
      let h : list_limit < t.size = ltb-true list_limit t.size (sym s.long ∙ e) in
      record {
        depth = s.depth ∙ sym d;
        deep = s.deep ∙ ap (ltb depth_limit) (sym m);
        long = e ∙ sym (lt-ltb list_limit u.size (omega arith));
        same = λ q. absurd (omega (arith, ltb-true list_limit c.size e));
      }

  stands-value : (code p : ℕ) → StandsFor (counter_value c code (at_most p)) (with_value t code p)
  stands-value code p = go (ltb list_limit c.size) refl
    where
      short : c.size ≤ list_limit → (b : Bool) → eqb (common c.seen code) list_code ≡ b
          → StandsFor
          (cond b (counter c.depth c.deep list_code 0 (c.size + (c.pending + 4 + at_most p)))
          (counter c.depth c.deep (common c.seen code) (c.pending + 4) (c.size + at_most p)))
          (with_value t code p)
      short l true e =
          let q = s.same l in
          let x = sum-either (c.size + c.pending + 4) p (c.size + (c.pending + 4 + at_most p)) (t.size + (t.pending + 4 + p)) (omega arith) (omega arith) in
          rw (value-settles t code p (ap (λ (n : ℕ). common n code) (sym q.2) ∙ eqb-true (common c.seen code) list_code e))
          (record { depth = s.depth; deep = s.deep; long = x.0; same = λ h. (x.1 h, refl, refl) })
      short l false e =
          let q = s.same l in
          let x = sum-either c.size p (c.size + at_most p) (t.size + p) (omega arith) (omega arith) in
          let f : common c.seen code ≡ common t.seen code = ap (λ (n : ℕ). common n code) q.2 in
          rw (value-waits t code p (ap (λ (n : ℕ). eqb n list_code) (sym f) ∙ e))
          (record { depth = s.depth; deep = s.deep; long = x.0; same = λ h. (x.1 h, ap (λ (n : ℕ). n + 4) q.1, f) })

      go : (b : Bool) → ltb list_limit c.size ≡ b
          → StandsFor
          (cond b c
          (cond (eqb (common c.seen code) list_code) (counter c.depth c.deep list_code 0 (c.size + (c.pending + 4 + at_most p)))
          (counter c.depth c.deep (common c.seen code) (c.pending + 4) (c.size + at_most p))))
          (with_value t code p)
      go true e = let v = value_keeps t code p in stands-long (with_value t code p) v.0 v.1 v.2 e
      go false e = short (ltb-false list_limit c.size e) (eqb (common c.seen code) list_code) refl

  deepens : (c.deep || ltb depth_limit (suc c.depth)) ≡ ltb depth_limit (max (suc t.depth) t.deepest)
  deepens =
      ap (λ (n : ℕ). c.deep || ltb depth_limit (suc n)) s.depth ∙ deeper c.deep t.deepest (suc t.depth) s.deep

  stands-open : StandsFor (counter_open c) (with_opening t)
  unfolding with_opening
  stands-open = go (ltb list_limit c.size) refl
    where
      go : (b : Bool) → ltb list_limit c.size ≡ b
          → StandsFor (counter (suc c.depth) (c.deep || ltb depth_limit (suc c.depth)) 0 0 (cond b c.size (c.size + (c.pending + 8)))) (with_opening t)
      go true e =
          let h : list_limit < t.size = ltb-true list_limit t.size (sym s.long ∙ e) in
          record {
            depth = ap suc s.depth;
            deep = deepens;
            long = e ∙ sym (lt-ltb list_limit (t.size + (t.pending + 8)) (omega arith));
            same = λ q. absurd (omega (arith, ltb-true list_limit c.size e));
          }
      go false e =
          let q = s.same (ltb-false list_limit c.size e) in
          let x : c.size + (c.pending + 8) ≡ t.size + (t.pending + 8) = omega arith in
          record { depth = ap suc s.depth; deep = deepens; long = ap (ltb list_limit) x; same = λ l. (x, refl, refl) }

  stands-close : StandsFor (counter_close c) (with_closing t)
  unfolding with_closing
  stands-close = record { depth = ap (λ (n : ℕ). n - 1) s.depth; deep = s.deep; long = s.long; same = λ h. ((s.same h).0, refl, refl) }

-- the sums stay small
module _ (c : code.Tally) (k : Kept c) where
  kept-value : (code p : ℕ) → 4 ≤ p → Kept (counter_value c code (at_most p))
  kept-value code p h = go (ltb list_limit c.size) refl (eqb (common c.seen code) list_code)
    where
      small : 4 ≤ at_most p
      small = ⊎_elim (λ e. omega arith) (λ e. omega arith) (at-most p)

      go : (b : Bool) → ltb list_limit c.size ≡ b → (d : Bool)
          → Kept
          (cond b c
          (cond d (counter c.depth c.deep list_code 0 (c.size + (c.pending + 4 + at_most p)))
          (counter c.depth c.deep (common c.seen code) (c.pending + 4) (c.size + at_most p))))
      go true e d = k
      go false e true =
          let l = ltb-false list_limit c.size e in
          let m = at-most-small p in
          let n = k.less in
          record { small = record { size = omega arith; pending = omega arith }; less = omega arith }
      go false e false =
          let l = ltb-false list_limit c.size e in
          let m = at-most-small p in
          let n = k.less in
          record { small = record { size = omega arith; pending = omega arith }; less = omega (arith, small) }

  kept-open : Kept (counter_open c)
  kept-open = go (ltb list_limit c.size) refl
    where
      go : (b : Bool) → ltb list_limit c.size ≡ b
          → Kept (counter (suc c.depth) (c.deep || ltb depth_limit (suc c.depth)) 0 0 (cond b c.size (c.size + (c.pending + 8))))
      go true e = record { small = record { size = k.small.size; pending = omega arith }; less = omega arith }
      go false e =
          let l = ltb-false list_limit c.size e in
          let n = k.less in
          record { small = record { size = omega arith; pending = omega arith }; less = omega arith }

  kept-close : Kept (counter_close c)
  kept-close = record { small = record { size = k.small.size; pending = omega arith }; less = omega arith }

-- A TOKEN THAT WAS READ
-- the code's tally behind a token stands for the definition's
pub stands_after : (c : code.Tally) (t : Tally) (r : TokenRead) (token : Token) (n : ℕ) → StandsFor c t → token_of (Some r) ≡ got (shape_of token) n
    → StandsFor (counter_after c r) (with_token t token)
stands_after c t (read.Open count) opening n s e = stands-open c t s
stands_after c t (read.Open count) closing n s e = absurd (let z : ◌≡◌ {A = ℕ} 0 1 = cc in omega arith)
stands_after c t (read.Open count) (item v) n s e = absurd (let z : ◌≡◌ {A = ℕ} 0 1 = cc in omega arith)
stands_after c t read.Close opening n s e = absurd (let z : ◌≡◌ {A = ℕ} 0 1 = cc in omega arith)
stands_after c t read.Close closing n s e = stands-close c t s
stands_after c t read.Close (item v) n s e = absurd (let z : ◌≡◌ {A = ℕ} 0 1 = cc in omega arith)
stands_after c t (read.Value code payload count) opening n s e = absurd (let z : ◌≡◌ {A = ℕ} 0 1 = cc in omega arith)
stands_after c t (read.Value code payload count) closing n s e = absurd (let z : ◌≡◌ {A = ℕ} 0 1 = cc in omega arith)
stands_after c t (read.Value code payload count) (item v) n s e =
    let p : payload ≡ at_most (length (value_bytes v)) = cc in
    let q : code ≡ code_of (kind v) = cc in
    rw (q, p) (stands-value c t s (code_of (kind v)) (length (value_bytes v)))

-- its sums stay small
pub kept-after : (c : code.Tally) (r : TokenRead) (token : Token) (n : ℕ) → Kept c → token_of (Some r) ≡ got (shape_of token) n → Kept (counter_after c r)
kept-after c (read.Open count) token n k e = kept-open c k
kept-after c read.Close token n k e = kept-close c k
kept-after c (read.Value code payload count) opening n k e = absurd (let z : ◌≡◌ {A = ℕ} 0 1 = cc in omega arith)
kept-after c (read.Value code payload count) closing n k e = absurd (let z : ◌≡◌ {A = ℕ} 0 1 = cc in omega arith)
kept-after c (read.Value code payload count) (item v) n k e =
    let p : payload ≡ at_most (length (value_bytes v)) = cc in
    rw p (kept-value c k code (length (value_bytes v)) (omega (arith, value-size v)))

-- its depth grows by one at most
value-depth : (c : code.Tally) (code payload : ℕ) → (counter_value c code payload).depth ≡ c.depth
value-depth c code payload = go (ltb list_limit c.size) (eqb (common c.seen code) list_code)
  where
    go : (b d : Bool) →
        (cond b c
        (cond d (counter c.depth c.deep list_code 0 (c.size + (c.pending + 4 + payload)))
        (counter c.depth c.deep (common c.seen code) (c.pending + 4) (c.size + payload)))).depth ≡ c.depth
    go true d = refl
    go false true = refl
    go false false = refl

pub depth-after : (c : code.Tally) (r : TokenRead) → (counter_after c r).depth ≤ suc c.depth
depth-after c (read.Open count) = omega arith
depth-after c read.Close = omega arith
depth-after c (read.Value code payload count) = omega (arith, value-depth c code payload)

-- whether it opens a list
pub opens-after : (r : TokenRead) (token : Token) (n : ℕ) → token_of (Some r) ≡ got (shape_of token) n → opens_of r ≡ opens token
opens-after (read.Open count) opening n e = refl
opens-after (read.Open count) closing n e = absurd (let z : ◌≡◌ {A = ℕ} 0 1 = cc in omega arith)
opens-after (read.Open count) (item v) n e = absurd (let z : ◌≡◌ {A = ℕ} 0 1 = cc in omega arith)
opens-after read.Close opening n e = absurd (let z : ◌≡◌ {A = ℕ} 0 1 = cc in omega arith)
opens-after read.Close closing n e = refl
opens-after read.Close (item v) n e = refl
opens-after (read.Value code payload count) opening n e = absurd (let z : ◌≡◌ {A = ℕ} 0 1 = cc in omega arith)
opens-after (read.Value code payload count) closing n e = refl
opens-after (read.Value code payload count) (item v) n e = refl

-- what is asked of a payload
pub payload-after : (r : TokenRead) (q : Read Token) → token_of (Some r) ≡ and_read q shaped → Payload r
payload-after (read.Open count) q e = tt
payload-after read.Close q e = tt
payload-after (read.Value code payload count) wrong e = absurd (let z : ◌≡◌ {A = ℕ} 0 1 = cc in omega arith)
payload-after (read.Value code payload count) (got opening n) e = absurd (let z : ◌≡◌ {A = ℕ} 0 1 = cc in omega arith)
payload-after (read.Value code payload count) (got closing n) e = absurd (let z : ◌≡◌ {A = ℕ} 0 1 = cc in omega arith)
payload-after (read.Value code payload count) (got (item v) n) e =
    let p : payload ≡ at_most (length (value_bytes v)) = cc in
    rw p (at-most-small (length (value_bytes v)))

-- the answer at the end
pub stands-error : (c : code.Tally) (t : Tally) → StandsFor c t → counter_error c ≡ tally_error (at_end t)
stands-error c t s =
    rw (s.depth, s.deep, s.long) (go (eqb t.depth 1))
  where
    go : (b : Bool) → cond b (cond (ltb depth_limit t.deepest) 27 (cond (ltb list_limit t.size) 28 0)) 32 ≡ tally_error (cond b (some t) option.none)
    go true = refl
    go false = refl
