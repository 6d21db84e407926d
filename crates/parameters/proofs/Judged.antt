-- A DEVICE_DATA payload is accepted exactly where nothing is there that 16, 17 or 18 is given for, and each number is given
-- exactly where its own ground is there and none of a number before it.
use Prim.Native.Nat.{ℕ, zero, suc, ◌≤◌, ◌<◌}
use mathlib.Core.Path.{◌≡◌, refl, sym, ap}
use mathlib.Core.Bool.{Bool, true, false, cond, not, ◌&&◌, ◌||◌}
use mathlib.Core.List.{List}
use mathlib.Core.Logic.{◌≢◌}
use native.Mathlib.Omega.{arith}
use lib.Dec.{eqb, leb}
use lib.ListN.{length}
use borrow.Author.Tests.{eq-eqb, ne_eqb, eqb-true, eqb-false, le-leb, lt-leb, leb-true, leb-false}
use Rattle.wire.specs.Every.{every}
use Rattle.wire.proofs.Chains.{and_left, and_right, and-true, every-at, every-stop}
use Rattle.catalogue.specs.Format.{kind_bool}
use Rattle.catalogue.specs.Lookup.{parameter_of, is_readable, kind_in}
use Rattle.slot.specs.Slot.{param_count}
use Rattle.slot.specs.declared.Slot.{Slot}
use Rattle.slot.proofs.Filling.{every-each}
use Rattle.table.specs.Change.{Verdict, accepted, refused}
use Rattle.table.proofs.Tests.{never, imply, implied}
use Rattle.table.proofs.Changes.{is_accepted, number_of}
use Rattle.parameters.specs.Data.{map_of, named, value_in, readable_if, all_readable, size_of, flag_if, all_flags, judged}

-- each named parameter is readable
abbrev pub Readable : List ℕ → Slot → List ℕ → Type 0
Readable c s payload = (p : ℕ) → p < param_count → named (map_of payload) p ≡ true → is_readable (parameter_of c s.device p) ≡ true

-- the payload fits the row's device
pub record Judged (c : List ℕ) (s : Slot) (payload : List ℕ) : Type 0 where
  pub readable : Readable c s payload
  -- the values are as long as the bits require
  pub fits : length payload ≡ size_of c s (map_of payload)
  -- each named BOOL is 0 or 1
  pub flags :
      (p : ℕ) → p < param_count → named (map_of payload) p ≡ true → kind_in (parameter_of c s.device p) ≡ kind_bool →
      value_in c s (map_of payload) payload p ≤ 1

-- 16: "a set bit has no readable parameter"
pub record Unreadable (c : List ℕ) (s : Slot) (payload : List ℕ) : Type 0 where
  pub index : ℕ
  pub below : index < param_count
  pub is-named : named (map_of payload) index ≡ true
  pub not-readable : (is_readable (parameter_of c s.device index)) ≡ false

-- 17: "values longer or shorter than the bits require"
pub record Unfitting (c : List ℕ) (s : Slot) (payload : List ℕ) : Type 0 where
  pub readable : Readable c s payload
  pub differs : length payload ≢ size_of c s (map_of payload)

-- 18: "BOOL neither 0 nor 1"
pub record NoFlag (c : List ℕ) (s : Slot) (payload : List ℕ) : Type 0 where
  pub readable : Readable c s payload
  pub fits : length payload ≡ size_of c s (map_of payload)
  pub index : ℕ
  pub below : index < param_count
  pub is-named : named (map_of payload) index ≡ true
  pub is-bool : (kind_in (parameter_of c s.device index)) ≡ kind_bool
  pub above : 1 < value_in c s (map_of payload) payload index

-- a test that does not hold at every index fails at one
failing : (n : ℕ) (test : ℕ → Bool) → every n test ≡ false → (i : ℕ) × (i < n) × (test i ≡ false)
unfolding every
failing zero test h = never h
failing (suc n) test h = go (test n) refl h (failing n test)
  where
    both : (a : Bool) → (a && true) ≡ false → a ≡ false
    both true e = e
    both false e = refl

    go :
        (b : Bool) → test n ≡ b → (every n test && b) ≡ false → (every n test ≡ false → (i : ℕ) × (i < n) × (test i ≡ false)) →
        (i : ℕ) × (i < suc n) × (test i ≡ false)
    go false e g rest = (n, omega arith, e)
    go true e g rest = let r = rest (both (every n test) g) in (r.0, omega (arith, r.1), r.2)

-- "not a, or b" fails where a holds and b does not
implies-not : (a b : Bool) → (not a || b) ≡ false → (a ≡ true) × (b ≡ false)
implies-not true b h = (refl, h)
implies-not false b h = never h

-- the tests in their order
abbrev verdict : Bool → Bool → Bool → Verdict
verdict a b d = cond a (cond b (cond d accepted (refused 18)) (refused 17)) (refused 16)

no-clash : {A : Type 0} {v w : Verdict} → v ≡ w → number_of v ≢ number_of w → A
no-clash e n = absurd (n (ap number_of e))

by-accepted : (a b d : Bool) → verdict a b d ≡ accepted → (a ≡ true) × (b ≡ true) × (d ≡ true)
by-accepted true true true e = (refl, refl, refl)
by-accepted true true false e = never (sym (ap is_accepted e))
by-accepted true false d e = never (sym (ap is_accepted e))
by-accepted false b d e = never (sym (ap is_accepted e))

by-16 : (a b d : Bool) → verdict a b d ≡ refused 16 → a ≡ false
by-16 true true true e = no-clash e (λ z. omega arith)
by-16 true true false e = no-clash e (λ z. omega arith)
by-16 true false d e = no-clash e (λ z. omega arith)
by-16 false b d e = refl

by-17 : (a b d : Bool) → verdict a b d ≡ refused 17 → (a ≡ true) × (b ≡ false)
by-17 true true true e = no-clash e (λ z. omega arith)
by-17 true true false e = no-clash e (λ z. omega arith)
by-17 true false d e = (refl, refl)
by-17 false b d e = no-clash e (λ z. omega arith)

by-18 : (a b d : Bool) → verdict a b d ≡ refused 18 → (a ≡ true) × (b ≡ true) × (d ≡ false)
by-18 true true true e = no-clash e (λ z. omega arith)
by-18 true true false e = (refl, refl, refl)
by-18 true false d e = no-clash e (λ z. omega arith)
by-18 false b d e = no-clash e (λ z. omega arith)

module _ (c : List ℕ) (s : Slot) (payload : List ℕ) where
  abbrev map : ℕ
  map = map_of payload

  abbrev may_read : ℕ → Bool
  may_read p = is_readable (parameter_of c s.device p)

  abbrev is_bool : ℕ → Bool
  is_bool p = eqb (kind_in (parameter_of c s.device p)) kind_bool

  abbrev value : ℕ → ℕ
  value p = value_in c s map payload p

  abbrev readables : Bool
  readables = all_readable c s map

  abbrev sized : Bool
  sized = eqb (size_of c s map) (length payload)

  abbrev flagged : Bool
  flagged = all_flags c s map payload

  readables-mean : readables ≡ true → Readable c s payload
  unfolding all_readable
  readables-mean e p l n = imply (named map p) (may_read p) (every-at param_count (λ q. readable_if c s q (named map q)) e p l) n

  all-readable : Readable c s payload → readables ≡ true
  unfolding all_readable
  all-readable h = every-each param_count (λ q. readable_if c s q (named map q)) (λ p l. implied (named map p) (may_read p) (h p l))

  all-flags : Judged c s payload → flagged ≡ true
  unfolding all_flags
  all-flags h =
      every-each param_count (λ q. flag_if c s q (named map q) (value q))
      (λ p l.
      implied (named map p && is_bool p) (leb (value p) 1)
      (λ e.
      le-leb (value p) 1
      (h.flags p l (and_left (named map p) (is_bool p) e)
      (eqb-true (kind_in (parameter_of c s.device p)) kind_bool (and_right (named map p) (is_bool p) e)))))

  -- LAW: what is accepted fits
  pub judged-means : judged c s payload ≡ accepted → Judged c s payload
  unfolding judged all_flags
  judged-means e =
      let g = by-accepted readables sized flagged e in
      record {
        readable = readables-mean g.0;
        fits = sym (eqb-true (size_of c s map) (length payload) g.1);
        flags =
            λ p l n k.
            leb-true (value p) 1
            (imply (named map p && is_bool p) (leb (value p) 1)
            (every-at param_count (λ q. flag_if c s q (named map q) (value q)) g.2 p l)
            (and-true (named map p) (is_bool p) n (eq-eqb (kind_in (parameter_of c s.device p)) kind_bool k)));
      }

  -- LAW: what fits is accepted
  pub means-judged : Judged c s payload → judged c s payload ≡ accepted
  unfolding judged
  means-judged h = rw (all-readable h.readable, eq-eqb (size_of c s map) (length payload) (sym h.fits), all-flags h)

  -- LAW: 16 is given only where a named parameter is not readable
  pub refused-16-means : judged c s payload ≡ refused 16 → Unreadable c s payload
  unfolding judged all_readable
  refused-16-means e =
      let f = failing param_count (λ q. readable_if c s q (named map q)) (by-16 readables sized flagged e) in
      let n = implies-not (named map f.0) (may_read f.0) f.2 in
      record { index = f.0; below = f.1; is-named = n.0; not-readable = n.1 }

  -- LAW: and wherever one is
  pub means-refused-16 : Unreadable c s payload → judged c s payload ≡ refused 16
  unfolding judged all_readable
  means-refused-16 u =
      let test : ℕ → Bool = λ q. readable_if c s q (named map q) in
      let one : test u.index ≡ false = rw (u.is-named, u.not-readable) in
      rw (← every-stop param_count u.index test u.below one)

  -- LAW: 17 is given only where all of these are readable and the length differs
  pub refused-17-means : judged c s payload ≡ refused 17 → Unfitting c s payload
  unfolding judged
  refused-17-means e =
      let g = by-17 readables sized flagged e in
      record { readable = readables-mean g.0; differs = λ z. eqb-false (size_of c s map) (length payload) g.1 (sym z) }

  -- LAW: and wherever they are and it does
  pub means-refused-17 : Unfitting c s payload → judged c s payload ≡ refused 17
  unfolding judged
  means-refused-17 u = rw (all-readable u.readable, ne_eqb (size_of c s map) (length payload) (λ z. u.differs (sym z)))

  -- LAW: 18 is given only where all are readable, the length is right and a named BOOL is above 1
  pub refused-18-means : judged c s payload ≡ refused 18 → NoFlag c s payload
  unfolding judged all_flags
  refused-18-means e =
      let g = by-18 readables sized flagged e in
      let f = failing param_count (λ q. flag_if c s q (named map q) (value q)) g.2 in
      let n = implies-not (named map f.0 && is_bool f.0) (leb (value f.0) 1) f.2 in
      record {
        readable = readables-mean g.0;
        fits = sym (eqb-true (size_of c s map) (length payload) g.1);
        index = f.0;
        below = f.1;
        is-named = and_left (named map f.0) (is_bool f.0) n.0;
        is-bool = eqb-true (kind_in (parameter_of c s.device f.0)) kind_bool (and_right (named map f.0) (is_bool f.0) n.0);
        above = leb-false (value f.0) 1 n.1;
      }

  -- LAW: and wherever one is
  pub means-refused-18 : NoFlag c s payload → judged c s payload ≡ refused 18
  unfolding judged all_flags
  means-refused-18 u =
      let test : ℕ → Bool = λ q. flag_if c s q (named map q) (value q) in
      let one : test u.index ≡ false =
      rw (u.is-named, eq-eqb (kind_in (parameter_of c s.device u.index)) kind_bool u.is-bool, lt-leb (value u.index) 1 u.above) in
      rw (
        all-readable u.readable,
        eq-eqb (size_of c s map) (length payload) (sym u.fits),
        ← every-stop param_count u.index test u.below one,
      )
