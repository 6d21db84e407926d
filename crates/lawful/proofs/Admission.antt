-- What a call that is admitted may rely on, and what each refusal says.
use Prim.Native.Nat.{ℕ, ◌≤◌, ◌<◌}
use mathlib.Core.Path.{◌≡◌, refl, ap}
use mathlib.Core.Bool.{Bool, true, false, cond}
use mathlib.Core.List.{List}
use native.Mathlib.Omega.{arith}
use lib.Dec.{ltb}
use borrow.Author.Tests.{lt-ltb, le-ltb, ltb-true, ltb-false}
use Rattle.catalogue.specs.Format.{legal}
use Rattle.table.specs.Change.{Verdict, accepted, refused}
use Rattle.table.proofs.Changes.{number_of}
use Rattle.lawful.specs.Lawful.{lawful, admission}

-- two verdicts of different numbers are not the same
clash : {A : Type 0} (v w : Verdict) → v ≡ w → (number_of v ≡ number_of w → ⊥) → A
clash v w e f = absurd (f (ap number_of e))

-- the verdict by the three tests
abbrev judged : Bool → Bool → Bool → Verdict
judged a b d = cond a (cond b (cond d accepted (refused 10)) (refused 9)) (refused 11)

module _ (slots sockets : ℕ) (c t : List ℕ) (socket : ℕ) where
  -- LAW: what 11, 9 and 10 are given for is ruled out in a call that is admitted
  pub admitted-means :
      admission slots sockets c t socket ≡ accepted → (legal c ≡ true) × (lawful slots sockets c t ≡ true) × (socket < sockets)
  unfolding admission
  admitted-means = go (legal c) (lawful slots sockets c t) (ltb socket sockets) refl
    where
      go : (a b d : Bool) → ltb socket sockets ≡ d → judged a b d ≡ accepted → (a ≡ true) × (b ≡ true) × (socket < sockets)
      go true true true e q = (refl, refl, ltb-true socket sockets e)
      go true true false e q = clash _ _ q (λ n. omega arith)
      go true false d e q = clash _ _ q (λ n. omega arith)
      go false b d e q = clash _ _ q (λ n. omega arith)

  -- LAW: and a call where none of them is given is admitted
  pub means-admitted :
      legal c ≡ true → lawful slots sockets c t ≡ true → socket < sockets → admission slots sockets c t socket ≡ accepted
  unfolding admission
  means-admitted l w n = rw (l, w, lt-ltb _ _ n)

  -- LAW: 11 is given only for a catalogue that is not legal
  pub refused-11-means : admission slots sockets c t socket ≡ refused 11 → legal c ≡ false
  unfolding admission
  refused-11-means = go (legal c) (lawful slots sockets c t) (ltb socket sockets)
    where
      go : (a b d : Bool) → judged a b d ≡ refused 11 → a ≡ false
      go true true true q = clash _ _ q (λ n. omega arith)
      go true true false q = clash _ _ q (λ n. omega arith)
      go true false d q = clash _ _ q (λ n. omega arith)
      go false b d q = refl

  -- LAW: and for every one
  pub means-refused-11 : legal c ≡ false → admission slots sockets c t socket ≡ refused 11
  unfolding admission
  means-refused-11 l = rw l

  -- LAW: 9 is given only for a table that is not lawful under a legal catalogue
  pub refused-9-means :
      admission slots sockets c t socket ≡ refused 9 → (legal c ≡ true) × (lawful slots sockets c t ≡ false)
  unfolding admission
  refused-9-means = go (legal c) (lawful slots sockets c t) (ltb socket sockets)
    where
      go : (a b d : Bool) → judged a b d ≡ refused 9 → (a ≡ true) × (b ≡ false)
      go true true true q = clash _ _ q (λ n. omega arith)
      go true true false q = clash _ _ q (λ n. omega arith)
      go true false d q = (refl, refl)
      go false b d q = clash _ _ q (λ n. omega arith)

  -- LAW: and for every one
  pub means-refused-9 : legal c ≡ true → lawful slots sockets c t ≡ false → admission slots sockets c t socket ≡ refused 9
  unfolding admission
  means-refused-9 l w = rw (l, w)

  -- LAW: 10 is given only for a socket that the table cannot have, where 11 and 9 are not
  pub refused-10-means :
      admission slots sockets c t socket ≡ refused 10 → (legal c ≡ true) × (lawful slots sockets c t ≡ true) × (sockets ≤ socket)
  unfolding admission
  refused-10-means = go (legal c) (lawful slots sockets c t) (ltb socket sockets) refl
    where
      go : (a b d : Bool) → ltb socket sockets ≡ d → judged a b d ≡ refused 10 → (a ≡ true) × (b ≡ true) × (sockets ≤ socket)
      go true true true e q = clash _ _ q (λ n. omega arith)
      go true true false e q = (refl, refl, ltb-false socket sockets e)
      go true false d e q = clash _ _ q (λ n. omega arith)
      go false b d e q = clash _ _ q (λ n. omega arith)

  -- LAW: and for every one
  pub means-refused-10 :
      legal c ≡ true → lawful slots sockets c t ≡ true → sockets ≤ socket → admission slots sockets c t socket ≡ refused 10
  unfolding admission
  means-refused-10 l w n = rw (l, w, le-ltb _ _ n)
