-- Every series of steps over a run and a rest that starts with no legal list is the expected one: by induction on the lendings, from any
-- offset at which a list of the run or the rest begins.
use Prim.Native.Nat.{ℕ, ◌+◌, ◌≤◌, ◌<◌}
use mathlib.Core.Bool.{Bool, true, false, cond}
use mathlib.Core.Path.{◌≡◌, refl, sym, ap, ◌∙◌}
use mathlib.Core.List.{List, [], ◌∷◌, ◌++◌, append_assoc}
use native.Mathlib.Omega.{arith}
use native.Mathlib.Nat.{add-zero}
use lib.ListN.{length, drop, length-append, length-drop}
use lib.Seq.{drop_at, drop-drop}
use Rattle.wire.specs.Number.{Bytes}
use Rattle.list.specs.Limits.{list_limit}
use Rattle.list.specs.Tree.{Elements}
use Rattle.list.specs.Bytes.{list_bytes}
use Rattle.list.specs.Parse.{good, parse}
use Rattle.list_decode.specs.Decode.{Outcome, outcome, roomy}
use Rattle.stream.specs.Step.{Found, step_of}
use Rattle.stream.specs.Series.{Lending, consumed_by, series}
use Rattle.stream.specs.Run.{LegalRun, run_bytes, StartsNone, passed_over, handed_over, behind, handing}
use Rattle.stream.proofs.Steps.{step-short, step_end, step-found, step-fault, series-next}
use Rattle.stream.proofs.Runs.{some_bytes, Refuses, refused, reads-front}

-- no byte follows, or bytes that list reading refuses
abbrev pub Closed : List ℕ → Type 0
Closed [] = Unit {0}
Closed (b ∷ rest) = Refuses (b ∷ rest)

pub closed : (rest : List ℕ) → Bytes rest → StartsNone rest → Closed rest
closed [] b n = tt
closed (x ∷ rest) b n = refused (x ∷ rest) b n

module _ (s : List ℕ) (offset : ℕ) (l : Lending) (r : roomy l.rows l.store ≡ true) where
  -- a step with enough room where a legal list stands
  step-list : (es : Elements) (x : List ℕ) → parse list_limit (list_bytes es ++ x) ≡ good es (length (list_bytes es)) → drop offset s ≡ list_bytes es ++ x
      → step_of s offset l.rows l.store ≡ handed_over es l
  step-list es x p h =
      let inside : offset < length s = omega (arith, some_bytes es, simp (length-drop, length-append) at (ap length h)) in
      step-found s offset l.rows l.store r inside es (length (list_bytes es)) (ap (parse list_limit) h ∙ p)

  -- a step with enough room behind the run
  step-behind : (rest : List ℕ) → Closed rest → offset ≤ length s → drop offset s ≡ rest
      → step_of s offset l.rows l.store ≡ outcome (behind offset rest) l.rows l.store
  step-behind [] w f h = step_end s offset l.rows l.store r (omega (arith, simp length-drop at (ap length h)))
  step-behind (b ∷ rest) w f h =
      let inside : offset < length s = omega (arith, simp length-drop at (ap length h)) in
      step-fault s offset l.rows l.store r inside w.0 (ap (parse list_limit) h ∙ w.1) ∙ rw w.1

-- a step lent too little is refused and the next one is at the same offset
pub passed_over_lem : (s : List ℕ) (offset : ℕ) (l : Lending) (ls : List Lending) (later : List (Outcome Found))
    → roomy l.rows l.store ≡ false → series s offset ls ≡ later → series s offset (l ∷ ls) ≡ passed_over l ∷ later
passed_over_lem s offset l ls later r ih =
    series-next s offset l ls (passed_over l) (step-short s offset l.rows l.store r)
    ∙ ap (λ (z : List (Outcome Found)). passed_over l ∷ z) (rw add-zero ih)

-- nothing is consumed behind the run
behind-stays : (size : ℕ) (rest : List ℕ) → Closed rest → consumed_by (behind size rest) ≡ 0
behind-stays size [] w = refl
behind-stays size (b ∷ rest) w = rw w.1

module _ (s rest : List ℕ) (last : Found) (ends : Closed rest) where
  pub from-offset : (lendings : List Lending) (run : List Elements) (offset : ℕ)
      → LegalRun run → offset ≤ length s → drop offset s ≡ run_bytes run ++ rest → last ≡ behind (offset + length (run_bytes run)) rest
      → series s offset lendings ≡ handing run last lendings
  unfolding handing series
  from-offset [] run offset l f h e = refl
  from-offset (a ∷ lendings) [] offset l f h e = go (roomy a.rows a.store) refl (from-offset lendings [] offset l f h e)
    where
      go : (b : Bool) → roomy a.rows a.store ≡ b → series s offset lendings ≡ handing [] last lendings
          → series s offset (a ∷ lendings) ≡ cond b (outcome last a.rows a.store) (passed_over a) ∷ handing [] last lendings
      go false r ih = passed_over_lem s offset a lendings (handing [] last lendings) r ih
      go true r ih =
          let here : last ≡ behind offset rest = e ∙ ap (λ (z : ℕ). behind z rest) (add-zero offset) in
          let stays : consumed_by last ≡ 0 = ap consumed_by here ∙ behind-stays offset rest ends in
          let o : Outcome Found = outcome last a.rows a.store in
          series-next s offset a lendings o (step-behind s offset a r rest ends f h ∙ rw here)
          ∙ ap (λ (z : List (Outcome Found)). o ∷ z) (rw (stays, add-zero) ih)
  from-offset (a ∷ lendings) (es ∷ run) offset l f h e =
      go (roomy a.rows a.store) refl
      (from-offset lendings (es ∷ run) offset l f h e)
      (from-offset lendings run (offset + length (list_bytes es)) l.1)
    where
      go : (b : Bool) → roomy a.rows a.store ≡ b → series s offset lendings ≡ handing (es ∷ run) last lendings
          → (offset + length (list_bytes es) ≤ length s → drop (offset + length (list_bytes es)) s ≡ run_bytes run ++ rest
          → last ≡ behind (offset + length (list_bytes es) + length (run_bytes run)) rest
          → series s (offset + length (list_bytes es)) lendings ≡ handing run last lendings)
          → series s offset (a ∷ lendings) ≡ cond b (handed_over es a ∷ handing run last lendings) (passed_over a ∷ handing (es ∷ run) last lendings)
      go false r ih next = passed_over_lem s offset a lendings (handing (es ∷ run) last lendings) r ih
      go true r ih next =
          let x : List ℕ = run_bytes run ++ rest in
          let n : ℕ = length (list_bytes es) in
          let front : drop offset s ≡ list_bytes es ++ x = h ∙ append_assoc (list_bytes es) (run_bytes run) rest in
          let after : drop (offset + n) s ≡ x = sym (drop-drop n offset s) ∙ ap (drop n) front ∙ drop_at (list_bytes es) x n refl in
          let fits : offset + n ≤ length s = omega (arith, some_bytes es, simp (length-drop, length-append) at (ap length front)) in
          let size : offset + length (list_bytes es ++ run_bytes run) ≡ offset + n + length (run_bytes run) = omega (arith, length-append (list_bytes es) (run_bytes run)) in
          series-next s offset a lendings (handed_over es a) (step-list s offset a r es x (reads-front es x l.0) front)
          ∙ ap (λ (z : List (Outcome Found)). handed_over es a ∷ z) (next fits after (e ∙ ap (λ (z : ℕ). behind z rest) size))
