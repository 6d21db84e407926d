-- Demand 3: runs of lists have bytes of their own, and every series of steps over any bytes is the expected one.
use Prim.Native.Nat.{ℕ}
use mathlib.Core.Bool.{true, false}
use mathlib.Core.Path.{◌≡◌, refl, sym, ap, ◌∙◌}
use mathlib.Core.List.{List, [], ◌∷◌, ◌++◌, append_assoc}
use native.Mathlib.Omega.{arith}
use lib.ListN.{length}
use Rattle.wire.specs.Number.{Bytes}
use Rattle.list.specs.Limits.{list_limit}
use Rattle.list.specs.Tree.{Elements}
use Rattle.list.specs.Bytes.{list_bytes}
use Rattle.list.specs.Rows.{list_rows, list_store}
use Rattle.list.specs.Legal.{Legal}
use Rattle.list.specs.Refusal.{Refusal, moved}
use Rattle.list.specs.Parse.{bad, parse}
use Rattle.list.specs.Open.{depth_at}
use Rattle.list.proofs.Same.{same-exactly}
use Rattle.list.proofs.Depth.{depth-open}
use Rattle.list_decode.specs.Decode as decode
use Rattle.list_decode.specs.Decode.{outcome, roomy, decoding_of}
use Rattle.stream.specs.Step as step
use Rattle.stream.specs.Series.{Lending, series}
use Rattle.stream.specs.Run.{LegalRun, run_bytes, Opens, StartsNone, passed_over, behind, expected}
use Rattle.stream.proofs.Runs.{Split, runs-injective, no-list-opens-another, refused, any-bytes}
use Rattle.stream.proofs.Handing.{closed, passed_over_lem, from-offset}

-- a run followed by any bytes: the lists that these begin with, and what follows those
pub record Followed (run : List Elements) (rest : List ℕ) : Type 0 where
  pub more : List Elements
  pub last : List ℕ
  pub legal : LegalRun more
  pub ends : StartsNone last
  pub whole : rest ≡ run_bytes more ++ last
  pub handed : (lendings : List Lending) → series (run_bytes run ++ rest) 0 lendings ≡ expected (run ++ more) last lendings

-- how list reading refuses bytes alone, and what a step behind a run of `size` bytes answers for them
pub record Fault (rest : List ℕ) : Type 0 where
  pub refusal : Refusal
  pub found : parse list_limit rest ≡ bad refusal
  pub alone : (rows store : List ℕ) → roomy rows store ≡ true → decoding_of rest rows store ≡ outcome (decode.refused refusal) rows store
  pub behind_run : (size : ℕ) → behind size rest ≡ step.refused (moved size refusal)
  -- "the number of lists open at the fault", by those bytes alone: every list of the run is closed
  pub depth : refusal.depth ≡ depth_at rest refusal.number refusal.offset

pub record Demand3 : Type 0 where
  -- "Two different runs of lists never have equal bytes": trees hold the elements, their nesting and kinds, numbers, float bits and bytes
  pub injective : (run other : List Elements) → LegalRun run → LegalRun other → run_bytes run ≡ run_bytes other → run ≡ other
  -- "two differ exactly when their rows or store bytes in use differ"
  pub exactly : (es fs : Elements)
      → ((list_rows es ≡ list_rows fs) × (list_store es ≡ list_store fs) → es ≡ fs) × (es ≡ fs → (list_rows es ≡ list_rows fs) × (list_store es ≡ list_store fs))
  -- "No list's bytes open another list's bytes."
  pub none-opens : (es fs : Elements) → Legal list_limit es → Legal list_limit fs → Opens (list_bytes es) (list_bytes fs) → es ≡ fs
  -- "For every series of run steps, refused ones included, the first lists handed over are exactly the run's, in order"; "Behind the last
  -- list, if no byte follows, the answer is the end. If bytes follow that start with no legal list, the lists before them are still handed
  -- over the same."
  pub whole : (run : List Elements) (rest : List ℕ) → LegalRun run → Bytes rest → StartsNone rest
      → (lendings : List Lending) → series (run_bytes run ++ rest) 0 lendings ≡ expected run rest lendings
  -- "The refusal then has the number that those bytes get alone, and it names the place of the fault: its place in them plus the length of
  -- the run."; "Each list-reading refusal is to carry the number of lists open at the fault"
  pub fault : (b : ℕ) (rest : List ℕ) → Bytes (b ∷ rest) → StartsNone (b ∷ rest) → Fault (b ∷ rest)
  -- "Read a run from the front, whatever bytes follow it."
  pub follows : (run : List Elements) (rest : List ℕ) → LegalRun run → Bytes rest → Followed run rest
  -- "A step refused for its room costs no list": over any bytes the next step is at the same offset
  pub costs-none : (s : List ℕ) (offset : ℕ) (l : Lending) (ls : List Lending) → roomy l.rows l.store ≡ false
      → series s offset (l ∷ ls) ≡ passed_over l ∷ series s offset ls
  -- any bytes are a run and a rest that starts with no legal list, so `whole` speaks of every input
  pub covers : (s : List ℕ) → Bytes s → Split s

legal-append : (run more : List Elements) → LegalRun run → LegalRun more → LegalRun (run ++ more)
legal-append [] more l m = m
legal-append (es ∷ run) more l m = (l.0, legal-append run more l.1 m)

bytes-append : (run more : List Elements) → run_bytes (run ++ more) ≡ run_bytes run ++ run_bytes more
bytes-append [] more = refl
bytes-append (es ∷ run) more = rw (bytes-append run more) (sym (append_assoc (list_bytes es) (run_bytes run) (run_bytes more)))

-- every series of steps over a run, with no byte behind it or bytes that start with no legal list
pub series-expected : (run : List Elements) (rest : List ℕ) → LegalRun run → Bytes rest → StartsNone rest
    → (lendings : List Lending) → series (run_bytes run ++ rest) 0 lendings ≡ expected run rest lendings
series-expected run rest l b n lendings =
    from-offset (run_bytes run ++ rest) rest (behind (length (run_bytes run)) rest) (closed rest b n) lendings run 0 l
    (omega arith) refl (ap (λ (z : ℕ). behind z rest) (omega arith))

pub fault-alone : (b : ℕ) (rest : List ℕ) → Bytes (b ∷ rest) → StartsNone (b ∷ rest) → Fault (b ∷ rest)
unfolding decoding_of
fault-alone b rest h n =
    let w = refused (b ∷ rest) h n in
    record {
      refusal = w.0;
      found = w.1;
      alone = λ rows store r. rw (r, w.1);
      behind_run = λ size. rw w.1;
      depth = depth-open list_limit (b ∷ rest) w.0 w.1;
    }

pub lists-first : (run : List Elements) (rest : List ℕ) → LegalRun run → Bytes rest → Followed run rest
lists-first run rest l b =
    let w = any-bytes rest b in
    let same : run_bytes run ++ rest ≡ run_bytes (run ++ w.run) ++ w.rest =
    ap (λ (z : List ℕ). run_bytes run ++ z) w.whole ∙ sym (append_assoc (run_bytes run) (run_bytes w.run) w.rest)
    ∙ ap (λ (z : List ℕ). z ++ w.rest) (sym (bytes-append run w.run)) in
    record {
      more = w.run;
      last = w.rest;
      legal = w.legal;
      ends = w.ends;
      whole = w.whole;
      handed = λ lendings. ap (λ (z : List ℕ). series z 0 lendings) same
          ∙ series-expected (run ++ w.run) w.rest (legal-append run w.run l w.legal) w.bytes w.ends lendings;
    }

pub demand-3 : Demand3
demand-3 = record {
  injective = runs-injective;
  exactly = same-exactly;
  none-opens = no-list-opens-another;
  whole = series-expected;
  fault = fault-alone;
  follows = lists-first;
  costs-none = λ s offset l ls r. passed_over_lem s offset l ls (series s offset ls) r refl;
  covers = any-bytes;
}
