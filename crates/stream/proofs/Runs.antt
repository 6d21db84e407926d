-- Runs of lists and their bytes: two different runs never have equal bytes, and any bytes are a run and a rest that starts with no legal list.
use Prim.Native.Nat.{ℕ, zero, suc, ◌≤◌}
use mathlib.Core.Path.{◌≡◌, refl, sym, ap, ◌∙◌}
use mathlib.Core.List.{List, [], ◌∷◌, ◌++◌, append_assoc}
use native.Mathlib.Omega.{arith}
use lib.ListN.{length, drop, length-append, length-drop}
use Rattle.wire.specs.Number.{Bytes}
use Rattle.list.specs.Limits.{list_limit}
use Rattle.list.specs.Tree.{Elements}
use Rattle.list.specs.Bytes.{list_bytes}
use Rattle.list.specs.Legal.{Legal}
use Rattle.list.specs.Refusal.{Refusal}
use Rattle.list.specs.Parse.{Parsed, good, bad, parse}
use Rattle.list.proofs.Items.{bytes_drop}
use Rattle.list.proofs.RowBound.{list-size}
use Rattle.list.proofs.Complete.{complete}
use Rattle.list.proofs.Sound.{sound}
use Rattle.list.proofs.OneImage.{same-front, no-list-opens}
use Rattle.stream.specs.Run.{LegalRun, run_bytes, Opens, StartsNone}

-- a list has at least its code and its count
pub some_bytes : (es : Elements) → 8 ≤ length (list_bytes es)
some_bytes es = omega (arith, list-size es)

-- no byte at all starts with no legal list
pub none-starts : StartsNone []
none-starts es l o = omega (arith, some_bytes es, simp length-append at (ap length o.1))

-- bytes that list reading refuses
abbrev pub Refuses : List ℕ → Type 0
Refuses s = (r : Refusal) × (parse list_limit s ≡ bad r)

-- bytes as a run, and behind it a rest that starts with no legal list
pub record Split (s : List ℕ) : Type 0 where
  pub run : List Elements
  pub rest : List ℕ
  pub legal : LegalRun run
  pub bytes : Bytes rest
  pub ends : StartsNone rest
  pub whole : s ≡ run_bytes run ++ rest

-- a legal list at the front is found, whatever follows it
pub reads-front : (es : Elements) (x : List ℕ) → Legal list_limit es → parse list_limit (list_bytes es ++ x) ≡ good es (length (list_bytes es))
reads-front es x l = complete list_limit es x (omega arith) l

-- "Two different runs of lists never have equal bytes"
pub runs-injective : (run other : List Elements) → LegalRun run → LegalRun other → run_bytes run ≡ run_bytes other → run ≡ other
runs-injective [] [] l m h = refl
runs-injective [] (fs ∷ other) l m h = absurd (omega (arith, some_bytes fs, simp length-append at (ap length h)))
runs-injective (es ∷ run) [] l m h = absurd (omega (arith, some_bytes es, simp length-append at (ap length h)))
runs-injective (es ∷ run) (fs ∷ other) l m h =
    let s = same-front list_limit es fs (run_bytes run) (run_bytes other) (omega arith) l.0 m.0 h in
    rw (s.0, runs-injective run other l.1 m.1 s.1)

-- "No list's bytes open another list's bytes": where they do, the two lists are one
pub no-list-opens-another : (es fs : Elements) → Legal list_limit es → Legal list_limit fs → Opens (list_bytes es) (list_bytes fs) → es ≡ fs
no-list-opens-another es fs l m o = no-list-opens list_limit es fs o.0 (omega arith) l m o.1

-- bytes that start with no legal list are refused, and only these
pub refused : (s : List ℕ) → Bytes s → StartsNone s → Refuses s
refused s b none = go (parse list_limit s) refl
  where
    go : (p : Parsed Elements) → parse list_limit s ≡ p → Refuses s
    go (bad r) e = (r, e)
    go (good es n) e = let w = sound list_limit s es n b e in absurd (none es w.0 (drop n s, w.2))

pub starts_none : (s : List ℕ) (r : Refusal) → parse list_limit s ≡ bad r → StartsNone s
starts_none s r h es l o =
    let g : bad r ≡ good es (length (list_bytes es)) = sym h ∙ ap (parse list_limit) o.1 ∙ reads-front es o.0 l in
    let z : ◌≡◌ {A = ℕ} 0 1 = cc in
    omega arith

split-within : (n : ℕ) (s : List ℕ) → Bytes s → length s ≤ n → Split s
split-within zero [] b h = record { run = []; rest = []; legal = tt; bytes = tt; ends = none-starts; whole = refl }
split-within zero (x ∷ s) b h = absurd (omega arith)
split-within (suc n) s b h = go (parse list_limit s) refl (λ k c d. split-within n k c d)
  where
    go : (p : Parsed Elements) → parse list_limit s ≡ p → ((k : List ℕ) → Bytes k → length k ≤ n → Split k) → Split s
    go (bad r) e ih = record { run = []; rest = s; legal = tt; bytes = b; ends = starts_none s r e; whole = refl }
    go (good es m) e ih =
        let w = sound list_limit s es m b e in
        let d : length (drop m s) ≤ n = omega (arith, length-drop m s, w.1, some_bytes es) in
        let r = ih (drop m s) (bytes_drop m s b) d in
        record {
          run = es ∷ r.run;
          rest = r.rest;
          legal = (w.0, r.legal);
          bytes = r.bytes;
          ends = r.ends;
          whole = w.2 ∙ ap (λ (z : List ℕ). list_bytes es ++ z) r.whole ∙ sym (append_assoc (list_bytes es) (run_bytes r.run) r.rest);
        }

-- any bytes are a run, and behind it bytes that start with no legal list, or none
pub any-bytes : (s : List ℕ) → Bytes s → Split s
any-bytes s b = split-within (length s) s b (omega arith)
