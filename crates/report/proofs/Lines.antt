-- What a program prints for any bytes, as a run of lists and what follows it, whatever the line of a list is: by induction on the run, from
-- any offset at which a list of it or the rest begins.
use Prim.Native.Nat.{ℕ, zero, suc, ◌+◌, ◌≤◌, ◌<◌}
use mathlib.Core.Path.{◌≡◌, refl, sym, ap, ◌∙◌}
use mathlib.Core.List.{List, [], ◌∷◌, ◌++◌, append_assoc}
use native.Mathlib.Omega.{arith}
use native.Mathlib.Nat.{add-zero}
use lib.ListN.{length, drop, length-append, length-drop}
use lib.Seq.{drop_at, drop-drop}
use borrow.Author.Tests.{eq-eqb, ne_eqb, lt-ltb, le-ltb}
use Rattle.wire.specs.Number.{Bytes}
use Rattle.list.specs.Limits.{list_limit}
use Rattle.list.specs.Tree.{Elements}
use Rattle.list.specs.Bytes.{list_bytes}
use Rattle.list.specs.Legal.{Legal}
use Rattle.stream.specs.Run.{LegalRun, run_bytes, StartsNone, behind}
use Rattle.stream.proofs.Runs.{some_bytes, reads-front}
use Rattle.stream.proofs.Handing.{Closed, closed}
use Rattle.report.specs.Limits.{input_limit}
use Rattle.report.specs.Text.{list_lines, last_line, too_long, printed, text_from, text_of, program_text}

many-bytes : (run : List Elements) → length run ≤ length (run_bytes run)
many-bytes [] = omega arith
many-bytes (es ∷ run) = omega (arith, many-bytes run, some_bytes es, length-append (list_bytes es) (run_bytes run))

-- `line` makes the line of a list of its number and its tree
module _ (line : ℕ → Elements → List ℕ) where
  line-behind : (s : List ℕ) (offset k fuel : ℕ) (rest : List ℕ) → Closed rest → offset ≤ length s → drop offset s ≡ rest
      → text_from line (suc fuel) s offset k ≡ last_line offset (behind offset rest)
  unfolding text_from
  line-behind s offset k fuel [] w f h = rw (eq-eqb offset (length s) (omega (arith, simp length-drop at (ap length h))))
  line-behind s offset k fuel (b ∷ rest) w f h =
      let inside : offset < length s = omega (arith, simp length-drop at (ap length h)) in
      rw (ne_eqb offset (length s) (λ e. omega arith), h, w.1)

  first-line : (s : List ℕ) (offset k fuel : ℕ) (es : Elements) (x : List ℕ) → offset < length s → drop offset s ≡ list_bytes es ++ x → Legal list_limit es
      → text_from line (suc fuel) s offset k ≡ line k es ++ text_from line fuel s (offset + length (list_bytes es)) (suc k)
  unfolding text_from
  first-line s offset k fuel es x f h l = rw (ne_eqb offset (length s) (λ e. omega arith), h, reads-front es x l)

  lines_from : (run : List Elements) (s rest : List ℕ) (offset k fuel : ℕ) → LegalRun run → Closed rest → offset ≤ length s
      → drop offset s ≡ run_bytes run ++ rest → length run < fuel
      → text_from line fuel s offset k ≡ list_lines line k run ++ last_line (offset + length (run_bytes run)) (behind (offset + length (run_bytes run)) rest)
  lines_from run s rest offset k zero l w f h g = absurd (omega arith)
  lines_from [] s rest offset k (suc fuel) l w f h g =
      line-behind s offset k fuel rest w f h ∙ ap (λ (z : ℕ). last_line z (behind z rest)) (sym (add-zero offset))
  lines_from (es ∷ run) s rest offset k (suc fuel) l w f h g =
      let x : List ℕ = run_bytes run ++ rest in
      let n : ℕ = length (list_bytes es) in
      let front : drop offset s ≡ list_bytes es ++ x = h ∙ append_assoc (list_bytes es) (run_bytes run) rest in
      let after : drop (offset + n) s ≡ x = sym (drop-drop n offset s) ∙ ap (drop n) front ∙ drop_at (list_bytes es) x n refl in
      let fits : offset + n ≤ length s = omega (arith, some_bytes es, simp (length-drop, length-append) at (ap length front)) in
      let inside : offset < length s = omega (arith, some_bytes es) in
      let size : offset + n + length (run_bytes run) ≡ offset + length (list_bytes es ++ run_bytes run) = omega (arith, length-append (list_bytes es) (run_bytes run)) in
      let rest_of = lines_from run s rest (offset + n) (suc k) fuel l.1 w fits after (omega arith) in
      first-line s offset k fuel es x inside front l.0
      ∙ ap (λ (z : List ℕ). line k es ++ z) (rest_of ∙ ap (λ (z : ℕ). list_lines line (suc k) run ++ last_line z (behind z rest)) size)
      ∙ sym (append_assoc (line k es) (list_lines line (suc k) run) _)

  -- the text for a run and bytes that start with no legal list
  pub text-printed : (run : List Elements) (rest : List ℕ) → LegalRun run → Bytes rest → StartsNone rest
      → text_of line (run_bytes run ++ rest) ≡ printed line run rest
  text-printed run rest l b n =
      lines_from run (run_bytes run ++ rest) rest 0 1 (suc (length (run_bytes run ++ rest))) l (closed rest b n) (omega arith) refl
      (omega (arith, many-bytes run, length-append (run_bytes run) rest))
      ∙ ap (λ (z : ℕ). list_lines line 1 run ++ last_line z (behind z rest)) (omega arith)

  -- the limit of the input
  pub within-limit : (s : List ℕ) → length s ≤ input_limit → program_text line s ≡ text_of line s
  unfolding program_text
  within-limit s h = rw (le-ltb input_limit (length s) h)

  pub over-limit : (s : List ℕ) → input_limit < length s → program_text line s ≡ too_long
  unfolding program_text
  over-limit s h = rw (lt-ltb input_limit (length s) h)

  -- LAW: what a program prints for a run and bytes that start with no legal list, within the limit
  pub program-printed :
      (run : List Elements) (rest : List ℕ) → LegalRun run → Bytes rest → StartsNone rest → length (run_bytes run ++ rest) ≤ input_limit
      → program_text line (run_bytes run ++ rest) ≡ printed line run rest
  program-printed run rest l b n h = within-limit (run_bytes run ++ rest) h ∙ text-printed run rest l b n
