-- What judging promises, case by case.
use Prim.Native.Nat.{ℕ}
use mathlib.Core.Path.{◌≡◌, sym, ap, ◌∙◌}
use mathlib.Core.List.{List}
use native.Mathlib.Omega.{arith}
use Rattle.std.specs.Prelude.{Result, Ok, Err}
use Rattle.list.specs.declared.Refusal as code
use Rattle.list.specs.Limits.{list_limit}
use Rattle.list.specs.Refusal.{Refusal, refusal_of}
use Rattle.list.specs.Tree.{Elements}
use Rattle.list.specs.Parse.{Parsed, good, bad, parse}
use Rattle.list_check.specs.Check.{accepted, refused, judged, verdict_of, checking_of}

-- what is forgotten
pub was_read : {A : Type 0} (p : Parsed A) (end : ℕ) → judged p ≡ accepted end → (a : A) × (p ≡ good a end)
was_read (good a n) end h = let e : n ≡ end = cc in (a, rw e)
was_read (bad r) end h = absurd (let z : ◌≡◌ {A = ℕ} 0 1 = cc in omega arith)

pub was-bad : {A : Type 0} (p : Parsed A) (r : Refusal) → judged p ≡ refused r → p ≡ bad r
was-bad (good a n) r h = absurd (let z : ◌≡◌ {A = ℕ} 0 1 = cc in omega arith)
was-bad (bad q) r h = let e : q ≡ r = cc in rw e

-- LAW: of a list that is accepted, its elements and where it ends
pub accepted-read : (s : List ℕ) (r : Result ℕ code.Refusal) (end : ℕ) → verdict_of r ≡ checking_of s → r ≡ Ok end → (es : Elements) × (parse list_limit s ≡ good es end)
accepted-read s r end h e = was_read (parse list_limit s) end (sym h ∙ ap verdict_of e)

-- LAW: of any other front, its refusal
pub refused-bad : (s : List ℕ) (r : Result ℕ code.Refusal) (x : code.Refusal) → verdict_of r ≡ checking_of s → r ≡ Err x → parse list_limit s ≡ bad (refusal_of x)
refused-bad s r x h e = was-bad (parse list_limit s) (refusal_of x) (sym h ∙ ap verdict_of e)
