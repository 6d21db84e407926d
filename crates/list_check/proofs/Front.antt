-- Laws of the list at the front: its bytes may be cut at the limit, an empty list and ints that are all there are judged at once, and a typed list by its elements.
use Prim.Native.Nat.{ℕ, ◌+◌, ◌*◌, ◌^◌, ◌≤◌, ◌<◌, min}
use mathlib.Core.Path.{◌≡◌, refl, sym, ap, ◌∙◌}
use mathlib.Core.Bool.{Bool, true, false}
use mathlib.Core.List.{List}
use native.Mathlib.Omega.{arith}
use lib.Dec.{ltb}
use lib.ListN.{length, take}
use lib.Seq.{take_all}
use borrow.Author.Tests.{ltb-true, ltb-false, lt-leb}
use Rattle.list.specs.declared.Kind.{Kind}
use Rattle.list.specs.declared.Kind.TheVariants.{Int}
use Rattle.list.specs.Limits.{list_limit, depth_limit}
use Rattle.list.specs.Kind.{list_code, typed_code}
use Rattle.list.specs.Refusal.{refusal}
use Rattle.list.specs.Bytes.{code_for}
use Rattle.list.specs.Parse.{in_list, word, typed_at, is_list_code, list_at, parse}
use Rattle.list.proofs.Codes.{mixed-is-code, typed-is-code}
use Rattle.list.proofs.TypedRun.{typed-run}
use Rattle.list.proofs.Cut.{cut}
use Rattle.list.proofs.Shallow.{parse-shallow}
use Rattle.list.proofs.Sound.{within}
use Rattle.list_check.specs.Check.{accepted, refused, judged}
use Rattle.list_check.specs.Steps.{told_by, depth_of, number_in, IsFault, close_of}
use Rattle.list_check.proofs.Told.{told-depth, told-fault, there}
use Rattle.list_check.proofs.Typed.{typed-some}
use Rattle.list_check.proofs.Mixed.{is-typed, is-mixed, mixed-done}

-- the bytes up to the limit
pub part_same : (s : List ℕ) (end : ℕ) → end ≡ min (length s) list_limit → parse list_limit (take end s) ≡ parse list_limit s
part_same s end is = go (ltb list_limit (length s)) refl
  where
    go : (b : Bool) → ltb list_limit (length s) ≡ b → parse list_limit (take end s) ≡ parse list_limit s
    go true e = let n : end ≡ list_limit = omega (arith, ltb-true list_limit (length s) e) in rw n (cut list_limit s)
    go false e = ap (parse list_limit) (take_all end s (omega (arith, ltb-false list_limit (length s) e)))

-- at most as many lists are open at a refusal as may stand in one another
pub parse-depth : (s : List ℕ) (bits : ℕ) → told_by bits ≡ judged (parse list_limit s) → depth_of bits ≤ depth_limit
parse-depth s bits is = told-depth bits depth_limit (parse list_limit s) is (λ r e. parse-shallow list_limit s r e)

-- and its number is one that judging finds
pub parse-fault : (s : List ℕ) (bits : ℕ) → told_by bits ≡ judged (parse list_limit s) → list_limit < bits → IsFault (number_in bits)
parse-fault s bits is = told-fault bits (parse list_limit s) is (λ r e. let w = within list_limit s r e in (w.low, w.high))

module _ (s : List ℕ) (short : length s ≤ list_limit) (in₈ : 8 ≤ length s) (code count : ℕ) (w : code ≡ word s 0) (n : count ≡ word s 4) where
  pub front-list : is_list_code code ≡ true → judged (parse list_limit s) ≡ judged (list_at depth_limit list_limit s 0 code)
  unfolding parse
  front-list e = rw (there s 0 4 short (omega arith), ← w, e)

  pub front-other : is_list_code code ≡ false → judged (parse list_limit s) ≡ refused (refusal 22 0)
  unfolding parse
  front-other e = rw (there s 0 4 short (omega arith), ← w, e)

  pub front-empty : code ≡ list_code → count ≡ 0 → judged (parse list_limit s) ≡ accepted 8
  unfolding close_of code_for
  front-empty c z =
      let l = ap is_list_code c ∙ mixed-is-code in
      front-list l
      ∙ is-mixed depth_limit s 0 code count (λ e. omega arith) short in₈ n (lt-leb (2 ^ 31) count (omega arith)) c
      ∙ mixed-done _ s 0 count 0 8 (omega arith)

  -- a typed list that has an element
  pub front-typed : (k : Kind) → code ≡ typed_code k → 0 < count → count < 2 ^ 31 → judged (parse list_limit s) ≡ judged (in_list (typed_at list_limit s k count 8))
  front-typed k c some low =
      front-list (ap is_list_code c ∙ typed-is-code k)
      ∙ sym (is-typed depth_limit s 0 code count (λ e. omega arith) short in₈ n (lt-leb (2 ^ 31) count low) k c)
      ∙ sym (typed-some s k 0 count 8 some)

  pub front-ints : code ≡ typed_code Int → 0 < count → 8 + 4 * count ≤ length s → judged (parse list_limit s) ≡ accepted (8 + 4 * count)
  front-ints c some h = front-typed Int c some (omega arith) ∙ ap (λ p. judged (in_list p)) (typed-run list_limit s Int count 8 tt (omega arith) h)
