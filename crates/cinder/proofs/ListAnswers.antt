-- The answers of the calls that fill rows and store in numbers; what the list call answers to a legal list; and the depth of a refusal.
use Prim.Native.Nat.{ℕ, ◌+◌, ◌-◌, ◌*◌, ◌≤◌, ◌<◌}
use mathlib.Core.Path.{◌≡◌, refl, sym, ap, ◌∙◌}
use mathlib.Core.Bool.{Bool, true, false, cond}
use mathlib.Core.List.{List, ◌++◌}
use native.Mathlib.Omega.{arith}
use native.Mathlib.Nat.{zero-add}
use lib.ListN.{length}
use Rattle.wire.specs.Area.{over}
use Rattle.list.specs.Limits.{list_limit, row_room, store_room}
use Rattle.list.specs.Tree.{Elements}
use Rattle.list.specs.Bytes.{list_bytes}
use Rattle.list.specs.Rows.{list_rows, list_store, row_count}
use Rattle.list.specs.RowBytes.{packed}
use Rattle.list.specs.Legal.{Legal}
use Rattle.list.specs.Refusal.{Refusal, refusal, moved}
use Rattle.list.specs.Parse.{Parsed, good, bad, parse}
use Rattle.list.specs.Open.{depth_at}
use Rattle.list.proofs.Complete.{complete}
use Rattle.list.proofs.Sound.{within}
use Rattle.list.proofs.Depth.{depth-open}
use Rattle.list_decode.specs.Decode.{Outcome, outcome, refused, roomy, answered, decoding_of}
use Rattle.list_decode.proofs.Answers.{enough}
use Rattle.stream.specs.Step.{answered_by}
use Rattle.cinder.specs.declared.list_call.ListResult.{ListResult}
use Rattle.cinder.specs.ListCall.{list_read, list_refused, list_numbers, list_call}

-- what a call answers, by the case x of the answer a that it was given
pub in-numbers : {A B R : Type 0} (words : A → R) (told : B → A) (a x : B) (r : R) (rows store : List ℕ) (o : Outcome A)
    → a ≡ x → r ≡ words (told x) → outcome (told a) rows store ≡ o → outcome r rows store ≡ answered_by words o
in-numbers {A} {B} {R} words told a x r rows store o is e h =
    ap (λ (z : R). outcome z rows store) (e ∙ ap (λ (z : B). words (told z)) (sym is)) ∙ ap (answered_by words) h

-- a legal list, with anything behind it, is answered by its sizes, and its rows and store bytes stand at the front of the areas
pub list-complete : (es : Elements) (rest rows store : List ℕ) → 4 * row_room ≤ length rows → store_room ≤ length store → Legal list_limit es
    → list_call (list_bytes es ++ rest) rows store
    ≡ outcome (list_read (length (list_bytes es)) (row_count es) (length (list_store es))) (over (packed (list_rows es)) rows) (over (list_store es) store)
unfolding list_call decoding_of
list-complete es rest rows store h g l = rw (enough rows store h g, complete list_limit es rest (omega arith) l)

-- the depth of an answer on the bytes s, which stand behind `front` others: that of the lists open at a fault in them, and 0 for 20 and where
-- there is no error
pub record DepthTold (s : List ℕ) (front : ℕ) (a : ListResult) : Type 0 where
  pub fine : a.error ≡ 0 → a.depth ≡ 0
  pub room : a.error ≡ 20 → a.depth ≡ 0
  pub fault : (a.error ≡ 0 → ⊥) → (a.error ≡ 20 → ⊥) → (front ≤ a.offset) × (a.depth ≡ depth_at s a.error (a.offset - front))

pub read_told : (s : List ℕ) (front consumed rows stored : ℕ) → DepthTold s front (list_read consumed rows stored)
read_told s front consumed rows stored = record { fine = λ e. refl; room = λ e. refl; fault = λ h g. absurd (h refl) }

pub short-told : (s : List ℕ) (front : ℕ) → DepthTold s front (list_refused (refusal 20 0))
short-told s front = record { fine = λ e. refl; room = λ e. refl; fault = λ h g. absurd (g refl) }

pub fault-told : (s : List ℕ) (front : ℕ) (r : Refusal) → 20 < r.number → r.depth ≡ depth_at s r.number r.offset
    → DepthTold s front (list_refused (moved front r))
fault-told s front r low d = record {
  fine = λ e. absurd (omega arith);
  room = λ e. absurd (omega arith);
  fault = λ h g.
      let same : front + r.offset - front ≡ r.offset = omega arith in
      (omega arith, d ∙ ap (depth_at s r.number) (sym same));
}

pub parse-told : (s : List ℕ) (front : ℕ) (r : Refusal) → parse list_limit s ≡ bad r → DepthTold s front (list_refused (moved front r))
parse-told s front r e = fault-told s front r (within list_limit s r e).low (depth-open list_limit s r e)

-- LAW: the list call tells the depth
pub list-depth : (bytes rows store : List ℕ) → DepthTold bytes 0 (list_call bytes rows store).answer
unfolding list_call decoding_of
list-depth bytes rows store = go (roomy rows store) (parse list_limit bytes) refl
  where
    go : (b : Bool) (p : Parsed Elements) → parse list_limit bytes ≡ p
        → DepthTold bytes 0 (list_numbers (cond b (answered rows store p) (outcome (refused (refusal 20 0)) rows store)).answer)
    go false p e = short-told bytes 0
    go true (good es n) e = read_told bytes 0 n (row_count es) (length (list_store es))
    go true (bad r) e = rw zero-add at (parse-told bytes 0 r e)
