-- One step by its cases, in 01's order, and a series by its first step.
use Prim.Native.Nat.{ℕ, ◌+◌, ◌-◌, ◌*◌, ◌≤◌, ◌<◌}
use mathlib.Core.Bool.{Bool, true, false, cond, ◌&&◌}
use mathlib.Core.Path.{◌≡◌, refl, sym, ap, subst, ◌∙◌}
use mathlib.Core.List.{List, ◌∷◌}
use native.Mathlib.Omega.{arith}
use lib.Dec.{eqb, ltb, leb}
use lib.ListN.{length, take, drop, length-drop}
use lib.Seq.{take_all}
use borrow.Author.Tests.{eq-eqb, ne_eqb, eqb-true, eqb-false, lt-ltb, le-ltb, ltb-true, ltb-false}
use Rattle.wire.specs.Area.{over}
use Rattle.list.specs.Limits.{list_limit, row_room, store_room}
use Rattle.list.specs.Tree.{Elements}
use Rattle.list.specs.Rows.{list_rows, list_store, row_count}
use Rattle.list.specs.RowBytes.{packed}
use Rattle.list.specs.Refusal.{Refusal, refusal, moved}
use Rattle.list.specs.Parse.{Parsed, good, bad, parse}
use Rattle.list.proofs.RowBytes.{room-bytes}
use Rattle.list.proofs.Sound.{within}
use Rattle.list_decode.specs.Decode as decode
use Rattle.list_decode.specs.Decode.{Outcome, outcome, Reading, roomy, answered, decoding_of, reading_of}
use Rattle.stream.specs.Step.{Found, accepted, ended, refused, from_front, answered_by, step_of}
use Rattle.stream.specs.Series.{Lending, consumed_by, series}

-- 20 in bytes: a number has four
pub room : (rows store : List ℕ) → roomy rows store ≡ (leb (4 * row_room) (length rows) && leb store_room (length store))
unfolding roomy
room rows store = rw (room-bytes row_room rows)

-- where the item at fault stands, 0 where there is none
abbrev pub fault_of : Reading → ℕ
fault_of (decode.accepted consumed rows stored) = 0
fault_of (decode.refused f) = f.offset

-- it is never past the end
fault-within : (s rows store : List ℕ) → fault_of (decoding_of s rows store).answer ≤ length s
unfolding decoding_of
fault-within s rows store = go (roomy rows store) (parse list_limit s) refl
  where
    go : (b : Bool) (p : Parsed Elements) → parse list_limit s ≡ p
        → fault_of (cond b (answered rows store p) (outcome (decode.refused (refusal 20 0)) rows store)).answer ≤ length s
    go false p e = omega arith
    go true (good es n) e = omega arith
    go true (bad g) e = (within list_limit s g e).inside

module _ (s : List ℕ) (offset : ℕ) (rows store : List ℕ) where
  pub step-short : roomy rows store ≡ false → step_of s offset rows store ≡ outcome (refused (refusal 20 0)) rows store
  unfolding step_of
  step-short r = rw r

  pub step_past : roomy rows store ≡ true → length s < offset → step_of s offset rows store ≡ outcome (refused (refusal 21 offset)) rows store
  unfolding step_of
  step_past r h = rw (r, lt-ltb (length s) offset h)

  pub step_end : roomy rows store ≡ true → offset ≡ length s → step_of s offset rows store ≡ outcome ended rows store
  unfolding step_of
  step_end r e = rw (r, le-ltb (length s) offset (omega arith), eq-eqb offset (length s) e)

  module _ (r : roomy rows store ≡ true) (h : offset < length s) where
    step_in : step_of s offset rows store ≡ answered_by (from_front offset) (decoding_of (drop offset s) rows store)
    unfolding step_of
    step_in = rw (r, le-ltb (length s) offset (omega arith), ne_eqb offset (length s) (λ e. omega arith))

    step-parsed : (p : Parsed Elements) → parse list_limit (drop offset s) ≡ p → step_of s offset rows store ≡ answered_by (from_front offset) (answered rows store p)
    unfolding decoding_of
    step-parsed p e = step_in ∙ rw (r, e)

    pub step-found : (es : Elements) (n : ℕ) → parse list_limit (drop offset s) ≡ good es n
        → step_of s offset rows store ≡ outcome (accepted n (row_count es) (length (list_store es))) (over (packed (list_rows es)) rows) (over (list_store es) store)
    step-found es n e = step-parsed (good es n) e

    pub step-fault : (f : Refusal) → parse list_limit (drop offset s) ≡ bad f → step_of s offset rows store ≡ outcome (refused (moved offset f)) rows store
    step-fault f e = step-parsed (bad f) e

    -- by what list reading answered for the bytes that `&bytes[offset..]` lends
    module _ (d : Reading) (rows' store' : List ℕ)
        (o : outcome d rows' store' ≡ decoding_of (take (length s - offset) (drop offset s)) rows store) where
      read : outcome d rows' store' ≡ decoding_of (drop offset s) rows store
      read =
          let all = take_all (length s - offset) (drop offset s) (omega (arith, length-drop offset s)) in
          o ∙ ap (λ (z : List ℕ). decoding_of z rows store) all

      pub step-read : outcome (from_front offset d) rows' store' ≡ step_of s offset rows store
      step-read = ap (answered_by (from_front offset)) read ∙ sym step_in

      -- a refusal's offset is not past the end
      pub read-within : offset + fault_of d ≤ length s
      read-within = omega (arith, ap (λ (z : Outcome Reading). fault_of z.answer) read, fault-within (drop offset s) rows store, length-drop offset s)

-- a step by cases: what holds of each of its outcomes holds of it
pub step-cases : (P : Outcome Found → Type 0) (s : List ℕ) (offset : ℕ) (rows store : List ℕ)
    → P (outcome (refused (refusal 20 0)) rows store)
    → (length s < offset → P (outcome (refused (refusal 21 offset)) rows store))
    → (offset ≡ length s → P (outcome ended rows store))
    → ((es : Elements) (n : ℕ) → parse list_limit (drop offset s) ≡ good es n
    → P (outcome (accepted n (row_count es) (length (list_store es))) (over (packed (list_rows es)) rows) (over (list_store es) store)))
    → ((f : Refusal) → parse list_limit (drop offset s) ≡ bad f → P (outcome (refused (moved offset f)) rows store))
    → P (step_of s offset rows store)
step-cases P s offset rows store short past ends found fault = room (roomy rows store) refl
  where
    inside : roomy rows store ≡ true → offset < length s → (p : Parsed Elements) → parse list_limit (drop offset s) ≡ p → P (step_of s offset rows store)
    inside r h (good es n) e = subst P (sym (step-found s offset rows store r h es n e)) (found es n e)
    inside r h (bad f) e = subst P (sym (step-fault s offset rows store r h f e)) (fault f e)

    order : roomy rows store ≡ true → (a b : Bool) → ltb (length s) offset ≡ a → eqb offset (length s) ≡ b → P (step_of s offset rows store)
    order r true b k d = let h = ltb-true (length s) offset k in subst P (sym (step_past s offset rows store r h)) (past h)
    order r false true k d = let e = eqb-true offset (length s) d in subst P (sym (step_end s offset rows store r e)) (ends e)
    order r false false k d =
        inside r (omega (arith, ltb-false (length s) offset k, eqb-false offset (length s) d)) (parse list_limit (drop offset s)) refl

    room : (b : Bool) → roomy rows store ≡ b → P (step_of s offset rows store)
    room true r = order r (ltb (length s) offset) (eqb offset (length s)) refl refl
    room false r = subst P (sym (step-short s offset rows store r)) short

-- the first step's outcome, and the series from the offset that it leads to
pub series-next : (s : List ℕ) (offset : ℕ) (l : Lending) (ls : List Lending) (o : Outcome Found)
    → step_of s offset l.rows l.store ≡ o → series s offset (l ∷ ls) ≡ o ∷ series s (offset + consumed_by o.answer) ls
unfolding series
series-next s offset l ls o e = rw e
