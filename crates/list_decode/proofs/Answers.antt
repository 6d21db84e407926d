-- What reading a list promises, case by case.
use Prim.Native.Nat.{ℕ, ◌*◌, ◌≤◌, ◌<◌}
use mathlib.Core.Path.{◌≡◌, refl, sym, ap, ◌∙◌}
use mathlib.Core.Bool.{Bool, true, false, ◌&&◌}
use mathlib.Core.List.{List, [], ◌++◌, append-nil}
use native.Mathlib.Omega.{arith}
use lib.Dec.{leb}
use lib.ListN.{length, take, drop}
use lib.Seq.{take_at, length-take-le}
use borrow.Author.Tests.{le-leb, lt-leb}
use Rattle.wire.specs.Number.{Bytes}
use Rattle.wire.specs.Area.{over}
use Rattle.list.specs.Limits.{list_limit, row_room, store_room}
use Rattle.list.specs.Tree.{Elements}
use Rattle.list.specs.Bytes.{list_bytes}
use Rattle.list.specs.Rows.{row_count, list_rows, list_store}
use Rattle.list.specs.RowBytes.{packed, unpacked}
use Rattle.list.specs.Refusal.{Refusal, refusal}
use Rattle.list.specs.Parse.{Parsed, good, bad, parse}
use Rattle.list.proofs.RowBytes.{room-bytes}
use Rattle.list.proofs.Sound.{sound, reaches}
use Rattle.list.proofs.Complete.{complete}
use Rattle.list_check.specs.Check.{checking_of}
use Rattle.list_check.specs.Check as check
use Rattle.list_check.proofs.Promised.{was_read}
use Rattle.list_decode.specs.declared.fill.Amounts.{Amounts}
use Rattle.list_decode.specs.Decode.{accepted, refused, outcome, roomy, answered, decoding_of}
use Rattle.list_decode.specs.Pieces.{tree, Judged, Filled}

and-false : (b : Bool) → (b && false) ≡ false
and-false true = refl
and-false false = refl

-- room, in bytes
module _ (rows store : List ℕ) where
  pub few-rows : length rows < 4 * row_room → roomy rows store ≡ false
  unfolding roomy
  few-rows h = rw (room-bytes row_room rows, lt-leb (4 * row_room) (length rows) h)

  pub small-store : length store < store_room → roomy rows store ≡ false
  unfolding roomy
  small-store h = rw (lt-leb store_room (length store) h, and-false (leb row_room (length (unpacked rows))))

  pub enough : 4 * row_room ≤ length rows → store_room ≤ length store → roomy rows store ≡ true
  unfolding roomy
  enough h g = rw (room-bytes row_room rows, le-leb (4 * row_room) (length rows) h, le-leb store_room (length store) g)

-- what is promised
module _ (s rows store : List ℕ) where
  pub decoding-short : roomy rows store ≡ false → decoding_of s rows store ≡ outcome (refused (refusal 20 0)) rows store
  unfolding decoding_of
  decoding-short r = rw r

  pub decoding-read : roomy rows store ≡ true → decoding_of s rows store ≡ answered rows store (parse list_limit s)
  unfolding decoding_of
  decoding-read r = rw r

  pub decoding-fault : (r : Refusal) → roomy rows store ≡ true → parse list_limit s ≡ bad r → decoding_of s rows store ≡ outcome (refused r) rows store
  decoding-fault r e p = decoding-read e ∙ rw p

  pub decoding-found : (es : Elements) (n : ℕ) → roomy rows store ≡ true → parse list_limit s ≡ good es n
      → decoding_of s rows store ≡ outcome (accepted n (row_count es) (length (list_store es))) (over (packed (list_rows es)) rows) (over (list_store es) store)
  decoding-found es n e p = decoding-read e ∙ rw p

-- what judging tells of what is read
pub told-end : (s : List ℕ) (end : ℕ) → check.accepted end ≡ checking_of s → parse list_limit s ≡ good (tree (parse list_limit s)) end
told-end s end h = let w = was_read (parse list_limit s) end (sym h) in w.1 ∙ ap (λ (p : Parsed Elements). good (tree p) end) (sym w.1)

-- a list is read from its own bytes as it is with others behind them
module _ (s : List ℕ) (n : ℕ) (all : Bytes s) (judged : parse list_limit s ≡ good (tree (parse list_limit s)) n) where
  abbrev own : List ℕ
  own = take n s

  own_same : parse list_limit own ≡ parse list_limit s
  own_same =
      let es : Elements = tree (parse list_limit s) in
      let g = sound list_limit s es n all judged in
      let t : take n s ≡ list_bytes es ++ [] = ap (take n) g.2 ∙ take_at (list_bytes es) (drop n s) n (sym g.1) ∙ sym (append-nil (list_bytes es)) in
      rw t (complete list_limit es [] (omega arith) g.0 ∙ ap (good es) (sym g.1) ∙ sym judged)

  pub own-length : length own ≡ n
  own-length = length-take-le n s (reaches list_limit s _ n judged).1

  module _ (rows store : List ℕ) (h : 4 * row_room ≤ length rows) (g : store_room ≤ length store) where
    pub own-judged : Judged own rows store
    own-judged = record { whole = rw (own_same, own-length) judged; row_room = h; store_room = g }

    pub own-answered : (m : Amounts) (rows' store' : List ℕ) → Filled own rows store m rows' store'
        → outcome (accepted n m.rows m.stored) rows' store' ≡ decoding_of s rows store
    own-answered m rows' store' e =
        ap (λ (k : ℕ). outcome (accepted k m.rows m.stored) rows' store') (sym own-length)
        ∙ e ∙ ap (answered rows store) own_same ∙ sym (decoding-read s rows store (enough rows store h g))
