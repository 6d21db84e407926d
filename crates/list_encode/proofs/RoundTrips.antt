-- Every legal list is written, only legal lists are, and reading and writing undo each other.
use Prim.Native.Nat.{ℕ, ◌-◌, ◌≤◌}
use mathlib.Core.Path.{◌≡◌, refl, sym, ap, ◌∙◌}
use mathlib.Core.Bool.{Bool, true, false, cond}
use mathlib.Core.List.{List, ◌++◌}
use native.Mathlib.Omega.{arith}
use lib.Dec.{ltb}
use lib.ListN.{length, take, drop}
use lib.Seq.{take_at}
use borrow.Author.Tests.{ltb-false}
use Rattle.wire.specs.Number.{Bytes}
use Rattle.wire.specs.Area.{over}
use Rattle.list.specs.Limits.{list_limit, depth_limit}
use Rattle.list.specs.Tree.{Elements}
use Rattle.list.specs.Bytes.{list_bytes}
use Rattle.list.specs.Rows.{list_rows, list_store}
use Rattle.list.specs.RowBytes.{packed}
use Rattle.list.specs.Legal.{Legal}
use Rattle.list.specs.Parse.{good, parse}
use Rattle.list.proofs.Complete.{complete}
use Rattle.list.proofs.Sound.{sound}
use Rattle.list_rows.specs.Judge.{Verdict, accepted, to_write, sized}
use Rattle.list_rows.specs.Judge as judge
use Rattle.list_rows.proofs.Judging.{to_write_lem}
use Rattle.list_rows.proofs.Legality.{listed-exactly, writable-legal, legal-listed}
use Rattle.list_encode.specs.Encode.{written, refused, Outcome, outcome, emitted, encoding_of}
use Rattle.list_encode.proofs.Encoding.{after-room}

-- the outcome of a list that is written
abbrev written_as : Elements → List ℕ → Outcome
written_as es buffer = outcome (written (length (list_bytes es))) (over (list_bytes es) buffer)

-- LAW: every legal list is written, where there is room
pub legal-written :
    (es : Elements) (buffer : List ℕ) → Legal list_limit es → list_limit ≤ length buffer
    → encoding_of (packed (list_rows es)) (list_store es) buffer ≡ written_as es buffer
legal-written es buffer l room = after-room (packed (list_rows es)) (list_store es) buffer room ∙ ap (emitted buffer) (legal-listed es l)

-- what is written, and of what list
pub record WrittenList (rows store buffer : List ℕ) (n : ℕ) : Type 0 where
  pub es : Elements
  pub legal : Legal list_limit es
  pub rows_are : rows ≡ packed (list_rows es)
  pub store_is : store ≡ list_store es
  pub size : n ≡ length (list_bytes es)
  pub all : encoding_of rows store buffer ≡ written_as es buffer

-- a result is that of a list
emitted-kept : (buffer : List ℕ) (v : Verdict Elements) (n : ℕ) → (emitted buffer v).result ≡ written n → accepted n ≡ sized v
emitted-kept buffer (judge.accepted es) n h = let e : length (list_bytes es) ≡ n = cc in ap accepted (sym e)
emitted-kept buffer (judge.refused number) n h = absurd (let z : ◌≡◌ {A = ℕ} 0 1 = cc in omega arith)

room-kept : (rows store buffer : List ℕ) (n : ℕ) → (encoding_of rows store buffer).result ≡ written n
    → (list_limit ≤ length buffer) × (accepted n ≡ sized (to_write rows store))
unfolding encoding_of
room-kept rows store buffer n = go (ltb (length buffer) list_limit) refl
  where
    go : (b : Bool) → ltb (length buffer) list_limit ≡ b → (cond b (outcome (refused 20) buffer) (emitted buffer (to_write rows store))).result ≡ written n
        → (list_limit ≤ length buffer) × (accepted n ≡ sized (to_write rows store))
    go true e h = absurd (let z : ◌≡◌ {A = ℕ} 0 1 = cc in omega arith)
    go false e h = (ltb-false (length buffer) list_limit e, emitted-kept buffer (to_write rows store) n h)

-- LAW: only legal lists are written, and as their bytes
pub written-legal : (rows store buffer : List ℕ) (n : ℕ) → Bytes rows → Bytes store → (encoding_of rows store buffer).result ≡ written n → WrittenList rows store buffer n
written-legal rows store buffer n w b h =
    let k = room-kept rows store buffer n h in
    let x = to_write_lem rows store n k.1 in
    let t = (listed-exactly rows store x.es w b).0 x.is-list in
    record {
      es = x.es;
      legal = (writable-legal x.es (depth_limit - 1) t.3.1 (omega (arith, x.shallow)), x.short);
      rows_are = t.0;
      store_is = t.1;
      size = x.size;
      all = after-room rows store buffer k.0 ∙ ap (emitted buffer) x.verdict;
    }

pub take-over : (bs buffer : List ℕ) (n : ℕ) → n ≡ length bs → take n (over bs buffer) ≡ bs
take-over bs buffer n h = take_at bs (drop (length bs) buffer) n (sym h)

-- LAW: what was written, with anything behind it, reads back as the list with those rows and that store
pub written-reads-back :
    (rows store buffer rest : List ℕ) (n : ℕ) → Bytes rows → Bytes store → (encoding_of rows store buffer).result ≡ written n
    → (es : Elements) × (parse list_limit (take n (encoding_of rows store buffer).buffer ++ rest) ≡ good es n) × (packed (list_rows es) ≡ rows) × (list_store es ≡ store)
written-reads-back rows store buffer rest n w b h =
    let x = written-legal rows store buffer n w b h in
    let es : Elements = x.es in
    let t : take n (encoding_of rows store buffer).buffer ≡ list_bytes es =
    ap (λ (o : Outcome). take n o.buffer) x.all ∙ take-over (list_bytes es) buffer n x.size in (
      es,
      ap (λ (z : List ℕ). parse list_limit (z ++ rest)) t ∙ complete list_limit es rest (omega arith) x.legal ∙ ap (good es) (sym x.size),
      sym x.rows_are,
      sym x.store_is,
    )

-- LAW: the rows and store of a list that was read are written as the bytes that were read
pub read-writes-back :
    (s buffer : List ℕ) (es : Elements) (n : ℕ) → Bytes s → list_limit ≤ length buffer → parse list_limit s ≡ good es n
    → encoding_of (packed (list_rows es)) (list_store es) buffer ≡ outcome (written n) (over (take n s) buffer)
read-writes-back s buffer es n b room h =
    let x = sound list_limit s es n b h in
    let t : take n s ≡ list_bytes es = ap (take n) x.2 ∙ take_at (list_bytes es) (drop n s) n (sym x.1) in
    legal-written es buffer x.0 room ∙ ap (λ (z : List ℕ). outcome (written (length z)) (over z buffer)) (sym t)
    ∙ ap (λ (z : ℕ). outcome (written z) (over (take n s) buffer)) (ap length t ∙ sym x.1)
