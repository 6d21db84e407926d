-- Only legal lists that have a text are written as text, and reading a text and writing one undo each other, over the definitions that
-- the two calls' contracts cite.
use Prim.Native.Nat.{ℕ, ◌-◌, ◌*◌, ◌/◌, ◌≤◌}
use mathlib.Core.Path.{◌≡◌, refl, sym, ap, ◌∙◌}
use mathlib.Core.Bool.{Bool, true, false, cond}
use mathlib.Core.List.{List, ◌++◌}
use native.Mathlib.Omega.{arith}
use lib.Dec.{ltb}
use lib.ListN.{length, take}
use borrow.Author.Tests.{ltb-false}
use Rattle.wire.specs.Number.{Bytes}
use Rattle.wire.specs.Area.{over}
use Rattle.list.specs.Limits.{list_limit, depth_limit}
use Rattle.list.specs.Tree.{Elements}
use Rattle.list.specs.Bytes.{list_bytes}
use Rattle.list.specs.Rows.{list_rows, list_store, row_count}
use Rattle.list.specs.RowBytes.{packed}
use Rattle.list.specs.Legal.{Legal}
use Rattle.list.proofs.Complete.{complete}
use Rattle.list.proofs.RowBound.{row-numbers}
use Rattle.list.proofs.RowBytes.{packed-length}
use Rattle.list_rows.specs.Described.{row_width}
use Rattle.list_rows.specs.Judge.{Verdict, to_write, sized}
use Rattle.list_rows.specs.Judge as judge
use Rattle.list_rows.proofs.Judging.{to_write_lem}
use Rattle.list_rows.proofs.Legality.{listed-exactly, writable-legal, legal-listed}
use Rattle.list_decode.specs.Decode.{roomy}
use Rattle.list_decode.specs.Decode as reader
use Rattle.list_decode.proofs.Answers.{decoding-found}
use Rattle.list_encode.specs.Encode.{Outcome, outcome, written, refused}
use Rattle.list_encode.proofs.RoundTrips.{take-over}
use Rattle.text.specs.Text.{text_room, list_text}
use Rattle.text.specs.Form.{all_have_form, WithText}
use Rattle.text.proofs.Readings.{form-exactly}
use Rattle.text_decode.specs.Decode.{Reading, accepted, decoding_of}
use Rattle.text_decode.specs.Decode as texts
use Rattle.text_decode.proofs.Answers.{decoding-short, text-decodes, Decodes, decodes-text}
use Rattle.text_encode.specs.Encode.{with_form, emitted, encoding_of}
use Rattle.text_encode.proofs.Encoding.{after-room}
use Rattle.text_encode.proofs.Exactly.{legal-encoded}

-- WHAT WAS WRITTEN
-- a list that list writing accepts, that has a text form, and whose text has n characters
abbrev Spelt : Verdict Elements → ℕ → Type 0
Spelt v n = (es : Elements) × (v ≡ judge.accepted es) × (all_have_form es ≡ true) × (n ≡ length (list_text es))

-- a result is that of a list
emitted-kept : (area : List ℕ) (v : Verdict Elements) (n : ℕ) → (emitted area (with_form v)).result ≡ written n → Spelt v n
emitted-kept area (judge.refused number) n h = absurd (let z : ◌≡◌ {A = ℕ} 0 1 = cc in omega arith)
emitted-kept area (judge.accepted es) n h = go (all_have_form es) refl h
  where
    go : (b : Bool) → all_have_form es ≡ b → (emitted area (cond b (judge.accepted es) (judge.refused 31))).result ≡ written n → Spelt (judge.accepted es) n
    go false f g = absurd (let z : ◌≡◌ {A = ℕ} 0 1 = cc in omega arith)
    go true f g = let e : length (list_text es) ≡ n = cc in (es, refl, f, sym e)

room-kept : (rows store area : List ℕ) (n : ℕ) → (encoding_of rows store area).result ≡ written n → (text_room ≤ length area) × Spelt (to_write rows store) n
unfolding encoding_of
room-kept rows store area n = go (ltb (length area) text_room) refl
  where
    go : (b : Bool) → ltb (length area) text_room ≡ b
        → (cond b (outcome (refused 20) area) (emitted area (with_form (to_write rows store)))).result ≡ written n
        → (text_room ≤ length area) × Spelt (to_write rows store) n
    go true e h = absurd (let z : ◌≡◌ {A = ℕ} 0 1 = cc in omega arith)
    go false e h = (ltb-false (length area) text_room e, emitted-kept area (to_write rows store) n h)

accepted-is : {es fs : Elements} → judge.accepted es ≡ judge.accepted fs → es ≡ fs
accepted-is h = cc

-- an accepted list is legal, and rows and store are its
accepted-legal : (rows store : List ℕ) (es : Elements) → Bytes rows → Bytes store → to_write rows store ≡ judge.accepted es
    → Legal list_limit es × (rows ≡ packed (list_rows es)) × (store ≡ list_store es)
accepted-legal rows store es w b h =
    let x = to_write_lem rows store (length (list_bytes es)) (sym (ap sized h)) in
    let same : x.es ≡ es = accepted-is (sym x.verdict ∙ h) in
    let t = (listed-exactly rows store x.es w b).0 x.is-list in
    let l : Legal list_limit x.es = (writable-legal x.es (depth_limit - 1) t.3.1 (omega (arith, x.shallow)), x.short) in
    rw (sym same) (l, t.0, t.1)

-- what is written as text, and of what list
pub record WrittenText (rows store area : List ℕ) (n : ℕ) : Type 0 where
  pub es : Elements
  pub legal : Legal list_limit es
  pub with-text : WithText es
  pub rows_are : rows ≡ packed (list_rows es)
  pub store_is : store ≡ list_store es
  pub size : n ≡ length (list_text es)
  pub all : encoding_of rows store area ≡ outcome (written (length (list_text es))) (over (list_text es) area)
  pub only : (fs : Elements) → Legal list_limit fs → rows ≡ packed (list_rows fs) → store ≡ list_store fs → fs ≡ es

-- LAW: what is written as text is of exactly one list, which is legal and has a text, and it is written as that text
pub text-written : (rows store area : List ℕ) (n : ℕ) → Bytes rows → Bytes store → (encoding_of rows store area).result ≡ written n → WrittenText rows store area n
text-written rows store area n w b h =
    let k = room-kept rows store area n h in
    let es : Elements = k.1.0 in
    let x = accepted-legal rows store es w b k.1.1 in
    record {
      es = es;
      legal = x.0;
      with-text = (form-exactly (depth_limit - 1) es x.0.0).0 k.1.2;
      rows_are = x.1;
      store_is = x.2;
      size = k.1.3;
      all = after-room rows store area k.0 ∙ ap (λ (v : Verdict Elements). emitted area (with_form v)) k.1.1 ∙ rw k.1.2;
      only = λ fs l p q. accepted-is (sym (legal-listed fs l) ∙ rw (sym p, sym q) k.1.1);
    }

-- READ BACK
same_outcome : {k m : ℕ} {xs ys us vs : List ℕ} (rows store : List ℕ) → k ≡ m → xs ≡ ys → us ≡ vs
    → reader.outcome (accepted k (length us)) (over xs rows) (over us store) ≡ reader.outcome (accepted m (length vs)) (over ys rows) (over vs store)
same_outcome rows store p q r = rw (p, q, r)

-- LAW: what was written as text is read back as the same rows and the same store bytes
pub text-written-decodes :
    (rows store area : List ℕ) (n : ℕ) → Bytes rows → Bytes store → (encoding_of rows store area).result ≡ written n
    → (rows' store' : List ℕ) → roomy rows' store' ≡ true
    → decoding_of (take n (encoding_of rows store area).buffer) rows' store'
    ≡ reader.outcome (accepted (length rows / row_width) (length store)) (over rows rows') (over store store')
text-written-decodes rows store area n w b h rows' store' r =
    let x = text-written rows store area n w b h in
    let es : Elements = x.es in
    let t : take n (encoding_of rows store area).buffer ≡ list_text es =
    ap (λ (o : Outcome). take n o.buffer) x.all ∙ take-over (list_text es) area n x.size in
    let k : row_count es ≡ length rows / row_width = omega (arith, row-numbers es, packed-length (list_rows es), ap length x.rows_are) in
    ap (λ (s : List ℕ). decoding_of s rows' store') t ∙ text-decodes es x.legal x.with-text rows' store' r
    ∙ same_outcome rows' store' k (sym x.rows_are) (sym x.store_is)

-- WRITTEN AGAIN
-- what was read, and of what list
text-read : (s rows store : List ℕ) (k u : ℕ) → (decoding_of s rows store).answer ≡ accepted k u
    → Decodes s rows store k u (decoding_of s rows store).rows (decoding_of s rows store).store
text-read s rows store k u h = go (roomy rows store) refl
  where
    go : (b : Bool) → roomy rows store ≡ b → Decodes s rows store k u (decoding_of s rows store).rows (decoding_of s rows store).store
    go false e =
        let a : texts.refused 20 ≡ accepted k u = sym (ap (λ (o : reader.Outcome Reading). o.answer) (decoding-short s rows store e)) ∙ h in
        absurd (let z : ◌≡◌ {A = ℕ} 0 1 = cc in omega arith)
    go true e =
        decodes-text s rows store k u _ _ e
        (ap (λ (a : Reading). reader.outcome a (decoding_of s rows store).rows (decoding_of s rows store).store) h)

-- LAW: the rows and the store bytes that were read from a text, as many as was answered, are written as the characters that were read
pub text-decoded-encodes :
    (s rows store area : List ℕ) (k u : ℕ) → text_room ≤ length area → (decoding_of s rows store).answer ≡ accepted k u
    → encoding_of (take (row_width * k) (decoding_of s rows store).rows) (take u (decoding_of s rows store).store) area
    ≡ outcome (written (length s)) (over s area)
text-decoded-encodes s rows store area k u room h =
    let x = text-read s rows store k u h in
    let es : Elements = x.es in
    let size : row_width * k ≡ length (packed (list_rows es)) = omega (arith, x.counts.0, row-numbers es, packed-length (list_rows es)) in
    let rows_back : take (row_width * k) (decoding_of s rows store).rows ≡ packed (list_rows es) =
    ap (take (row_width * k)) x.rows_are ∙ take-over (packed (list_rows es)) rows (row_width * k) size in
    let store-back : take u (decoding_of s rows store).store ≡ list_store es = ap (take u) x.store_is ∙ take-over (list_store es) store u x.counts.1 in
    rw (rows_back, store-back) (legal-encoded es area x.legal x.with-text room)
    ∙ ap (λ (z : List ℕ). outcome (written (length z)) (over z area)) (sym x.is)

-- BOTH FORMS
-- LAW: a legal list and its text: reading its bytes, with anything behind them, and reading its text fill the same rows and the same store
pub bytes-text-alike :
    (es : Elements) (rest rows store : List ℕ) → Legal list_limit es → WithText es → roomy rows store ≡ true
    → ((reader.decoding_of (list_bytes es ++ rest) rows store).rows ≡ (decoding_of (list_text es) rows store).rows)
    × ((reader.decoding_of (list_bytes es ++ rest) rows store).store ≡ (decoding_of (list_text es) rows store).store)
bytes-text-alike es rest rows store l w r =
    let p = decoding-found (list_bytes es ++ rest) rows store es (length (list_bytes es)) r (complete list_limit es rest (omega arith) l) in
    let q = text-decodes es l w rows store r in (
      ap (λ (o : reader.Outcome reader.Reading). o.rows) p ∙ sym (ap (λ (o : reader.Outcome Reading). o.rows) q),
      ap (λ (o : reader.Outcome reader.Reading). o.store) p ∙ sym (ap (λ (o : reader.Outcome Reading). o.store) q),
    )
