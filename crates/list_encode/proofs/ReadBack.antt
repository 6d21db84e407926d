-- The public reader and the public writer undo each other: demand 2, over the definitions that their contracts cite.
use Prim.Native.Nat.{ℕ, ◌*◌, ◌/◌, ◌≤◌}
use mathlib.Core.Path.{◌≡◌, refl, sym, ap, ◌∙◌}
use mathlib.Core.Bool.{Bool, true, false, cond}
use mathlib.Core.List.{List, ◌++◌}
use native.Mathlib.Omega.{arith}
use lib.ListN.{length, take}
use Rattle.wire.specs.Number.{Bytes}
use Rattle.wire.specs.Area.{over}
use Rattle.list.specs.Limits.{list_limit}
use Rattle.list.specs.Tree.{Elements}
use Rattle.list.specs.Rows.{list_rows, list_store, row_count}
use Rattle.list.specs.RowBytes.{packed}
use Rattle.list.specs.Refusal.{refusal}
use Rattle.list.specs.Parse.{Parsed, good, bad, parse}
use Rattle.list.proofs.RowBound.{row-numbers}
use Rattle.list.proofs.RowBytes.{packed-length}
use Rattle.list_decode.specs.Decode.{Reading, roomy, decoding_of}
use Rattle.list_decode.specs.Decode as reader
use Rattle.list_rows.specs.Described.{row_width}
use Rattle.list_encode.specs.Encode.{written, outcome, encoding_of}
use Rattle.list_encode.proofs.RoundTrips.{take-over, written-reads-back, read-writes-back}

-- the reader's outcome, by what `parse` finds
decodes :
    (s rows store : List ℕ) (es : Elements) (n : ℕ) → roomy rows store ≡ true → parse list_limit s ≡ good es n
    → decoding_of s rows store ≡ reader.outcome (reader.accepted n (row_count es) (length (list_store es))) (over (packed (list_rows es)) rows) (over (list_store es) store)
unfolding decoding_of
decodes s rows store es n r p = rw (r, p)

rows-bytes : (es : Elements) → row_width * row_count es ≡ length (packed (list_rows es))
rows-bytes es = omega (arith, row-numbers es, packed-length (list_rows es))

same_outcome : (n : ℕ) {k m : ℕ} {xs ys us vs : List ℕ} (rows store : List ℕ) → k ≡ m → xs ≡ ys → us ≡ vs
    → reader.outcome (reader.accepted n k (length us)) (over xs rows) (over us store) ≡ reader.outcome (reader.accepted n m (length vs)) (over ys rows) (over vs store)
same_outcome n rows store p q r = rw (p, q, r)

-- LAW: what was written, with anything behind it, is read back as the same rows and the same store bytes
pub written-decodes :
    (rows store buffer rest : List ℕ) (n : ℕ) → Bytes rows → Bytes store → (encoding_of rows store buffer).result ≡ written n
    → (rows' store' : List ℕ) → roomy rows' store' ≡ true
    → decoding_of (take n (encoding_of rows store buffer).buffer ++ rest) rows' store'
    ≡ reader.outcome (reader.accepted n (length rows / row_width) (length store)) (over rows rows') (over store store')
written-decodes rows store buffer rest n w b h rows' store' r =
    let x = written-reads-back rows store buffer rest n w b h in
    let k : row_count x.0 ≡ length rows / row_width = omega (arith, rows-bytes x.0, ap length x.2) in
    decodes _ rows' store' x.0 n r x.1 ∙ same_outcome n rows' store' k x.2 x.3

-- what the reader answered for a list: of what list, and what its buffers hold
record ListRead (s rows store : List ℕ) (n k u : ℕ) : Type 0 where
  es : Elements
  parsed : parse list_limit s ≡ good es n
  many : k ≡ row_count es
  used : u ≡ length (list_store es)
  rows_are : (decoding_of s rows store).rows ≡ over (packed (list_rows es)) rows
  store_is : (decoding_of s rows store).store ≡ over (list_store es) store

list_read : (s rows store : List ℕ) (n k u : ℕ) → (decoding_of s rows store).answer ≡ reader.accepted n k u → ListRead s rows store n k u
unfolding decoding_of
list_read s rows store n k u h = go (roomy rows store) refl (parse list_limit s) refl h
  where
    go : (b : Bool) → roomy rows store ≡ b → (p : Parsed Elements) → parse list_limit s ≡ p
        → (cond b (reader.answered rows store p) (reader.outcome (reader.refused (refusal 20 0)) rows store)).answer ≡ reader.accepted n k u
        → ListRead s rows store n k u
    go false e p q g = absurd (let z : ◌≡◌ {A = ℕ} 0 1 = cc in omega arith)
    go true e (bad r) q g = absurd (let z : ◌≡◌ {A = ℕ} 0 1 = cc in omega arith)
    go true e (good es m) q g =
        let same : m ≡ n = cc in
        let rows_same : row_count es ≡ k = cc in
        let used-same : length (list_store es) ≡ u = cc in
        let all = decodes s rows store es m e q in
        record {
          es = es;
          parsed = q ∙ ap (good es) same;
          many = sym rows_same;
          used = sym used-same;
          rows_are = ap (λ (o : reader.Outcome Reading). o.rows) all;
          store_is = ap (λ (o : reader.Outcome Reading). o.store) all;
        }

-- LAW: the rows and the store bytes that the reader filled, as many as it answered, are written as the bytes that were read
pub decoded-encodes :
    (s rows store buffer : List ℕ) (n k u : ℕ) → Bytes s → list_limit ≤ length buffer → (decoding_of s rows store).answer ≡ reader.accepted n k u
    → encoding_of (take (row_width * k) (decoding_of s rows store).rows) (take u (decoding_of s rows store).store) buffer
    ≡ outcome (written n) (over (take n s) buffer)
decoded-encodes s rows store buffer n k u b room h =
    let x = list_read s rows store n k u h in
    let es : Elements = x.es in
    let size : row_width * k ≡ length (packed (list_rows es)) = ap (λ (z : ℕ). row_width * z) x.many ∙ rows-bytes es in
    let rows_back : take (row_width * k) (decoding_of s rows store).rows ≡ packed (list_rows es) =
    ap (take (row_width * k)) x.rows_are ∙ take-over (packed (list_rows es)) rows (row_width * k) size in
    let store-back : take u (decoding_of s rows store).store ≡ list_store es = ap (take u) x.store_is ∙ take-over (list_store es) store u x.used in
    rw (rows_back, store-back) (read-writes-back s buffer es n b room x.parsed)
