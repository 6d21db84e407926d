-- When the call gives 31, and what it writes of a legal list.
use Prim.Native.Nat.{ℕ, ◌≤◌, ◌<◌}
use mathlib.Core.Path.{◌≡◌, refl, sym, ap, ◌∙◌}
use mathlib.Core.Bool.{Bool, true, false, cond}
use mathlib.Core.Logic.{◌↔◌}
use mathlib.Core.List.{List}
use mathlib.Core.Option.{Option, some}
use mathlib.Core.Option as option
use native.Mathlib.Omega.{arith}
use lib.Dec.{ltb}
use lib.ListN.{length}
use borrow.Author.Tests.{ltb-true, ltb-false}
use Rattle.wire.specs.Area.{over}
use Rattle.list.specs.Limits.{list_limit, depth_limit}
use Rattle.list.specs.Tree.{Elements}
use Rattle.list.specs.Bytes.{list_bytes}
use Rattle.list.specs.Rows.{list_rows, list_store}
use Rattle.list.specs.RowBytes.{packed}
use Rattle.list.specs.Legal.{Legal}
use Rattle.list_rows.specs.Described.{list_in}
use Rattle.list_rows.specs.Judge.{Verdict, accepted, depth, fitting, judged, to_write}
use Rattle.list_rows.specs.Judge as judge
use Rattle.list_rows.proofs.Legality.{legal-listed}
use Rattle.list_encode.specs.Encode.{outcome, written, refused}
use Rattle.text.specs.Text.{text_room, list_text}
use Rattle.text.specs.Form.{all_have_form, WithText}
use Rattle.text.proofs.Readings.{form-exactly}
use Rattle.text_encode.specs.Encode.{with_form, emitted, encoding_of}
use Rattle.text_encode.proofs.Encoding.{answer-room, after-room}

number_is : {m n : ℕ} → refused m ≡ refused n → m ≡ n
number_is h = cc

-- list writing gives 30, 27 and 28 only
fitting-below : (es : Elements) (number : ℕ) → fitting list_limit es ≡ judge.refused number → number < 31
unfolding fitting
fitting-below es number = go (ltb depth_limit (depth es)) (ltb list_limit (length (list_bytes es)))
  where
    go : (a b : Bool) → cond a (judge.refused 27) (cond b (judge.refused 28) (accepted es)) ≡ judge.refused number → number < 31
    go true b h = let e : 27 ≡ number = cc in omega arith
    go false true h = let e : 28 ≡ number = cc in omega arith
    go false false h = absurd (let z : ◌≡◌ {A = ℕ} 0 1 = cc in omega arith)

writing-below : (o : Option Elements) (number : ℕ) → judged list_limit o ≡ judge.refused number → number < 31
writing-below option.none number h = let e : 30 ≡ number = cc in omega arith
writing-below (some es) number h = fitting-below es number h

-- rows and store of a list that list writing accepts, and that has no text form
abbrev pub Formless : List ℕ → List ℕ → Type 0
Formless rows store = (es : Elements) × ((to_write rows store ≡ accepted es) × (all_have_form es ≡ false))

form-judged : (rows store area : List ℕ) (v : Verdict Elements) → to_write rows store ≡ v → (emitted area (with_form v)).result ≡ refused 31 → Formless rows store
form-judged rows store area (judge.refused number) e h =
    let n : number ≡ 31 = number_is h in
    absurd (omega (arith, writing-below (list_in rows store) number e))
form-judged rows store area (accepted es) e h = go (all_have_form es) refl h
  where
    go : (b : Bool) → all_have_form es ≡ b → (emitted area (cond b (accepted es) (judge.refused 31))).result ≡ refused 31 → Formless rows store
    go true f h = absurd (let z : ◌≡◌ {A = ℕ} 0 1 = cc in omega arith)
    go false f h = (es, (e, f))

-- LAW: 31 is the answer exactly where there is room for a text, and rows and store describe a list that list writing accepts and that has an element without text form
pub encoded-exactly : (rows store area : List ℕ) → ((encoding_of rows store area).result ≡ refused 31) ↔ ((text_room ≤ length area) × Formless rows store)
encoded-exactly rows store area = (to, from)
  where
    to : (encoding_of rows store area).result ≡ refused 31 → (text_room ≤ length area) × Formless rows store
    to h = go (ltb (length area) text_room) refl
      where
        go : (b : Bool) → ltb (length area) text_room ≡ b → (text_room ≤ length area) × Formless rows store
        go true e =
            let s : refused 20 ≡ refused 31 = ap (λ o. o.result) (answer-room rows store area (ltb-true (length area) text_room e)) ∙ h in
            absurd (let n : 20 ≡ 31 = number_is s in omega arith)
        go false e =
            let room : text_room ≤ length area = ltb-false (length area) text_room e in
            (room, form-judged rows store area (to_write rows store) refl (sym (ap (λ o. o.result) (after-room rows store area room)) ∙ h))

    from : (text_room ≤ length area) × Formless rows store → (encoding_of rows store area).result ≡ refused 31
    from x = ap (λ o. o.result) (after-room rows store area x.0) ∙ rw (x.1.1.0, x.1.1.1)

-- LAW: a legal list that has a text form is written as its text, from the bytes of its rows and its store
pub legal-encoded :
    (es : Elements) (area : List ℕ) → Legal list_limit es → WithText es → text_room ≤ length area
    → encoding_of (packed (list_rows es)) (list_store es) area ≡ outcome (written (length (list_text es))) (over (list_text es) area)
legal-encoded es area l w room =
    after-room (packed (list_rows es)) (list_store es) area room
    ∙ ap (λ (v : Verdict Elements). emitted area (with_form v)) (legal-listed es l) ∙ rw ((form-exactly _ es l.0).1 w)
