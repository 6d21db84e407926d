-- What reading a text promises, case by case, and that it takes exactly the texts of legal lists.
use Prim.Native.Nat.{ℕ, zero, suc, ◌-◌, ◌≤◌, ◌<◌}
use mathlib.Core.Path.{◌≡◌, refl, sym, ap, ◌∙◌}
use mathlib.Core.Bool.{Bool, true, false, cond}
use mathlib.Core.Logic.{◌↔◌, ◌⊎◌, inl, inr, ⊎_elim}
use mathlib.Core.List.{List}
use mathlib.Core.Option.{Option, some}
use mathlib.Core.Option as option
use native.Mathlib.Omega.{arith}
use lib.Dec.{ltb}
use lib.ListN.{length}
use borrow.Author.Tests.{lt-ltb, le-ltb, ltb-true, ltb-false}
use Rattle.errors.specs.declared.Error.{Error}
use Rattle.errors.specs.Number.{number_of}
use Rattle.errors.proofs.Numbers.{some-number}
use Rattle.wire.specs.Area.{over}
use Rattle.list.specs.Limits.{list_limit, depth_limit}
use Rattle.list.specs.Tree.{Elements, none, value, list}
use Rattle.list.specs.Bytes.{list_bytes}
use Rattle.list.specs.Legal.{LegalElements, Legal}
use Rattle.list.specs.Rows.{list_rows, list_store, row_count}
use Rattle.list.specs.RowBytes.{packed}
use Rattle.list_decode.specs.Decode.{Outcome, outcome, roomy}
use Rattle.list_rows.specs.Judge.{Verdict, nested, depth, fitting}
use Rattle.list_rows.specs.Judge as judge
use Rattle.list_rows.proofs.Legality.{legal-in, legal-listed}
use Rattle.text.specs.Text.{list_text}
use Rattle.text.specs.Form.{WithText}
use Rattle.text.specs.Reading.{reading}
use Rattle.text.proofs.Readings.{reading-complete, reading-sound, text-determines}
use Rattle.text_check.specs.Check.{judged, to_read, error_of}
use Rattle.text_decode.specs.Decode.{Reading, accepted, refused, answered, decoding_of}
use Rattle.text_decode.proofs.Accepting.{fits_both}

-- what is promised
module _ (text rows store : List ℕ) where
  pub decoding-short : roomy rows store ≡ false → decoding_of text rows store ≡ outcome (refused 20) rows store
  unfolding decoding_of
  decoding-short r = rw r

  pub decoding-read : roomy rows store ≡ true → decoding_of text rows store ≡ answered rows store (to_read text)
  unfolding decoding_of
  decoding-read r = rw r

-- an error is a refusal of its number
pub error-refused : (v : Verdict Elements) (e : Error) → number_of e ≡ error_of v → v ≡ judge.refused (number_of e)
error-refused (judge.accepted es) e h = absurd (omega (arith, some-number e))
error-refused (judge.refused number) e h = ap judge.refused (sym h)

-- a list of legal values that is not too deep
with-text-legal : (es : Elements) (d : ℕ) → WithText es → nested es ≤ d → LegalElements d es
with-text-legal none d w h = tt
with-text-legal (value v es) d w h = (w.0, with-text-legal es d w.2 h)
with-text-legal (list inner es) zero w h = absurd (omega arith)
with-text-legal (list inner es) (suc d) w h = (with-text-legal inner d w.0 (omega arith), with-text-legal es (suc d) w.1 (omega arith))

legal-fits : (es : Elements) → Legal list_limit es → fitting list_limit es ≡ judge.accepted es
legal-fits es l = sym (ap (judge.judged list_limit) (legal-in es l)) ∙ legal-listed es l

-- LAW: the text of a legal list is read as that list: its rows and its store bytes are written, and nothing else
pub text-decodes :
    (es : Elements) → Legal list_limit es → WithText es → (rows store : List ℕ) → roomy rows store ≡ true
    → decoding_of (list_text es) rows store
    ≡ outcome (accepted (row_count es) (length (list_store es))) (over (packed (list_rows es)) rows) (over (list_store es) store)
text-decodes es l w rows store r =
    decoding-read (list_text es) rows store r ∙ ap (answered rows store) (ap judged (reading-complete es w) ∙ legal-fits es l)

-- what a refused and an accepted answer say of the judgement
refused-by : (rows store : List ℕ) (v : Verdict Elements) (n : ℕ) → answered rows store v ≡ outcome (refused n) rows store → v ≡ judge.refused n
refused-by rows store (judge.accepted es) n h =
    absurd (let e = ap (λ (o : Outcome Reading). o.answer) h in let z : ◌≡◌ {A = ℕ} 0 1 = cc in omega arith)
refused-by rows store (judge.refused number) n h = let e = ap (λ (o : Outcome Reading). o.answer) h in let k : number ≡ n = cc in rw k

-- THE LIST OF AN ACCEPTED TEXT
pub record Decodes (text rows store : List ℕ) (count stored : ℕ) (rows' store' : List ℕ) : Type 0 where
  pub es : Elements
  pub legal : Legal list_limit es
  pub with-text : WithText es
  pub is : text ≡ list_text es
  pub counts : (count ≡ row_count es) × (stored ≡ length (list_store es))
  pub rows_are : rows' ≡ over (packed (list_rows es)) rows
  pub store_is : store' ≡ over (list_store es) store
  pub only : (fs : Elements) → WithText fs → text ≡ list_text fs → fs ≡ es

module _ (text rows store : List ℕ) where
  found : (es : Elements) (count stored : ℕ) (rows' store' : List ℕ) → reading text ≡ some es → (v : Verdict Elements) → fitting list_limit es ≡ v
      → answered rows store v ≡ outcome (accepted count stored) rows' store' → Decodes text rows store count stored rows' store'
  found es count stored rows' store' e (judge.refused number) f h =
      absurd (let a = ap (λ (o : Outcome Reading). o.answer) h in let z : ◌≡◌ {A = ℕ} 0 1 = cc in omega arith)
  found es count stored rows' store' e (judge.accepted fs) f h =
      let w = fits_both list_limit es fs f in
      let s = reading-sound text es e in
      let a : accepted (row_count fs) (length (list_store fs)) ≡ accepted count stored = ap (λ (o : Outcome Reading). o.answer) h in
      let c : row_count fs ≡ count = cc in
      let d : length (list_store fs) ≡ stored = cc in
      record {
        es = es;
        legal = (with-text-legal es (depth_limit - 1) s.1 (omega (arith, w.1)), w.2);
        with-text = s.1;
        is = s.0;
        counts = (sym c ∙ ap row_count w.0, sym d ∙ ap (λ (g : Elements). length (list_store g)) w.0);
        rows_are = sym (ap (λ (o : Outcome Reading). o.rows) h) ∙ ap (λ (g : Elements). over (packed (list_rows g)) rows) w.0;
        store_is = sym (ap (λ (o : Outcome Reading). o.store) h) ∙ ap (λ (g : Elements). over (list_store g) store) w.0;
        only = λ gs g q. text-determines gs es g s.1 (sym q ∙ s.0);
      }

  -- LAW: what is read is the text of exactly one list, which is legal, and its rows and its store bytes are written
  pub decodes-text :
      (count stored : ℕ) (rows' store' : List ℕ) → roomy rows store ≡ true → decoding_of text rows store ≡ outcome (accepted count stored) rows' store'
      → Decodes text rows store count stored rows' store'
  decodes-text count stored rows' store' r h = go (reading text) refl (sym (decoding-read text rows store r) ∙ h)
    where
      go : (o : Option Elements) → reading text ≡ o → answered rows store (judged o) ≡ outcome (accepted count stored) rows' store'
          → Decodes text rows store count stored rows' store'
      go option.none e f = absurd (let a = ap (λ (o : Outcome Reading). o.answer) f in let z : ◌≡◌ {A = ℕ} 0 1 = cc in omega arith)
      go (some es) e f = found es count stored rows' store' e (fitting list_limit es) refl f

-- REFUSALS
-- why a list is refused
abbrev Unfit : ℕ → Elements → Type 0
Unfit n es = ((n ≡ 27) × (depth_limit < depth es)) ⊎ ((n ≡ 28) × (depth es ≤ depth_limit) × (list_limit < length (list_bytes es)))

unfit : (n : ℕ) (es : Elements) → fitting list_limit es ≡ judge.refused n → Unfit n es
unfolding fitting
unfit n es = go (ltb depth_limit (depth es)) (ltb list_limit (length (list_bytes es))) refl refl
  where
    go : (b d : Bool) → ltb depth_limit (depth es) ≡ b → ltb list_limit (length (list_bytes es)) ≡ d
        → cond b (judge.refused 27) (cond d (judge.refused 28) (judge.accepted es)) ≡ judge.refused n → Unfit n es
    go true d p q h = inl (cc, ltb-true depth_limit (depth es) p)
    go false true p q h = inr (cc, ltb-false depth_limit (depth es) p, ltb-true list_limit (length (list_bytes es)) q)
    go false false p q h = absurd (let z : ◌≡◌ {A = ℕ} 0 1 = cc in omega arith)

deep-refused : (es : Elements) → depth_limit < depth es → fitting list_limit es ≡ judge.refused 27
unfolding fitting
deep-refused es h = rw (lt-ltb depth_limit (depth es) h)

long-refused : (es : Elements) → depth es ≤ depth_limit → list_limit < length (list_bytes es) → fitting list_limit es ≡ judge.refused 28
unfolding fitting
long-refused es h k = rw (le-ltb depth_limit (depth es) h, lt-ltb list_limit (length (list_bytes es)) k)

-- a text is a list's
abbrev pub TextOf : List ℕ → Elements → Type 0
TextOf text es = WithText es × (text ≡ list_text es)

text-read : (text : List ℕ) (es : Elements) → TextOf text es → reading text ≡ some es
text-read text es t = ap reading t.1 ∙ reading-complete es t.0

module _ (text rows store : List ℕ) (r : roomy rows store ≡ true) where
  abbrev refused_with : ℕ → Type 0
  refused_with n = decoding_of text rows store ≡ outcome (refused n) rows store

  refused-read : (n : ℕ) → refused_with n → to_read text ≡ judge.refused n
  refused-read n h = refused-by rows store (to_read text) n (sym (decoding-read text rows store r) ∙ h)

  read-refused : (n : ℕ) → to_read text ≡ judge.refused n → refused_with n
  read-refused n h = decoding-read text rows store r ∙ ap (answered rows store) h

  -- another number than 32 is of a list
  refused-list : (n : ℕ) → (n ≡ 32 → ⊥) → to_read text ≡ judge.refused n → (es : Elements) × TextOf text es × Unfit n es
  refused-list n other = go (reading text) refl
    where
      go : (o : Option Elements) → reading text ≡ o → judged o ≡ judge.refused n → (es : Elements) × TextOf text es × Unfit n es
      go option.none e h = absurd (other (let q : 32 ≡ n = cc in sym q))
      go (some es) e h = let s = reading-sound text es e in (es, (s.1, s.0), unfit n es h)

  -- LAW: 32 exactly where no list has that text, whatever its depth or size
  pub no_text : (decoding_of text rows store ≡ outcome (refused 32) rows store) ↔ ((es : Elements) → TextOf text es → ⊥)
  no_text = (to, from)
    where
      to : refused_with 32 → (es : Elements) → TextOf text es → ⊥
      to h es t =
          let f : fitting list_limit es ≡ judge.refused 32 = sym (ap judged (text-read text es t)) ∙ refused-read 32 h in
          ⊎_elim (λ (u : (32 ≡ 27) × (depth_limit < depth es)). omega arith)
          (λ (u : (32 ≡ 28) × (depth es ≤ depth_limit) × (list_limit < length (list_bytes es))). omega arith) (unfit 32 es f)

      from : ((es : Elements) → TextOf text es → ⊥) → refused_with 32
      from none_has = read-refused 32 (go (reading text) refl)
        where
          go : (o : Option Elements) → reading text ≡ o → to_read text ≡ judge.refused 32
          go option.none e = ap judged e
          go (some es) e = absurd (let s = reading-sound text es e in none_has es (s.1, s.0))

  -- LAW: 27 exactly where the list of that text is too deep
  pub too-deep : (decoding_of text rows store ≡ outcome (refused 27) rows store) ↔ ((es : Elements) × TextOf text es × (depth_limit < depth es))
  too-deep = (to, from)
    where
      to : refused_with 27 → (es : Elements) × TextOf text es × (depth_limit < depth es)
      to h =
          let x = refused-list 27 (λ e. omega arith) (refused-read 27 h) in (
            x.0,
            x.1,
            ⊎_elim (λ (u : (27 ≡ 27) × (depth_limit < depth x.0)). u.1)
                (λ (u : (27 ≡ 28) × (depth x.0 ≤ depth_limit) × (list_limit < length (list_bytes x.0))). absurd (omega arith)) x.2,
          )

      from : (es : Elements) × TextOf text es × (depth_limit < depth es) → refused_with 27
      from x = read-refused 27 (ap judged (text-read text x.0 x.1) ∙ deep-refused x.0 x.2)

  -- LAW: 28 exactly where it is not too deep, and its bytes are too many
  pub too_long :
      (decoding_of text rows store ≡ outcome (refused 28) rows store)
      ↔ ((es : Elements) × TextOf text es × (depth es ≤ depth_limit) × (list_limit < length (list_bytes es)))
  too_long = (to, from)
    where
      to : refused_with 28 → (es : Elements) × TextOf text es × (depth es ≤ depth_limit) × (list_limit < length (list_bytes es))
      to h =
          let x = refused-list 28 (λ e. omega arith) (refused-read 28 h) in
          let u : (depth x.0 ≤ depth_limit) × (list_limit < length (list_bytes x.0)) =
          ⊎_elim (λ (u : (28 ≡ 27) × (depth_limit < depth x.0)). absurd (omega arith))
          (λ (u : (28 ≡ 28) × (depth x.0 ≤ depth_limit) × (list_limit < length (list_bytes x.0))). (u.1, u.2)) x.2 in
          (x.0, x.1, u.0, u.1)

      from : (es : Elements) × TextOf text es × (depth es ≤ depth_limit) × (list_limit < length (list_bytes es)) → refused_with 28
      from x = read-refused 28 (ap judged (text-read text x.0 x.1) ∙ long-refused x.0 x.2 x.3)

-- LAW: 20 exactly where the area of the rows or of the store is too short
pub no_room : (text rows store : List ℕ) → (decoding_of text rows store ≡ outcome (refused 20) rows store) ↔ (roomy rows store ≡ false)
no_room text rows store = (λ h. to (roomy rows store) refl h, decoding-short text rows store)
  where
    to : (b : Bool) → roomy rows store ≡ b → decoding_of text rows store ≡ outcome (refused 20) rows store → roomy rows store ≡ false
    to false r h = r
    to true r h =
        let x = refused-list text rows store r 20 (λ e. omega arith) (refused-read text rows store r 20 h) in
        ⊎_elim (λ (u : (20 ≡ 27) × (depth_limit < depth x.0)). absurd (omega arith))
        (λ (u : (20 ≡ 28) × (depth x.0 ≤ depth_limit) × (list_limit < length (list_bytes x.0))). absurd (omega arith)) x.2
