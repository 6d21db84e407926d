-- What the call answers, case by case, is what is promised.
use Prim.Native.Nat.{ℕ, ◌-◌, ◌≤◌, ◌<◌}
use mathlib.Core.Path.{◌≡◌, sym, ap, ◌∙◌}
use mathlib.Core.Bool.{true, false}
use mathlib.Core.List.{List}
use native.Mathlib.Omega.{arith}
use lib.ListN.{length}
use lib.Seq.{sets}
use borrow.Author.Tests.{lt-ltb, le-ltb}
use Rattle.wire.specs.Number.{Bytes}
use Rattle.wire.proofs.Buffers.{sets-front}
use Rattle.list.specs.Limits.{depth_limit}
use Rattle.list.specs.Tree.{Elements}
use Rattle.list.specs.Legal.{LegalElements}
use Rattle.list.specs.RowBytes.{unpacked}
use Rattle.list_rows.specs.Judge.{Verdict, accepted, judging_of, to_write}
use Rattle.list_rows.specs.Judge as judge
use Rattle.list_rows.specs.Emit.{stored_from}
use Rattle.list_rows.proofs.Judging.{listed, ToWrite, to_write_lem, no_write}
use Rattle.list_rows.proofs.Legality.{listed-exactly, writable-legal}
use Rattle.list_encode.specs.Encode.{outcome, written, refused}
use Rattle.text.specs.Text.{text_room, list_text}
use Rattle.text.specs.Form.{all_have_form}
use Rattle.text.proofs.Readings.{form-exactly}
use Rattle.text.proofs.Sizes.{text-room}
use Rattle.text_encode.specs.Encode.{with_form, emitted, encoding_of}
use Rattle.text_encode.specs.Spell.{spell_list, rows_form}
use Rattle.text_encode.proofs.Forms.{rows-form}
use Rattle.text_encode.proofs.Spelling.{spell-described}

module _ (rows store area : List ℕ) where
  pub answer-room : length area < text_room → outcome (refused 20) area ≡ encoding_of rows store area
  unfolding encoding_of
  answer-room h = sym (rw (lt-ltb (length area) text_room h))

  -- a list that list writing accepts
  module _ (n : ℕ) (h : accepted n ≡ judging_of rows store) where
    found : ToWrite rows store n
    found = to_write_lem rows store n h

    -- its text is the one spelt, and it has a text form where its rows have
    text-is : spell_list (unpacked rows) store ≡ list_text found.es
    text-is = spell-described (unpacked rows) store found.es (listed rows store found.es found.is-list).1 found.shallow

    form-is : rows_form (unpacked rows) ≡ all_have_form found.es
    form-is = ap rows_form (listed rows store found.es found.is-list).1.rows_are ∙ rows-form found.es

    pub store-there : stored_from (unpacked rows) ≤ length store
    store-there = omega (arith, found.passed.used)

    pub text-fits : Bytes rows → Bytes store → true ≡ rows_form (unpacked rows) → length (spell_list (unpacked rows) store) ≤ text_room
    text-fits w b form =
        let es : Elements = found.es in
        let x = (listed-exactly rows store es w b).0 found.is-list in
        let l : LegalElements (depth_limit - 1) es = writable-legal es (depth_limit - 1) x.3.1 (omega (arith, found.shallow)) in
        omega (arith, ap (λ (s : List ℕ). length s) text-is, text-room es (l, found.short) ((form-exactly (depth_limit - 1) es l).0 (sym (form ∙ form-is))))

  module _ (room : text_room ≤ length area) where
    pub after-room : encoding_of rows store area ≡ emitted area (with_form (to_write rows store))
    unfolding encoding_of
    after-room = rw (le-ltb (length area) text_room room)

    pub answer-refused : (number : ℕ) → judge.refused number ≡ judging_of rows store → outcome (refused number) area ≡ encoding_of rows store area
    answer-refused number h = sym (after-room ∙ ap (λ (v : Verdict Elements). emitted area (with_form v)) (no_write rows store number h))

    module _ (n : ℕ) (h : accepted n ≡ judging_of rows store) where
      judged-is : encoding_of rows store area ≡ emitted area (with_form (accepted (found n h).es))
      judged-is = after-room ∙ ap (λ (v : Verdict Elements). emitted area (with_form v)) (found n h).verdict

      pub answer-formless : false ≡ rows_form (unpacked rows) → outcome (refused 31) area ≡ encoding_of rows store area
      answer-formless form = sym (judged-is ∙ rw (sym (form ∙ form-is n h)))

      pub answer-written :
          (size : ℕ) (next : List ℕ) → Bytes rows → Bytes store → true ≡ rows_form (unpacked rows)
          → next ≡ sets area 0 (spell_list (unpacked rows) store) → size ≡ length (spell_list (unpacked rows) store)
          → outcome (written size) next ≡ encoding_of rows store area
      answer-written size next w b form is-next is-size =
          let text : List ℕ = list_text (found n h).es in
          let fits : length text ≤ length area = omega (arith, text-fits n h w b form, ap (λ (s : List ℕ). length s) (text-is n h)) in
          rw (is-size, is-next, text-is n h, sets-front area text fits) (sym (judged-is ∙ rw (sym (form ∙ form-is n h))))
