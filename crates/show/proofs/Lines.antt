-- The line of a list: how long it is, and that what is put into the output is that line.
use Prim.Native.Nat.{ℕ, ◌+◌, ◌*◌, ◌≤◌}
use mathlib.Core.Bool.{Bool, true, false, cond}
use mathlib.Core.Path.{◌≡◌, refl, sym, ap, ◌∙◌}
use mathlib.Core.List.{List, ◌++◌, append_assoc}
use Rattle.std.specs.Prelude.{Result, Ok, Err}
use native.Mathlib.Omega.{arith}
use lib.ListN.{length, take, drop, length-append, length-drop}
use lib.Seq.{take_at, length-take-le}
use borrow.Rule.Slice.PartMut.{mid_of, post_of, put_mid, put_same}
use Rattle.wire.specs.Area.{over}
use Rattle.list.specs.Limits.{list_limit}
use Rattle.list.specs.Tree.{Elements}
use Rattle.list.specs.Bytes.{list_bytes}
use Rattle.list.specs.Legal.{Legal}
use Rattle.list_rows.specs.Judge.{Verdict, accepted, refused, to_write}
use Rattle.errors.specs.declared.Error.{Error}
use Rattle.errors.specs.Number.{number_of}
use Rattle.list_encode.specs.Encode.{Outcome, outcome, result_of, written}
use Rattle.list_encode.specs.Encode as writer
use Rattle.stream.proofs.Runs.{some_bytes}
use Rattle.text.specs.Text.{text_room, list_text}
use Rattle.text.specs.Form.{all_have_form}
use Rattle.text.proofs.Readings.{form-text}
use Rattle.text.proofs.Sizes.{line-room}
use Rattle.text_encode.specs.Encode.{emitted, encoding_of}
use Rattle.text_encode.proofs.Encoding.{after-room}
use Rattle.output.specs.Output.{output, put, puts, newline}
use Rattle.output.proofs.Digits.{decimal-short}
use Rattle.report.specs.Added.{Added}
use Rattle.report.proofs.Adding.{one_piece, two-pieces, pieces-added}
use Rattle.show.specs.Text.{formless, refused_pieces, refused_line, text_line}

-- a legal list that has a text form: its text and a newline
pub text-short : (es : Elements) → Legal list_limit es → all_have_form es ≡ true → length (list_text es) + 1 ≤ 4 * length (list_bytes es)
text-short es l f = line-room es (form-text _ es l.0 f)

refused-short : length refused_line ≤ 32
refused-short = simp length-append (omega (arith, decimal-short formless))

-- LAW: a line has at most four characters for each byte of its list
pub line-short : (es : Elements) → Legal list_limit es → length (text_line es) ≤ 4 * length (list_bytes es)
unfolding text_line
line-short es l = go (all_have_form es) refl
  where
    go : (b : Bool) → all_have_form es ≡ b → length (cond b (list_text es ++ newline) refused_line) ≤ 4 * length (list_bytes es)
    go true f = omega (arith, length-append (list_text es) newline, text-short es l f)
    go false f = omega (arith, refused-short, some_bytes es)

-- text at the front of a part of the output
part-added : (old x : List ℕ) (used k : ℕ) → used + k ≤ length old
    → Added old used (put_mid used k old (over x (mid_of used k old))) (used + length x) x
part-added old x used k h =
    let rest : List ℕ = drop (length x) (mid_of used k old) in
    let whole : put_mid used k old (over x (mid_of used k old)) ≡ (take used old ++ x) ++ (rest ++ post_of used k old) =
    ap (λ (z : List ℕ). take used old ++ z) (append_assoc x rest (post_of used k old)) ∙ sym (append_assoc (take used old) x (rest ++ post_of used k old)) in
    let size : length (take used old ++ x) ≡ used + length x = omega (arith, length-append (take used old) x, length-take-le used old (omega arith)) in
    record { front = ap (take (used + length x)) whole ∙ take_at (take used old ++ x) (rest ++ post_of used k old) (used + length x) size; size = refl }

-- what text writing leaves in a part of the output that has the room that it asks for
module _ (rows store old area : List ℕ) (used k : ℕ) (es : Elements) (a : Result ℕ Error) (legal : Legal list_limit es) (writes : to_write rows store ≡ accepted es)
    (h : used + k ≤ length old) (room : text_room ≤ k) (o : outcome (result_of a) area ≡ encoding_of rows store (mid_of used k old)) where
  part-size : length (mid_of used k old) ≡ k
  part-size = length-take-le k (drop used old) (omega (arith, length-drop used old))

  abbrev answer : Bool → Outcome
  answer b = emitted (mid_of used k old) (cond b (accepted es) (refused 31))

  answered : outcome (result_of a) area ≡ answer (all_have_form es)
  answered = o ∙ after-room rows store (mid_of used k old) (omega (arith, part-size)) ∙ rw writes

  pub text-added : (n : ℕ) → a ≡ Ok n → (all_have_form es ≡ true) × (n ≤ text_room) × Added old used (put_mid used k old area) (used + n) (list_text es)
  text-added n e = go (all_have_form es) refl answered (ap result_of (sym e) ∙ ap (λ (z : Outcome). z.result) answered)
    where
      go : (b : Bool) → all_have_form es ≡ b → outcome (result_of a) area ≡ answer b → written n ≡ (answer b).result
          → (all_have_form es ≡ true) × (n ≤ text_room) × Added old used (put_mid used k old area) (used + n) (list_text es)
      go true f w t =
          let count : n ≡ length (list_text es) = cc in
          let holds : area ≡ over (list_text es) (mid_of used k old) = ap (λ (z : Outcome). z.buffer) w in
          (f, omega (arith, text-short es legal f, legal.1), rw (count, holds) (part-added old (list_text es) used k h))
      go false f w t = absurd (let z : ◌≡◌ {A = ℕ} 0 1 = cc in omega arith)

  pub area-kept : (error : Error) → a ≡ Err error → (all_have_form es ≡ false) × (number_of error ≡ formless) × (put_mid used k old area ≡ old)
  area-kept error e = go (all_have_form es) refl answered (ap result_of (sym e) ∙ ap (λ (z : Outcome). z.result) answered)
    where
      go : (b : Bool) → all_have_form es ≡ b → outcome (result_of a) area ≡ answer b → writer.refused (number_of error) ≡ (answer b).result
          → (all_have_form es ≡ false) × (number_of error ≡ formless) × (put_mid used k old area ≡ old)
      go true f w t = absurd (let z : ◌≡◌ {A = ℕ} 0 1 = cc in omega arith)
      go false f w t =
          let holds : area ≡ mid_of used k old = ap (λ (z : Outcome). z.buffer) w in
          (f, cc, ap (put_mid used k old) holds ∙ put_same used k old)

-- the newline behind a text, and the line of a list that has none
pub written-line : {old mid new : List ℕ} {at to end : ℕ} (es : Elements) → all_have_form es ≡ true → Added old at mid to (list_text es)
    → output new end ≡ put (output mid to) newline → to + 1 ≤ length mid → Added old at new end (text_line es)
unfolding text_line
written-line es f d e h = rw f (two-pieces d (one_piece newline e h))

pub refused-line : {old mid new : List ℕ} {at end n : ℕ} (es : Elements) → all_have_form es ≡ false → n ≡ formless → mid ≡ old
    → output new end ≡ puts (output mid at) (refused_pieces n) → at + 32 ≤ length old → Added old at new end (text_line es)
unfolding text_line
refused-line {old} {at = at} es f number kept e h =
    rw f (pieces-added (refused_pieces formless) (rw (number, kept) at e) (omega (arith, refused-short)))

-- rows and store describe one list alone
pub same-list : {v : Verdict Elements} {fs es : Elements} → Legal list_limit fs → v ≡ accepted fs → v ≡ accepted es → Legal list_limit es
same-list {fs = fs} {es = es} l w x =
    let both : accepted fs ≡ accepted es = sym w ∙ x in
    let same : fs ≡ es = cc in
    rw same at l
