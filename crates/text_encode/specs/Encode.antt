-- What writing a list as text answers, and what the lent text area holds afterwards.
use Rattle.std.specs.Prelude.{ℕ, cond, List, ltb, length}
use Rattle.wire.specs.Area.{over}
use Rattle.list.specs.Tree.{Elements}
use Rattle.list_rows.specs.Judge.{Verdict, accepted, refused, to_write}
use Rattle.list_encode.specs.Encode.{Outcome, outcome, written}
use Rattle.list_encode.specs.Encode as writer
use Rattle.text.specs.Text.{text_room, list_text}
use Rattle.text.specs.Form.{all_have_form}

-- "31, no text form .., after 28"
abbrev pub with_form : Verdict Elements → Verdict Elements
with_form (accepted es) = cond (all_have_form es) (accepted es) (refused 31)
with_form (refused number) = refused number

-- the text goes to the front of the area; a refusal changes nothing
abbrev pub emitted : List ℕ → Verdict Elements → Outcome
emitted area (accepted es) = outcome (written (length (list_text es))) (over (list_text es) area)
emitted area (refused number) = outcome (writer.refused number) area

-- "20 also for a text area to be written, under 16,384"; then list writing's 30, 27 and 28, then 31
unfoldable pub encoding_of : List ℕ → List ℕ → List ℕ → Outcome
encoding_of rows store area =
    cond (ltb (length area) text_room) (outcome (writer.refused 20) area) (emitted area (with_form (to_write rows store)))
