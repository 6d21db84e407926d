-- Internal: what the answers of the code say, and how its tally goes on. Public contracts do not cite this file.
use Rattle.std.specs.Prelude.{ℕ, suc, ◌+◌, ◌-◌, ◌*◌, ◌≤◌, ◌≡◌, Bool, true, false, cond, ◌||◌, List, eqb, ltb, length, Option, Some, None}
use Rattle.digits.specs.Read.{Read, got, wrong, and_read}
use Rattle.list.specs.Limits.{list_limit, depth_limit}
use Rattle.list.specs.declared.Kind.TheVariants.{Vocab}
use Rattle.list.specs.Kind.{code_of, size_of, list_code}
use Rattle.list.specs.Tree.{kind}
use Rattle.list.specs.Bytes.{value_bytes, common}
use Rattle.text.specs.Tokens.{Token, opening, closing, item}
use Rattle.text_value.specs.declared.Word.{Word}
use Rattle.text_value.specs.declared.NumberRead.{NumberRead}
use Rattle.text_value.specs.Answers.{word_of, number_of}
use Rattle.text_check.specs.declared.span.Span.{Span}
use Rattle.text_check.specs.declared.token.TokenRead.{TokenRead}
use Rattle.text_check.specs.declared.token.TokenRead.TheVariants as token
use Rattle.text_check.specs.declared.tally.Tally as code
use Rattle.text_check.specs.Tally.{Tally}

-- how many characters were read
abbrev pub size_read : {A : Type 0} → Read A → Option ℕ
size_read (got a count) = Some count
size_read wrong = None

-- how many bytes a string or a blob has, and its characters
abbrev pub span_of : Option Span → Read ℕ
span_of (Some s) = got s.stored s.count
span_of None = wrong

abbrev pub counted : List ℕ → ℕ → Read ℕ
counted bs count = got (length bs) count

-- a number, or one more than the limit where it is above: sizes beyond the limit are not told apart
unfoldable pub at_most : ℕ → ℕ
at_most n = cond (ltb list_limit n) (suc list_limit) n

-- a token as the tally needs it
pub data Shape : Type 0 where
  opened closed : Shape
  valued : (code payload : ℕ) → Shape

abbrev pub shape_of : Token → Shape
shape_of opening = opened
shape_of closing = closed
shape_of (item v) = valued (code_of (kind v)) (at_most (length (value_bytes v)))

abbrev pub shaped : Token → ℕ → Read Shape
shaped t count = got (shape_of t) count

abbrev pub token_of : Option TokenRead → Read Shape
token_of (Some (token.Open count)) = got opened count
token_of (Some token.Close) = got closed 1
token_of (Some (token.Value code payload count)) = got (valued code payload) count
token_of None = wrong

abbrev pub count_of : TokenRead → ℕ
count_of (token.Open count) = count
count_of token.Close = 1
count_of (token.Value code payload count) = count

abbrev pub opens_of : TokenRead → Bool
opens_of (token.Open count) = true
opens_of token.Close = false
opens_of (token.Value code payload count) = false

-- a string or a blob with the character that opens it, a vocab, a number
abbrev pub span_token : ℕ → ℕ → Option Span → Read Shape
span_token code tail read = and_read (span_of read) (λ stored count. got (valued code (at_most (4 + (stored + tail)))) (suc count))

abbrev pub vocab_token : Option Word → Read Shape
vocab_token read = and_read (word_of read) (λ bits count. got (valued (code_of Vocab) (size_of Vocab)) (suc count))

abbrev pub number_token : Option NumberRead → Read Shape
number_token read = and_read (number_of read) (λ v count. got (valued (code_of (kind v)) (size_of (kind v))) count)

-- an element with `gap` characters before it
abbrev pub behind_gap : ℕ → Option TokenRead → Read Shape
behind_gap gap (Some (token.Open count)) = got opened (count + gap)
behind_gap gap (Some token.Close) = wrong
behind_gap gap (Some (token.Value code payload count)) = got (valued code payload) (count + gap)
behind_gap gap None = wrong

abbrev pub counter : ℕ → Bool → ℕ → ℕ → ℕ → code.Tally
counter depth deep seen pending size = record { depth = depth; deep = deep; seen = seen; pending = pending; size = size }

-- the tally as the code keeps it: beyond the limit the size is not followed any more
abbrev pub counter_value : code.Tally → ℕ → ℕ → code.Tally
counter_value c code payload =
    cond (ltb list_limit c.size) c
    (cond (eqb (common c.seen code) list_code)
    (counter c.depth c.deep list_code 0 (c.size + (c.pending + 4 + payload)))
    (counter c.depth c.deep (common c.seen code) (c.pending + 4) (c.size + payload)))

abbrev pub counter_open : code.Tally → code.Tally
counter_open c =
    counter (suc c.depth) (c.deep || ltb depth_limit (suc c.depth)) 0 0 (cond (ltb list_limit c.size) c.size (c.size + (c.pending + 8)))

abbrev pub counter_close : code.Tally → code.Tally
counter_close c = counter (c.depth - 1) c.deep list_code 0 c.size

abbrev pub counter_after : code.Tally → TokenRead → code.Tally
counter_after c (token.Open count) = counter_open c
counter_after c token.Close = counter_close c
counter_after c (token.Value code payload count) = counter_value c code payload

abbrev pub counter_error : code.Tally → ℕ
counter_error c = cond (eqb c.depth 1) (cond c.deep 27 (cond (ltb list_limit c.size) 28 0)) 32

-- the same of a text's tally; 32 where the text has none
abbrev pub tally_error : Option code.Tally → ℕ
tally_error (Some c) = counter_error c
tally_error None = 32

-- no sum of the tally is large, and a list or an element more can be counted
pub record Small (c : code.Tally) : Type 0 where
  pub size : c.size ≤ 4 * list_limit
  pub pending : c.pending ≤ 2 * list_limit

-- sizes beyond the limit are not told apart
abbrev pub Payload : TokenRead → Type 0
Payload (token.Open count) = Unit {0}
Payload token.Close = Unit {0}
Payload (token.Value code payload count) = payload ≤ suc list_limit

-- the code's tally stands for the definition's: the same depth, and the same size, or both are above the limit
pub record StandsFor (c : code.Tally) (t : Tally) : Type 0 where
  pub depth : c.depth ≡ t.depth
  pub deep : c.deep ≡ ltb depth_limit t.deepest
  pub long : ltb list_limit c.size ≡ ltb list_limit t.size
  pub same : c.size ≤ list_limit → (c.size ≡ t.size) × (c.pending ≡ t.pending) × (c.seen ≡ t.seen)
