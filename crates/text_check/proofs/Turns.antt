-- Judging a text token by token: the answer for the whole text, from where the tokens so far end.
use Prim.Native.Nat.{ℕ, suc, ◌+◌, ◌≤◌, ◌<◌}
use mathlib.Core.Path.{◌≡◌, refl, sym, ap, ◌∙◌}
use mathlib.Core.Bool.{Bool, true, false, cond}
use mathlib.Core.List.{List, []}
use mathlib.Core.Option.{Option, some}
use mathlib.Core.Option as option
use native.Mathlib.Omega.{arith}
use lib.Dec.{eqb}
use lib.ListN.{length, get_or, drop, drop_of_length-le}
use lib.Seq.{drop-cons, drop-drop}
use borrow.Author.Tests.{eq-eqb, ne_eqb}
use Rattle.std.specs.Prelude.{Some}
use Rattle.digits.specs.Read.{Read, got, wrong, and_read}
use Rattle.text.specs.Tokens.{Token, opens, token_at, token_then, tokens_at}
use Rattle.text.specs.Reading.{tree_of, reading}
use Rattle.text.proofs.Characters.{tokens_none, tokens-got, tokens-wrong}
use Rattle.text_value.specs.Answers.{Within}
use Rattle.text_check.specs.declared.token.TokenRead.{TokenRead}
use Rattle.text_check.specs.declared.token.TokenRead.TheVariants as read
use Rattle.text_check.specs.declared.tally.Tally as code
use Rattle.text_check.specs.Check.{judged, to_read, error_of}
use Rattle.text_check.specs.Tally.{Tally, started, with_token, at_end, tallied}
use Rattle.text_check.specs.Answers.{shape_of, shaped, token_of, count_of, opens_of, counter, counter_after, counter_error, Payload, StandsFor}
use Rattle.text_check.proofs.Tallies.{tally_error, tokens-error}
use Rattle.text_check.proofs.Counters.{Kept, stands_after, kept-after, depth-after, opens-after, payload-after, stands-error}

-- the answer for tokens that follow a tally; 32 where the characters are no tokens
abbrev pub answer_from : Tally → Option (List Token) → ℕ
answer_from t (some ts) = tally_error (tallied t ts)
answer_from t option.none = 32

-- the answer for a text is that for its tokens from the start
pub answer-start : (s : List ℕ) → error_of (to_read s) ≡ answer_from started (tokens_at true 0 s)
unfolding reading
answer-start s = go (tokens_at true 0 s)
  where
    go : (o : Option (List Token)) → error_of (judged (tree_of o)) ≡ answer_from started o
    go (some ts) = tokens-error ts
    go option.none = refl

-- behind one token
answer-token : (t : Tally) (token : Token) (o : Option (List Token))
    → answer_from t (token_then token o) ≡ cond (eqb (with_token t token).depth 0) 32 (answer_from (with_token t token) o)
unfolding tallied
answer-token t token (some ts) = go (eqb (with_token t token).depth 0)
  where
    go : (b : Bool) → tally_error (cond b option.none (tallied (with_token t token) ts)) ≡ cond b 32 (tally_error (tallied (with_token t token) ts))
    go true = refl
    go false = refl
answer-token t token option.none = go (eqb (with_token t token).depth 0)
  where
    go : (b : Bool) → ◌≡◌ {A = ℕ} 32 (cond b 32 32)
    go true = refl
    go false = refl

answer-end : (t : Tally) → answer_from t (some []) ≡ tally_error (at_end t)
unfolding tallied
answer-end t = refl

-- WHAT HOLDS BEFORE EACH TURN
pub record Goes (s : List ℕ) (pos : ℕ) (first : Bool) (c : code.Tally) : Type 0 where
  pub told : Tally
  pub stands : StandsFor c told
  pub kept : Kept c
  pub some-open : 1 ≤ c.depth
  pub few-open : c.depth ≤ suc pos
  pub inside : pos ≤ length s
  pub answer : error_of (to_read s) ≡ answer_from told (tokens_at first 0 (drop pos s))

pub goes-start : (s : List ℕ) (c : code.Tally) → c ≡ counter 1 false 0 0 8 → Goes s 0 true c
goes-start s c e =
    rw e (record {
      told = started;
      stands = record { depth = refl; deep = refl; long = refl; same = λ h. (refl, refl, refl) };
      kept = record { small = record { size = omega arith; pending = omega arith }; less = omega arith };
      some-open = omega arith;
      few-open = omega arith;
      inside = omega arith;
      answer = answer-start s;
    })

pub goes_end : (s : List ℕ) (pos : ℕ) (first : Bool) (c : code.Tally) → Goes s pos first c → length s ≤ pos → counter_error c ≡ error_of (to_read s)
goes_end s pos first c g h =
    stands-error c g.told g.stands
    ∙ sym (g.answer ∙ ap (λ (l : List ℕ). answer_from g.told (tokens_at first 0 l)) (drop_of_length-le s h)
    ∙ ap (answer_from g.told) (tokens_none first) ∙ answer-end g.told)

-- a token that was read has its count
record ReadAs (at end : ℕ) (r : TokenRead) (q : Read Token) : Type 0 where
  token : Token
  is : q ≡ got token (count_of r)
  shape : token_of (Some r) ≡ got (shape_of token) (count_of r)
  some-chars : 1 ≤ count_of r
  inside : at + count_of r ≤ end

count-of : (r : TokenRead) (token : Token) (n : ℕ) → token_of (Some r) ≡ got (shape_of token) n → n ≡ count_of r
count-of (read.Open m) token n e = cc
count-of read.Close token n e = cc
count-of (read.Value code payload m) token n e = cc

count-within : (at end : ℕ) (r : TokenRead) → Within at end (token_of (Some r)) → (1 ≤ count_of r) × (at + count_of r ≤ end)
count-within at end (read.Open n) w = w
count-within at end read.Close w = w
count-within at end (read.Value code payload n) w = w

read_as : (at end : ℕ) (r : TokenRead) (q : Read Token) → token_of (Some r) ≡ and_read q shaped → Within at end (token_of (Some r)) → ReadAs at end r q
read_as at end r (got token n) e w =
    let k = count-of r token n e in
    let i = count-within at end r w in
    record { token = token; is = ap (got token) k; shape = e ∙ ap (got (shape_of token)) k; some-chars = i.0; inside = i.1 }
read_as at end (read.Open n) wrong e w = absurd (cc)
read_as at end read.Close wrong e w = absurd (cc)
read_as at end (read.Value code payload n) wrong e w = absurd (cc)

no-token : (q : Read Token) → wrong ≡ and_read q shaped → q ≡ wrong
no-token (got token n) e = absurd (cc)
no-token wrong e = refl

-- NO TOKEN
pub goes-wrong : (s : List ℕ) (pos : ℕ) (first : Bool) (c : code.Tally) → Goes s pos first c → pos < length s
    → wrong ≡ and_read (token_at first (drop pos s)) shaped → 32 ≡ error_of (to_read s)
goes-wrong s pos first c g long h =
    let front = drop-cons s pos 0 long in
    let e : token_at first (drop pos s) ≡ wrong = no-token (token_at first (drop pos s)) h in
    sym (g.answer ∙ ap (answer_from g.told)
    (ap (tokens_at first 0) front ∙ tokens-wrong first (get_or s pos 0) (drop (suc pos) s) (ap (token_at first) (sym front) ∙ e)))

-- A TURN
-- r is what the code reads at `pos`
module _
    (s : List ℕ) (pos : ℕ) (first : Bool) (c : code.Tally) (g : Goes s pos first c) (long : pos < length s) (r : TokenRead)
    (is-r : (token_of (Some r) ≡ and_read (token_at first (drop pos s)) shaped) × Within pos (length s) (token_of (Some r))) where
  pub goes-payload : Payload r
  goes-payload = payload-after r (token_at first (drop pos s)) is-r.0

  found : ReadAs pos (length s) r (token_at first (drop pos s))
  found = read_as pos (length s) r (token_at first (drop pos s)) is-r.0 is-r.1

  pub goes-counts : (1 ≤ count_of r) × (pos + count_of r ≤ length s)
  goes-counts = (found.some-chars, found.inside)

  next : Tally
  next = with_token g.told found.token

  next-answer : error_of (to_read s) ≡ cond (eqb next.depth 0) 32 (answer_from next (tokens_at (opens found.token) 0 (drop (pos + count_of r) s)))
  unfolding next
  next-answer =
      g.answer
      ∙ ap (answer_from g.told) (tokens-got first (drop pos s) found.token (count_of r) found.is found.some-chars)
      ∙ answer-token g.told found.token (tokens_at (opens found.token) 0 (drop (count_of r) (drop pos s)))
      ∙ ap (λ (l : List ℕ). cond (eqb next.depth 0) 32 (answer_from next (tokens_at (opens found.token) 0 l))) (drop-drop (count_of r) pos s)

  next-stands : StandsFor (counter_after c r) next
  unfolding next
  next-stands = stands_after c g.told r found.token (count_of r) g.stands found.shape

  -- a bracket that closes the outermost list
  pub goes-closed : (counter_after c r).depth ≡ 0 → 32 ≡ error_of (to_read s)
  goes-closed d = sym (next-answer ∙ rw (eq-eqb next.depth 0 (sym next-stands.depth ∙ d)))

  -- on behind it
  pub goes_on : ((counter_after c r).depth ≡ 0 → ⊥) → Goes s (pos + count_of r) (opens_of r) (counter_after c r)
  goes_on d =
      record {
        told = next;
        stands = next-stands;
        kept = kept-after c r found.token (count_of r) g.kept found.shape;
        some-open = omega arith;
        few-open = omega (arith, depth-after c r, g.few-open, found.some-chars);
        inside = found.inside;
        answer =
            next-answer
            ∙ ap (λ (b : Bool). cond b 32 (answer_from next (tokens_at (opens found.token) 0 (drop (pos + count_of r) s))))
            (ne_eqb next.depth 0 (λ e. d (next-stands.depth ∙ e)))
            ∙ ap (λ (b : Bool). answer_from next (tokens_at b 0 (drop (pos + count_of r) s))) (sym (opens-after r found.token (count_of r) found.shape));
      }
