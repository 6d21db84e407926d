-- The laws of text reading: a list's text is read as that list, what is read is its text, and no two lists have equal text.
use Prim.Native.Nat.{ℕ, zero, suc}
use mathlib.Core.Path.{◌≡◌, refl, sym, ap, ◌∙◌}
use mathlib.Core.Bool.{true}
use mathlib.Core.List.{List}
use mathlib.Core.Option.{Option, some}
use mathlib.Core.Option as option
use native.Mathlib.Omega.{arith}
use Rattle.wire.proofs.Chains.{and_left, and_right, and-true}
use Rattle.list.specs.Tree.{Elements, none, value, list}
use Rattle.list.specs.Legal.{LegalElements}
use Rattle.text.specs.Text.{list_text}
use Rattle.text.specs.Form.{has_form, all_have_form, WithText}
use Rattle.text.specs.Tokens.{Token, tokens_at, tokens_of}
use Rattle.text.specs.Reading.{tree_of, reading}
use Rattle.text.proofs.Matching.{forests-tree, tree-forests}
use Rattle.text.proofs.Characters.{tokens_text, elements-tokens, with-text-tokens, tokens-with-text, tokens-read, tokens-sound}

-- among lists of legal values, those whose values have a text form are those that have a text
pub form-text : (d : ℕ) (es : Elements) → LegalElements d es → all_have_form es ≡ true → WithText es
form-text d none l h = tt
form-text d (value v es) l h = (l.0, and_left (has_form v) (all_have_form es) h, form-text d es l.1 (and_right (has_form v) (all_have_form es) h))
form-text zero (list inner es) l h = absurd l
form-text (suc d) (list inner es) l h =
    (form-text d inner l.0 (and_left (all_have_form inner) (all_have_form es) h), form-text (suc d) es l.1 (and_right (all_have_form inner) (all_have_form es) h))

-- what has a text has a text form
pub text-form : (es : Elements) → WithText es → all_have_form es ≡ true
text-form none w = refl
text-form (value v es) w = and-true (has_form v) (all_have_form es) w.1 (text-form es w.2)
text-form (list inner es) w = and-true (all_have_form inner) (all_have_form es) (text-form inner w.0) (text-form es w.1)

-- LAW: 31 is given for exactly the lists of legal values that have no text
pub form-exactly : (d : ℕ) (es : Elements) → LegalElements d es → (all_have_form es ≡ true → WithText es) × (WithText es → all_have_form es ≡ true)
form-exactly d es l = (form-text d es l, text-form es)

-- LAW: the text of a list is read as that list, at any depth and of any size
pub reading-complete : (es : Elements) → WithText es → reading (list_text es) ≡ some es
unfolding reading list_text
reading-complete es w = rw (elements-tokens true es, tokens-read true (tokens_of es) (with-text-tokens es w), forests-tree es)

-- LAW: what is read is the text of that list, which has a text: the reader takes only what the writer writes
pub reading-sound : (s : List ℕ) (es : Elements) → reading s ≡ some es → (s ≡ list_text es) × WithText es
unfolding reading list_text
reading-sound s es h = go (tokens_at true 0 s) refl h
  where
    go : (o : Option (List Token)) → tokens_at true 0 s ≡ o → tree_of o ≡ some es → (s ≡ list_text es) × WithText es
    go option.none e f = absurd (let z : ◌≡◌ {A = ℕ} 0 1 = cc in omega arith)
    go (some ts) e f =
        let t : ts ≡ tokens_of es = tree-forests ts es f in
        let w = tokens-sound true s ts e in
        (w.0 ∙ ap (tokens_text true) t ∙ sym (elements-tokens true es), tokens-with-text es (rw t at w.1))

-- LAW: two different lists never have equal text
pub text-determines : (es es' : Elements) → WithText es → WithText es' → list_text es ≡ list_text es' → es ≡ es'
text-determines es es' w w' e =
    let q : some es ≡ some es' = sym (reading-complete es w) ∙ ap reading e ∙ reading-complete es' w' in
    cc
