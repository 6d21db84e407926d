-- `text_decode::element::put_value` meets its contract: the first character tells what is there.
use Prim.Native.Nat.{◌+◌}
use mathlib.Core.Path.{refl, ◌∙◌}
use mathlib.Core.Bool.{true}
use native.Mathlib.Omega.{arith}
use lib.ListN.{drop}
use Rattle.list.specs.Tree.{str, blob}
use Rattle.text.specs.Read.{number_at, vocab_at, chars_at, bytes_at}
use Rattle.text_decode.specs.Pieces.{vocab_from, cursor}
use Rattle.text_decode.proofs.PutValues.{
  value-inside,
  value-string,
  value-blob,
  value-vocab,
  value-number,
  stored_here,
  stored-requires,
  stored-put,
  number-no-store,
  vocab-no-store,
  vocab-behind,
  number_behind,
  cursor-same,
  fixed-here,
  fixed-value,
}
use borrow.Author.Rules.{rules}
use Rattle.text_decode.proofs.element.put_value.Goals as goal

pub bounds-text-at : goal.bounds-text-at
bounds-text-at c =
    value-inside c.args.text.now c.args.x.pos c.requires.there

pub overflow_add-behind : goal.overflow_add-behind
overflow_add-behind c =
    omega (arith, value-inside c.args.text.now c.args.x.pos c.requires.there)

pub put_string-to-requires : goal.put_string-to-requires
put_string-to-requires c =
    let a = c.args in
    let i = value-inside a.text.now a.x.pos c.requires.there in
    stored_here str 4 (λ bs. refl) (λ used bs. refl) a.text.now a.x a.rows.now a.store.now (chars_at 0 (drop (a.x.pos + 1) a.text.now))
    (value-string a.text.now a.x.pos i c.in-34.is) c.requires

pub put_stored-requires : goal.put_stored-requires
put_stored-requires c =
    let a = c.args in
    let i = value-inside a.text.now a.x.pos c.requires.there in
    stored-requires str 4 (λ bs. refl) (λ used bs. refl) a.text.now a.x a.rows.now a.store.now (chars_at 0 (drop (a.x.pos + 1) a.text.now))
    (value-string a.text.now a.x.pos i c.in-34.is) c.requires _ _ c.put_string-to.ensures

pub put_blob-to-requires : goal.put_blob-to-requires
put_blob-to-requires c =
    let a = c.args in
    let i = value-inside a.text.now a.x.pos c.requires.there in
    stored_here blob 12 (λ bs. refl) (λ used bs. refl) a.text.now a.x a.rows.now a.store.now
    (bytes_at true 0 (drop (a.x.pos + 1) a.text.now)) (value-blob a.text.now a.x.pos i c.in-123.is) c.requires

pub put_stored-requires-in-123 : goal.put_stored-requires-in-123
put_stored-requires-in-123 c =
    let a = c.args in
    let i = value-inside a.text.now a.x.pos c.requires.there in
    stored-requires blob 12 (λ bs. refl) (λ used bs. refl) a.text.now a.x a.rows.now a.store.now
    (bytes_at true 0 (drop (a.x.pos + 1) a.text.now)) (value-blob a.text.now a.x.pos i c.in-123.is) c.requires _ _
    c.put_blob-to.ensures

pub put_vocab-requires : goal.put_vocab-requires
put_vocab-requires c =
    let a = c.args in
    let i = value-inside a.text.now a.x.pos c.requires.there in
    let z = cursor (a.x.pos + 1) a.x.row a.x.used in
    fixed-here 1 a.text.now a.x a.rows.now a.store.now (vocab_from a.text.now z)
    (value-vocab a.text.now a.x.pos i c.in-91.is ∙ vocab-behind (vocab_at (drop (a.x.pos + 1) a.text.now))) c.requires z refl

pub put_number-requires : goal.put_number-requires
put_number-requires c =
    let a = c.args in
    let i = value-inside a.text.now a.x.pos c.requires.there in
    let s = drop a.x.pos a.text.now in
    fixed-here 0 a.text.now a.x a.rows.now a.store.now (number_at s)
    (value-number a.text.now a.x.pos i (search rules) (search rules) (search rules) ∙ number_behind (number_at s)) c.requires a.x (cursor-same a.x)

pub returns-in-34 : goal.returns-in-34
returns-in-34 c =
    let a = c.args in
    let i = value-inside a.text.now a.x.pos c.requires.there in
    stored-put str 4 (λ bs. refl) (λ used bs. refl) a.text.now a.x a.rows.now a.store.now (chars_at 0 (drop (a.x.pos + 1) a.text.now))
    (value-string a.text.now a.x.pos i c.in-34.is) c.requires _ _ c.put_string-to.ensures _ _
    c.put_stored.ensures.0 c.put_stored.ensures.1

pub returns-in-123 : goal.returns-in-123
returns-in-123 c =
    let a = c.args in
    let i = value-inside a.text.now a.x.pos c.requires.there in
    stored-put blob 12 (λ bs. refl) (λ used bs. refl) a.text.now a.x a.rows.now a.store.now
    (bytes_at true 0 (drop (a.x.pos + 1) a.text.now)) (value-blob a.text.now a.x.pos i c.in-123.is) c.requires _ _
    c.put_blob-to.ensures _ _ c.put_stored-in-123.ensures.0 c.put_stored-in-123.ensures.1

pub returns-in-91 : goal.returns-in-91
returns-in-91 c =
    let a = c.args in
    let i = value-inside a.text.now a.x.pos c.requires.there in
    let z = cursor (a.x.pos + 1) a.x.row a.x.used in
    fixed-value 1 a.text.now a.x a.rows.now a.store.now (vocab_from a.text.now z)
    (value-vocab a.text.now a.x.pos i c.in-91.is ∙ vocab-behind (vocab_at (drop (a.x.pos + 1) a.text.now))) c.requires z refl _ _
    (vocab-no-store a.text.now z) c.put_vocab.ensures

pub returns-in_default : goal.returns-in_default
returns-in_default c =
    let a = c.args in
    let i = value-inside a.text.now a.x.pos c.requires.there in
    let s = drop a.x.pos a.text.now in
    fixed-value 0 a.text.now a.x a.rows.now a.store.now (number_at s)
    (value-number a.text.now a.x.pos i (search rules) (search rules) (search rules) ∙ number_behind (number_at s)) c.requires a.x (cursor-same a.x) _ _
    (number-no-store s) c.put_number.ensures
