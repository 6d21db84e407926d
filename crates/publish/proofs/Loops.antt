-- A loop that puts lists one behind the other: what is left of them, put behind what is there, gives the whole.
use Prim.Native.Nat.{ℕ, ◌+◌}
use mathlib.Core.Path.{◌≡◌, refl, sym, ap, ◌∙◌}
use mathlib.Core.List.{List}
use native.Mathlib.Omega.{arith}
use native.Mathlib.Nat.{add-zero}
use lib.ListN.{length, length-append}
use lib.Seq.{sets, length-sets}
use Rattle.wire.proofs.Buffers.{sets_more}
use Rattle.list.specs.Kind.{list_code}
use Rattle.list.specs.Tree.{Elements, none, list, count}
use Rattle.list.specs.Bytes.{element_bytes}
use Rattle.publish.specs.Put.{Room, Put}
use Rattle.publish.proofs.Pieces.{list-bytes}

-- `done` lists of `whole` are put into `old` from `at` on, which gave `new` up to `end`; `rest` is left
pub record Left (old : List ℕ) (at : ℕ) (whole : Elements) (new : List ℕ) (end done : ℕ) (rest : Elements) : Type 0 where
  pub filled : sets new end (element_bytes list_code rest) ≡ sets old at (element_bytes list_code whole)
  pub behind : end + length (element_bytes list_code rest) ≡ at + length (element_bytes list_code whole)
  pub counted : done + count rest ≡ count whole
  pub same : length new ≡ length old

pub left-all : (l : List ℕ) (at : ℕ) (whole : Elements) → Left l at whole l at 0 whole
left-all l at whole = record { filled = refl; behind = refl; counted = omega arith; same = refl }

pub left_as : {l m : List ℕ} {at end done : ℕ} {whole rest other : Elements} → rest ≡ other → Left l at whole m end done rest → Left l at whole m end done other
left_as e h = rw (← e) h

pub left_at :
    {l m n : List ℕ} {at end next done more : ℕ} {whole rest : Elements} → n ≡ m → next ≡ end → more ≡ done → Left l at whole m end done rest →
    Left l at whole n next more rest
left_at e f g h = rw (e, f, g) h

-- there is room for the next list
pub left-room :
    {l m : List ℕ} {at end done : ℕ} {whole inner rest : Elements} → Left l at whole m end done (list inner rest) →
    Room l at (element_bytes list_code whole) → Room m end (element_bytes list_code (list inner none))
left-room {l} {m} {at} {end} {done} {whole} {inner} {rest} h room =
    let e : length (element_bytes list_code (list inner rest)) ≡ length (element_bytes list_code (list inner none)) + length (element_bytes list_code rest) =
    ap length (list-bytes inner rest) ∙ length-append (element_bytes list_code (list inner none)) (element_bytes list_code rest) in
    omega (arith, h.behind, h.same)

-- the next list is put
pub left-put :
    {l m n : List ℕ} {at end next done : ℕ} {whole inner rest : Elements} → Left l at whole m end done (list inner rest) →
    Put m end (element_bytes list_code (list inner none)) n next → Left l at whole n next (done + 1) rest
left-put {l} {m} {n} {at} {end} {next} {done} {whole} {inner} {rest} h p =
    let one = element_bytes list_code (list inner none) in
    let more = element_bytes list_code rest in
    let e : length (element_bytes list_code (list inner rest)) ≡ length one + length more =
    ap length (list-bytes inner rest) ∙ length-append one more in
    record {
      filled =
          ap (λ (k : List ℕ). sets k next more) p.stored ∙ sets_more m one more end next p.behind
          ∙ ap (λ (k : List ℕ). sets m end k) (sym (list-bytes inner rest)) ∙ h.filled;
      behind = omega (arith, h.behind, p.behind);
      counted = omega (arith, h.counted);
      same = ap length p.stored ∙ length-sets m end one ∙ h.same;
    }

-- nothing is left
pub left-none :
    {l m : List ℕ} {at end done : ℕ} {whole : Elements} → Left l at whole m end done none → Put l at (element_bytes list_code whole) m end × (done ≡ count whole)
left-none {l} {m} {at} {end} {done} {whole} h =
    (record { stored = h.filled; behind = sym (add-zero end) ∙ h.behind }, sym (add-zero done) ∙ h.counted)
