-- `text_decode::fill::bump` meets its contract: the number read, and one more, takes its place.
use Prim.Native.Nat.{ℕ, ◌+◌}
use mathlib.Core.Path.{◌≡◌, refl, ap, ◌∙◌}
use native.Mathlib.Omega.{arith}
use lib.Seq.{sets}
use Rattle.list.specs.Bytes.{number}
use Rattle.list.specs.Parse.{word}
use Rattle.list_decode.proofs.Writing.{length-read, part-put}
use Rattle.text_decode.proofs.fill.bump.Goals as goal

pub overflow_add-count : goal.overflow_add-count
overflow_add-count c =
    let n = length-read c.args.rows.now (c.args.outer + 4) _ c.u32_at-count.ensures in
    omega (arith, c.requires.small, n)

pub returns : goal.returns
returns c =
    let rows = c.args.rows.now in
    let at = c.args.outer + 4 in
    let n : c.u32_at-count.result ≡ word rows at = length-read rows at _ c.u32_at-count.ensures in
    part-put rows at (at + 4) (number (c.u32_at-count.result + 1)) _ refl (omega (arith, c.requires.there)) c.put_u32.ensures
    ∙ ap (λ (k : ℕ). sets rows at (number (k + 1))) n
