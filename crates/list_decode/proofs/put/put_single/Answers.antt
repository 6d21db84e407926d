-- `list_decode::put::put_single` meets its contract: the bytes of a number of 8 bytes are those of its low half and of 0.
use Prim.Native.Nat.{◌+◌, ◌*◌, ◌^◌}
use mathlib.Core.Path.{◌≡◌, refl, ap, ◌∙◌}
use mathlib.Core.List.{◌++◌}
use native.Mathlib.Omega.{arith}
use lib.Seq.{sets}
use Rattle.wire.specs.Number.{le_bytes}
use Rattle.wire.proofs.Numbers.{bytes-joined}
use Rattle.list_decode.proofs.Writing.{part-puts}
use borrow.Author.Rules.{rules}
use Rattle.list_decode.proofs.put.put_single.Goals as goal

pub returns : goal.returns
returns c =
    let a = c.args in
    let row = a.rows.now in
    let small = c.ranges.second.fits in
    let same : a.second ≡ a.second + 256 ^ 4 * 0 = omega arith in
    let wide : le_bytes 8 c.from.result ≡ le_bytes 4 a.second ++ le_bytes 4 0 = ap (le_bytes 8) (c.from.ensures ∙ same) ∙ bytes-joined 4 4 a.second 0 (omega (arith, small)) in
    part-puts row a.at (a.at + 12) 4 (le_bytes 4 a.code) (le_bytes 8 c.from.result) _ _ refl refl (search rules) c.put_u32.ensures c.put_u64.ensures
    ∙ ap (λ l. sets row a.at (le_bytes 4 a.code ++ l)) wide
