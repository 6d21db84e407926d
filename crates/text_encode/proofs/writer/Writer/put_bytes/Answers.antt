use Prim.Native.Nat.{ℕ, ◌+◌}
use mathlib.Core.Path.{refl}
use mathlib.Core.Bool.{true, false}
use mathlib.Core.List.{List, ◌++◌}
use lib.ListN.{drop, get_or}
use Rattle.digits.specs.Decimal.{decimal}
use Rattle.text.specs.Text.{gap, bytes_text}
use Rattle.text_encode.proofs.Writing.{left-all, left-room, left-next, left-none}
use Rattle.text_encode.proofs.Pieces.{bytes-more, bytes-none}
use Rattle.text_encode.proofs.writer.Writer.put_bytes.Goals as goal

-- what stands behind the space before byte i
abbrev behind : List ℕ → ℕ → List ℕ
behind bs i = decimal (get_or bs i 0) ++ bytes_text false (drop (i + 1) bs)

pub loop-b-init : goal.loop-b-init
loop-b-init c = left-all c.args.self.now (bytes_text true c.args.bytes.now) c.requires

pub put_gap-requires : goal.put_gap-requires
put_gap-requires c =
    let x = c.loop-b in
    let bs = c.args.bytes.now in
    left-room (gap x.first) (behind bs x.b-index) x.invariant (bytes-more bs x.b-index x.first c.loop-b-test.true)

pub put_byte-requires : goal.put_byte-requires
put_byte-requires c =
    let x = c.loop-b in
    let bs = c.args.bytes.now in
    let i = x.b-index in
    let s = left-next (gap x.first) (behind bs i) x.invariant (bytes-more bs i x.first c.loop-b-test.true) c.put_gap.ensures in
    left-room (decimal (get_or bs i 0)) (bytes_text false (drop (i + 1) bs)) s refl

pub loop-b-preserved : goal.loop-b-preserved
loop-b-preserved c =
    let x = c.loop-b in
    let bs = c.args.bytes.now in
    let i = x.b-index in
    let s = left-next (gap x.first) (behind bs i) x.invariant (bytes-more bs i x.first c.loop-b-test.true) c.put_gap.ensures in
    left-next (decimal (get_or bs i 0)) (bytes_text false (drop (i + 1) bs)) s refl c.put_byte.ensures

pub returns : goal.returns
returns c = left-none c.loop-b.invariant (bytes-none c.args.bytes.now c.loop-b.b-index c.loop-b.first c.loop-b-test.false)
