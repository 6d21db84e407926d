use Prim.Native.Nat.{◌+◌}
use lib.ListN.{drop, get_or}
use Rattle.text.specs.Text.{char_text, chars_text}
use Rattle.text_encode.proofs.Writing.{left-all, left-room, left-next, left-none}
use Rattle.text_encode.proofs.Pieces.{chars-more, chars-none}
use Rattle.text_encode.proofs.writer.Writer.put_chars.Goals as goal

pub loop-b-init : goal.loop-b-init
loop-b-init c = left-all c.args.self.now (chars_text c.args.bytes.now) c.requires

pub put_char_text-requires : goal.put_char_text-requires
put_char_text-requires c =
    let i = c.loop-b.b-index in
    let bs = c.args.bytes.now in
    left-room (char_text (get_or bs i 0)) (chars_text (drop (i + 1) bs)) c.loop-b.invariant (chars-more bs i c.loop-b-test.true)

pub loop-b-preserved : goal.loop-b-preserved
loop-b-preserved c =
    let i = c.loop-b.b-index in
    let bs = c.args.bytes.now in
    left-next (char_text (get_or bs i 0)) (chars_text (drop (i + 1) bs)) c.loop-b.invariant (chars-more bs i c.loop-b-test.true) c.put_char_text.ensures

pub returns : goal.returns
returns c = left-none c.loop-b.invariant (chars-none c.args.bytes.now c.loop-b.b-index c.loop-b-test.false)
