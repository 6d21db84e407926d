-- `text_encode::writer::Writer::put_byte` meets its contract: one, two or three digits.
use Prim.Native.Nat.{◌+◌, ◌/◌, ◌%◌, ◌<◌}
use mathlib.Core.List.{[], ◌∷◌}
use borrow.Author.Rules.{rules}
use Rattle.text_encode.proofs.Writing.{room_first, room_next, wrote_more, one-digit, two_digits, three-digits}
use Rattle.text_encode.proofs.writer.Writer.put_byte.Goals as goal

pub put-requires : goal.put-requires
put-requires c = rw (one-digit c.args.b c.if-b-lt10.true) at c.requires

pub returns-then-b-lt10 : goal.returns-then-b-lt10
returns-then-b-lt10 c = rw (one-digit c.args.b c.if-b-lt10.true) c.put.ensures

pub put-requires-then-b-lt100 : goal.put-requires-then-b-lt100
put-requires-then-b-lt100 c =
    let room = rw (two_digits c.args.b c.if-b-lt10.false c.if-b-lt100.true) at c.requires in
    room_first ((48 + c.args.b / 10) ∷ []) ((48 + c.args.b % 10) ∷ []) room

pub put-requires-then-b-lt100-2 : goal.put-requires-then-b-lt100-2
put-requires-then-b-lt100-2 c =
    let room = rw (two_digits c.args.b c.if-b-lt10.false c.if-b-lt100.true) at c.requires in
    room_next ((48 + c.args.b % 10) ∷ []) c.put-then-b-lt100.ensures room

pub returns-then-b-lt100 : goal.returns-then-b-lt100
returns-then-b-lt100 c =
    rw (two_digits c.args.b c.if-b-lt10.false c.if-b-lt100.true) (wrote_more c.put-then-b-lt100.ensures c.put-then-b-lt100-2.ensures)

pub put-requires-else-b-lt100 : goal.put-requires-else-b-lt100
put-requires-else-b-lt100 c =
    let b = c.args.b in
    let small : b < 1000 = search rules in
    let room = rw (three-digits b c.if-b-lt100.false small) at c.requires in
    room_first ((48 + b / 100) ∷ []) ((48 + b / 10 % 10) ∷ (48 + b % 10) ∷ []) room

pub put-requires-else-b-lt100-2 : goal.put-requires-else-b-lt100-2
put-requires-else-b-lt100-2 c =
    let b = c.args.b in
    let small : b < 1000 = search rules in
    let room = rw (three-digits b c.if-b-lt100.false small) at c.requires in
    room_first ((48 + b / 10 % 10) ∷ []) ((48 + b % 10) ∷ []) (room_next ((48 + b / 10 % 10) ∷ (48 + b % 10) ∷ []) c.put-else-b-lt100.ensures room)

pub put-requires-else-b-lt100-3 : goal.put-requires-else-b-lt100-3
put-requires-else-b-lt100-3 c =
    let b = c.args.b in
    let small : b < 1000 = search rules in
    let room = rw (three-digits b c.if-b-lt100.false small) at c.requires in
    let rest = room_next ((48 + b / 10 % 10) ∷ (48 + b % 10) ∷ []) c.put-else-b-lt100.ensures room in
    room_next ((48 + b % 10) ∷ []) c.put-else-b-lt100-2.ensures rest

pub returns-else-b-lt100 : goal.returns-else-b-lt100
returns-else-b-lt100 c =
    let small : c.args.b < 1000 = search rules in
    rw (three-digits c.args.b c.if-b-lt100.false small)
    (wrote_more c.put-else-b-lt100.ensures (wrote_more c.put-else-b-lt100-2.ensures c.put-else-b-lt100-3.ensures))
