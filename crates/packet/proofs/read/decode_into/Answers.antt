-- `decode_into` is `filled`: each refusal, and the buffer with the message of an accepted packet.
use Prim.Native.Nat.{ℕ, ◌+◌, ◌-◌}
use mathlib.Core.Path.{sym, ap, ◌∙◌}
use mathlib.Core.List.{List, ◌++◌}
use native.Mathlib.Omega.{arith}
use lib.ListN.{length, drop}
use Rattle.std.proofs.lemmas.Result.{err_from_is_err_and}
use Rattle.packet.specs.Cobs.{decoded_part}
use Rattle.packet.specs.Packet.{accepted, answered, length_byte}
use Rattle.errors.proofs.Numbers.{some-number}
use Rattle.packet.proofs.FrontTests.{part-whole}
use Rattle.packet.proofs.DecodeStages.{good-front, length_part, over-message, filled-small, filled-refused, filled-good}
use Rattle.packet.proofs.read.decode_into.Goals as goal

pub returns-then-buffer-lt-PACKET_ROOM : goal.returns-then-buffer-lt-PACKET_ROOM
returns-then-buffer-lt-PACKET_ROOM c = filled-small _ _ c.if-buffer-lt-PACKET_ROOM.true

pub returns-in_err-kind : goal.returns-in_err-kind
returns-in_err-kind c =
    let p = err_from_is_err_and c.from_residual.result c.from_residual.ensures.1 in
    rw (p.1, p.2) (filled-refused _ _ c.if-buffer-lt-PACKET_ROOM.false _ (sym c.in_err-kind.ensures.error) (λ z. omega (arith, some-number c.in_err-kind.field-0.0)))

pub bounds-bytes-1 : goal.bounds-bytes-1
bounds-bytes-1 c = omega (arith, (good-front _ (sym c.in_ok-kind.ensures.error)).whole)

pub slice_bounds-decode_part-end : goal.slice_bounds-decode_part-end
slice_bounds-decode_part-end c = (good-front _ (sym c.in_ok-kind.ensures.error)).whole

pub decode_part-requires : goal.decode_part-requires
decode_part-requires c =
    let s = c.args.bytes.now in
    let h = good-front s (sym c.in_ok-kind.ensures.error) in
    let b = c.type_inv.bytes 1 in
    let l = length_part s h in
    rw (part-whole s) (omega (arith, l, h.least), omega (arith, l, b), h.zeroless, omega (arith, l, b, c.if-buffer-lt-PACKET_ROOM.false))

pub overflow_sub-result : goal.overflow_sub-result
overflow_sub-result c = omega (arith, (good-front _ (sym c.in_ok-kind.ensures.error)).least)

pub returns : goal.returns
returns c =
    let s = c.args.bytes.now in
    let b = c.args.buffer.now in
    let g = sym c.in_ok-kind.ensures.error in
    let e = over-message s (good-front s g) b _ (c.decode_part.ensures ∙ ap (λ (p : List ℕ). decoded_part p ++ drop (length p - 1) b) (part-whole s)) in
    ap (λ (k : ℕ). record { judgement = accepted k (length_byte s - 4) (length_byte s + 2); buffer = c.decode_part.new.message }) c.in_ok-kind.ensures.kind
    ∙ ap (λ (l : List ℕ). record { judgement = answered s; buffer = l }) e
    ∙ filled-good s b c.if-buffer-lt-PACKET_ROOM.false g
