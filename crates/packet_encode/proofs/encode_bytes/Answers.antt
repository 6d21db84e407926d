use Prim.Native.Nat.{ℕ, suc, ◌+◌, ◌-◌, ◌≤◌}
use mathlib.Core.Path.{◌≡◌, sym, ◌∙◌}
use mathlib.Core.List.{List}
use native.Mathlib.Omega.{arith}
use lib.ListN.{length, take, drop, length-drop}
use lib.Seq.{length-take-le}
use borrow.Rule.Slice.PartMut.{put_mid}
use Rattle.packet.specs.Cobs.{gap_before, stuffed}
use Rattle.packet_encode.specs.Word.{word_size}
use Rattle.packet_encode.proofs.EncodeSteps.{Coding, coding, coding-within, coding-length, coding-part, coding-end}
use Rattle.packet_encode.proofs.encode_bytes.Goals as goal

-- a part is as long as its ends are apart
part_length : (a e : ℕ) (s : List ℕ) → a ≤ e → e ≤ length s → length (take (e - a) (drop a s)) ≡ e - a
part_length a e s h g = length-take-le (e - a) (drop a s) (omega (arith, length-drop a s))

-- all is encoded
done : (gap : ℕ) (bytes part₀ part out : List ℕ) (code i next : ℕ) → Coding gap bytes part₀ part code i → length bytes ≡ length part₀
    → next ≡ suc (gap_before (code - 1) (take (i - 0) (drop 0 bytes))) → out ≡ stuffed (code - 1) (take (i - 0) (drop 0 bytes))
    → Coding gap bytes part₀ (put_mid 0 (i - 0) part out) next 0
done gap bytes part₀ part out code i next v l n h = coding-part _ _ _ _ _ _ 0 (i - 0) v (omega arith) l _ _ n h

pub loop-i-init : goal.loop-i-init
loop-i-init c = coding c.args.last c.args.bytes.now c.args.part.now c.requires.1 c.requires.0

pub slice_bounds-encode_word-end : goal.slice_bounds-encode_word-end
slice_bounds-encode_word-end c = omega (arith, c.loop-i.invariant.within)

pub slice_bounds-encode_word-end-in-loop-i : goal.slice_bounds-encode_word-end-in-loop-i
slice_bounds-encode_word-end-in-loop-i c = omega (arith, c.loop-i.invariant.within, coding-length _ _ _ _ _ _ c.loop-i.invariant c.requires.0, c.requires.0)

pub encode_word-code-requires : goal.encode_word-code-requires
encode_word-code-requires c =
    let i = c.loop-i.i in
    let v = c.loop-i.invariant in
    let w : i - word_size + word_size - (i - word_size) ≡ word_size = omega arith in
    let long = coding-length _ _ _ _ _ _ v c.requires.0 in (
      part_length (i - word_size) (i - word_size + word_size) c.args.bytes.now (omega arith) (omega (arith, v.within)) ∙ w,
      part_length (i - word_size) (i - word_size + word_size) c.loop-i.part (omega arith) (omega (arith, v.within, long, c.requires.0)) ∙ w,
      omega (arith, v.next),
      omega (arith, coding-within _ _ _ _ _ _ v, c.requires.1, c.requires.2),
    )

pub loop-i-preserved : goal.loop-i-preserved
loop-i-preserved c =
    let i = c.loop-i.i in
    let e : i ≡ i - word_size + (i - word_size + word_size - (i - word_size)) = omega arith in
    coding-part _ _ _ _ _ _ _ _ c.loop-i.invariant e c.requires.0 _ _ c.encode_word-code.ensures.0 c.encode_word-code.ensures.1

pub slice_bounds-encode_few-end : goal.slice_bounds-encode_few-end
slice_bounds-encode_few-end c = omega (arith, c.loop-i.invariant.within)

pub slice_bounds-encode_few-end-2 : goal.slice_bounds-encode_few-end-2
slice_bounds-encode_few-end-2 c = omega (arith, c.loop-i.invariant.within, coding-length _ _ _ _ _ _ c.loop-i.invariant c.requires.0, c.requires.0)

pub encode_few-requires : goal.encode_few-requires
encode_few-requires c =
    let i = c.loop-i.i in
    let v = c.loop-i.invariant in
    let long = coding-length _ _ _ _ _ _ v c.requires.0 in
    let b = part_length 0 i c.args.bytes.now (omega arith) v.within in
    let p = part_length 0 i c.loop-i.part (omega arith) (omega (arith, v.within, long, c.requires.0)) in
    (b ∙ sym p, omega (arith, v.next), omega (arith, b, coding-within _ _ _ _ _ _ v, c.requires.1, c.requires.2))

pub shape_of-part : goal.shape_of-part
shape_of-part c = coding-length _ _ _ _ _ _ (done _ _ _ _ _ _ _ _ c.loop-i.invariant c.requires.0 c.encode_few.ensures.0 c.encode_few.ensures.1) c.requires.0

pub returns : goal.returns
returns c = coding-end _ _ _ _ _ 0 (done _ _ _ _ _ _ _ _ c.loop-i.invariant c.requires.0 c.encode_few.ensures.0 c.encode_few.ensures.1) (omega arith)
