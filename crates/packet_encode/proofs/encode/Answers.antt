-- `encode` is `encoded`: each refusal by its test, and the buffer after each stage of writing.
use Prim.Native.Nat.{ℕ, suc, ◌+◌, ◌-◌, ◌≤◌, ◌<◌}
use mathlib.Core.Path.{◌≡◌, refl, sym, ap, ap₂, ◌∙◌}
use mathlib.Core.Bool.{true}
use mathlib.Core.List.{List, [], ◌∷◌, ◌++◌}
use native.Mathlib.Omega.{arith}
use lib.Bits.{bit_xor}
use lib.ListN.{length, set, length-set, length-append, length-drop, drop}
use borrow.Author.Rules.{rules}
use borrow.Rule.Slice.PartMut.{put_mid}
use Rattle.wire.specs.Area.{over}
use Rattle.packet.specs.Cobs.{code_or, gap_from, gap_before, stuffed}
use Rattle.packet.specs.TypeTable.{allowed}
use Rattle.packet.specs.Message.{xor_from}
use Rattle.packet.specs.Packet.{PACKET_ROOM}
use Rattle.packet_encode.specs.Encode.{written, packet_of, encoded}
use Rattle.packet.proofs.Lengths.{allowed-top, allowed-kind}
use Rattle.packet_encode.proofs.EncodeStages.{gap_from-le, gap-le, encoded-small, encoded-unknown, encoded-good, sum_of, sum-late, last_gap, first_gap}
use Rattle.packet_encode.proofs.EncodeStages.{loaded, length-loaded, finished, finished-empty, length-packet_of, empty}
use Rattle.packet_encode.proofs.encode.Goals as goal

-- an allowed type and payload, and a buffer with room
module _ (k : ℕ) (p b : List ℕ) (a : allowed k (length p) ≡ true) (h : PACKET_ROOM ≤ length b) where
  typed : 0 < k
  typed = allowed-kind k (length p) a

  top : length p ≤ 251
  top = allowed-top k (length p) a

  room : length p + 6 ≤ length b
  room = omega (arith, top)

  -- the answer where the buffer holds the packet
  good : (n : ℕ) (out : List ℕ) → n ≡ length p + 6 → out ≡ over (packet_of k p) b → record { result = written n; buffer = out } ≡ encoded k p b
  good n out e q =
      ap₂ (λ (n : ℕ) (l : List ℕ). record { result = written n; buffer = l }) (e ∙ sym (length-packet_of k p)) q ∙ encoded-good k p b h a

  length-done : (out : List ℕ) → out ≡ over (packet_of k p) b → length out ≡ length b
  length-done out e = ap length e ∙ simp (length-append, length-drop) (omega (arith, length-packet_of k p, room))

  -- no payload
  done-empty : (out : List ℕ) → length p ≡ 0 → out ≡ 0 ∷ 4 ∷ (stuffed 1 (0 ∷ k ∷ 0 ∷ []) ++ drop 5 (set b 5 k)) → out ≡ over (packet_of k p) b
  done-empty out z e = finished-empty k b typed (omega (arith, room)) out e ∙ ap (λ (q : List ℕ). over (packet_of k q) b) (sym (empty p z))

  -- what each call answers: x is the exclusive or of the payload, y the code before the checksum's byte, z that before the payload
  module _ (x : ℕ) (of : x ≡ xor_from 0 p) where
    sum : bit_xor x (bit_xor k (length p)) ≡ sum_of k p
    sum = ap (λ (x : ℕ). bit_xor x (bit_xor k (length p))) of ∙ sum-late k p

    code : (e : ℕ) → e ≡ code_or (bit_xor x (bit_xor k (length p))) 0 → e ≡ code_or (sum_of k p) 0
    code e f = f ∙ ap (λ (s : ℕ). code_or s 0) sum

    module _ (y : ℕ) (next : y ≡ suc (gap_from (bit_xor x (bit_xor k (length p))) 0)) where
      last : y - 1 ≡ last_gap k p
      last = let s : y ≡ suc (last_gap k p) = next ∙ ap (λ (s : ℕ). suc (gap_from s 0)) sum in omega (arith, s)

      first : (z : ℕ) → z ≡ suc (gap_before (y - 1) p) → z ≡ suc (first_gap k p)
      first z e = e ∙ ap (λ (g : ℕ). suc (gap_before g p)) last

      -- the buffer behind the front
      filled : (e : ℕ) (out : List ℕ) → e ≡ code_or (bit_xor x (bit_xor k (length p))) 0 → out ≡ stuffed (y - 1) p
          → put_mid 5 (length p + 5 - 5) (set b (length p + 5) e) out ≡ loaded k p b room
      filled e out f g =
          ap₂ (λ (e : ℕ) (l : List ℕ). put_mid 5 (length p + 5 - 5) (set b (length p + 5) e) l) (code e f) (g ∙ ap (λ (g : ℕ). stuffed g p) last)

      done : (z e : ℕ) (part out : List ℕ) → z ≡ suc (gap_before (y - 1) p) → e ≡ code_or (bit_xor x (bit_xor k (length p))) 0 → part ≡ stuffed (y - 1) p
          → out ≡ 0 ∷ (length p + 4) ∷ (stuffed (z - 1) (0 ∷ k ∷ length p ∷ []) ++ drop 5 (put_mid 5 (length p + 5 - 5) (set b (length p + 5) e) part))
          → out ≡ over (packet_of k p) b
      done z e part out n f g q =
          let i : z - 1 ≡ first_gap k p = omega (arith, first z n) in
          finished k p b room out _ (z - 1) i (filled e part f g) q

pub returns-then-buffer-lt-PACKET_ROOM : goal.returns-then-buffer-lt-PACKET_ROOM
returns-then-buffer-lt-PACKET_ROOM c = encoded-small _ _ _ c.if-buffer-lt-PACKET_ROOM.true

pub returns-then-not-is_allowed : goal.returns-then-not-is_allowed
returns-then-not-is_allowed c = encoded-unknown _ _ _ c.if-buffer-lt-PACKET_ROOM.false (sym c.is_allowed.ensures ∙ c.if-not-is_allowed.true)

pub bounds-buffer-5 : goal.bounds-buffer-5
bounds-buffer-5 c = omega (arith, c.if-buffer-lt-PACKET_ROOM.false)

pub put_front-requires : goal.put_front-requires
put_front-requires c =
    let a = sym c.is_allowed.ensures ∙ c.if-not-is_allowed.false in
    let h = c.if-buffer-lt-PACKET_ROOM.false in
    (simp length-set (omega arith), typed _ _ _ a h, omega arith, omega arith, omega arith)

pub shape_of-buffer-then-n-eq0 : goal.shape_of-buffer-then-n-eq0
shape_of-buffer-then-n-eq0 c =
    let a = sym c.is_allowed.ensures ∙ c.if-not-is_allowed.false in
    let h = c.if-buffer-lt-PACKET_ROOM.false in
    length-done _ _ _ a h _ (done-empty _ _ _ a h _ c.if-n-eq0.true c.put_front.ensures)

pub returns-then-n-eq0 : goal.returns-then-n-eq0
returns-then-n-eq0 c =
    let a = sym c.is_allowed.ensures ∙ c.if-not-is_allowed.false in
    let h = c.if-buffer-lt-PACKET_ROOM.false in
    good _ _ _ a h 6 _ (omega (arith, c.if-n-eq0.true)) (done-empty _ _ _ a h _ c.if-n-eq0.true c.put_front.ensures)

pub overflow_cast-sum : goal.overflow_cast-sum
overflow_cast-sum c = omega (arith, allowed-top _ _ (sym c.is_allowed.ensures ∙ c.if-not-is_allowed.false))

pub bounds-buffer-n : goal.bounds-buffer-n
bounds-buffer-n c = omega (arith, allowed-top _ _ (sym c.is_allowed.ensures ∙ c.if-not-is_allowed.false))

pub slice_bounds-encode_bytes-end : goal.slice_bounds-encode_bytes-end
slice_bounds-encode_bytes-end c =
    let t = allowed-top _ _ (sym c.is_allowed.ensures ∙ c.if-not-is_allowed.false) in
    simp length-set (omega (arith, t, c.if-buffer-lt-PACKET_ROOM.false))

pub encode_bytes-code-requires : goal.encode_bytes-code-requires
encode_bytes-code-requires c =
    let a = sym c.is_allowed.ensures ∙ c.if-not-is_allowed.false in
    let h = c.if-buffer-lt-PACKET_ROOM.false in
    let g = last _ _ _ a h _ c.xor_of.ensures _ c.next_code-last.ensures in
    (search rules, omega (arith, c.next_code-last.ensures), omega (arith, g, gap_from-le (sum_of c.args.kind c.args.payload.now) 0, top _ _ _ a h))

pub put_front-requires-2 : goal.put_front-requires-2
put_front-requires-2 c =
    let k = c.args.kind in
    let p = c.args.payload.now in
    let b = c.args.buffer.now in
    let a = sym c.is_allowed.ensures ∙ c.if-not-is_allowed.false in
    let h = c.if-buffer-lt-PACKET_ROOM.false in
    let f = filled k p b a h _ c.xor_of.ensures _ c.next_code-last.ensures _ _ c.code_or.ensures c.encode_bytes-code.ensures.1 in
    let z = first k p b a h _ c.xor_of.ensures _ c.next_code-last.ensures _ c.encode_bytes-code.ensures.0 in
    let r = room k p b a h in
    let t = top k p b a h in (
      rw f (omega (arith, length-loaded k p b r, r)),
      typed k p b a h,
      t,
      omega (arith, z),
      omega (arith, z, gap-le (last_gap k p) p, gap_from-le (sum_of k p) 0, t),
    )

pub shape_of-buffer : goal.shape_of-buffer
shape_of-buffer c =
    let a = sym c.is_allowed.ensures ∙ c.if-not-is_allowed.false in
    let h = c.if-buffer-lt-PACKET_ROOM.false in
    let n = c.next_code-last.ensures in
    let e = c.encode_bytes-code.ensures in
    length-done _ _ _ a h _ (done _ _ _ a h _ c.xor_of.ensures _ n _ _ _ _ e.0 c.code_or.ensures e.1 c.put_front-2.ensures)

pub returns : goal.returns
returns c =
    let a = sym c.is_allowed.ensures ∙ c.if-not-is_allowed.false in
    let h = c.if-buffer-lt-PACKET_ROOM.false in
    let n = c.next_code-last.ensures in
    let e = c.encode_bytes-code.ensures in
    good _ _ _ a h _ _ refl (done _ _ _ a h _ c.xor_of.ensures _ n _ _ _ _ e.0 c.code_or.ensures e.1 c.put_front-2.ensures)
