-- The stages of writing: the checksum, the checksum's byte, the payload, the front; that together they are the packet; and the packet of no payload.
use Prim.Native.Nat.{ℕ, zero, suc, ◌+◌, ◌-◌, ◌≤◌, ◌<◌}
use mathlib.Core.Path.{◌≡◌, refl, sym, ap, ap₂, ◌∙◌}
use mathlib.Core.Bool.{true, false}
use mathlib.Core.List.{List, [], ◌∷◌, ◌++◌, append_assoc}
use native.Mathlib.Omega.{arith}
use lib.Bits.{bit_xor, xor_zero_l, xor_zero_r}
use lib.ListN.{length, take, drop, set, length-append, length-drop, length-set}
use lib.Seq.{drop-drop, drop_at, length-take-le, set_split}
use borrow.Author.Tests.{lt-ltb, le-ltb}
use borrow.Rule.Slice.PartMut.{put_mid, put_same}
use Rattle.wire.specs.Area.{over}
use Rattle.packet.specs.Cobs.{code_or, gap_from, gap_before, stuffed, encoded_part}
use Rattle.packet.specs.TypeTable.{allowed}
use Rattle.packet.specs.Message.{xor_from, head_of, message_of}
use Rattle.packet.specs.Packet.{PACKET_ROOM}
use Rattle.packet_encode.specs.Encode.{written, refused, packet_of, encode_error, encoded}
use Rattle.packet.proofs.Lengths.{length-message_of}
use Rattle.packet.proofs.Sums.{xor-late}

-- what is encoded is as long as it was, and the bytes before the next 00 are no more than there are
pub length-stuffed : (g : ℕ) (m : List ℕ) → length (stuffed g m) ≡ length m
unfolding stuffed
length-stuffed g [] = refl
length-stuffed g (b ∷ m) = ap suc (length-stuffed g m)

pub gap_from-le : (b g : ℕ) → gap_from b g ≤ suc g
unfolding gap_from
gap_from-le zero g = omega arith
gap_from-le (suc b) g = omega arith

pub gap-le : (g : ℕ) (m : List ℕ) → gap_before g m ≤ g + length m
unfolding gap_before
gap-le g [] = omega arith
gap-le g (b ∷ m) = omega (arith, gap_from-le b (gap_before g m), gap-le g m)

length-encoded_part : (kind : ℕ) (payload : List ℕ) → length (encoded_part (message_of kind payload)) ≡ length payload + 4
length-encoded_part kind payload = length-stuffed 0 (0 ∷ message_of kind payload) ∙ omega (arith, length-message_of kind payload)

pub length-packet_of : (kind : ℕ) (payload : List ℕ) → length (packet_of kind payload) ≡ length payload + 6
length-packet_of kind payload = omega (arith, length-encoded_part kind payload)

-- the answers
module _ (kind : ℕ) (payload buffer : List ℕ) where
  pub encoded-small : length buffer < PACKET_ROOM → record { result = refused 20; buffer = buffer } ≡ encoded kind payload buffer
  unfolding encoded encode_error
  encoded-small h = simp (lt-ltb _ _ h)

  module _ (h : PACKET_ROOM ≤ length buffer) where
    pub encoded-unknown : allowed kind (length payload) ≡ false → record { result = refused 8; buffer = buffer } ≡ encoded kind payload buffer
    unfolding encoded encode_error
    encoded-unknown a = simp (le-ltb _ _ h, a)

    pub encoded-good : allowed kind (length payload) ≡ true
        → record { result = written (length (packet_of kind payload)); buffer = over (packet_of kind payload) buffer } ≡ encoded kind payload buffer
    unfolding encoded encode_error
    encoded-good a = simp (le-ltb _ _ h, a)

-- a byte that is no 00 stands for itself, and is one more before the next 00
pub code-kept : (b g : ℕ) → (b ≡ 0 → ⊥) → b ≡ code_or b g
unfolding code_or
code-kept zero g other = absurd (other refl)
code-kept (suc b) g other = refl

pub gap-kept : (b g : ℕ) → (b ≡ 0 → ⊥) → suc g ≡ gap_from b g
unfolding gap_from
gap-kept zero g other = absurd (other refl)
gap-kept (suc b) g other = refl

-- two lists after one another, encoded from the back
pub gap-append : (last : ℕ) (m r : List ℕ) → gap_before last (m ++ r) ≡ gap_before (gap_before last r) m
unfolding gap_before
gap-append last [] r = refl
gap-append last (b ∷ m) r = ap (gap_from b) (gap-append last m r)

pub stuffed-append : (last : ℕ) (m r : List ℕ) → stuffed last (m ++ r) ≡ stuffed (gap_before last r) m ++ stuffed last r
unfolding stuffed
stuffed-append last [] r = refl
stuffed-append last (b ∷ m) r = ap₂ (λ (g : ℕ) (l : List ℕ). code_or b g ∷ l) (gap-append last m r) (stuffed-append last m r)

module _ (kind : ℕ) (payload : List ℕ) where
  abbrev pub sum_of : ℕ
  sum_of = xor_from 0 (head_of kind payload)

  -- the checksum as the code computes it: the payload's bytes first
  pub sum-late : bit_xor (xor_from 0 payload) (bit_xor kind (length payload)) ≡ sum_of
  unfolding xor_from
  sum-late = sym (xor-late payload 0 (bit_xor kind (length payload))) ∙ rw (xor_zero_l (bit_xor kind (length payload)), xor_zero_l kind)

  abbrev pub last_gap : ℕ
  last_gap = gap_from sum_of 0

  abbrev pub first_gap : ℕ
  first_gap = gap_before last_gap payload

  abbrev pub front : List ℕ
  front = stuffed first_gap (0 ∷ kind ∷ length payload ∷ [])

  -- the packet as the code writes it: the front, the payload, the checksum's byte
  packet-stages : packet_of kind payload ≡ 0 ∷ (length payload + 4) ∷ (front ++ (stuffed last_gap payload ++ (code_or sum_of 0 ∷ [])))
  unfolding gap_before stuffed
  packet-stages =
      ap (λ (n : ℕ). 0 ∷ n ∷ encoded_part (message_of kind payload)) (length-encoded_part kind payload)
      ∙ ap (λ (l : List ℕ). 0 ∷ (length payload + 4) ∷ l) (stuffed-append 0 (0 ∷ kind ∷ length payload ∷ []) (payload ++ (sum_of ∷ []))
      ∙ ap₂ (λ (g : ℕ) (l : List ℕ). stuffed g (0 ∷ kind ∷ length payload ∷ []) ++ l) (gap-append 0 payload (sum_of ∷ [])) (stuffed-append 0 payload (sum_of ∷ [])))

  module _ (buffer : List ℕ) (room : length payload + 6 ≤ length buffer) where
    abbrev pub closed : List ℕ
    closed = set buffer (length payload + 5) (code_or sum_of 0)

    abbrev pub loaded : List ℕ
    loaded = put_mid 5 (length payload + 5 - 5) closed (stuffed last_gap payload)

    tail : drop (length payload + 5) closed ≡ code_or sum_of 0 ∷ drop (length payload + 6) buffer
    tail =
        let e : suc (length payload + 5) ≡ length payload + 6 = omega arith in
        ap (drop (length payload + 5)) (set_split buffer (length payload + 5) (code_or sum_of 0) (omega arith))
        ∙ drop_at (take (length payload + 5) buffer) _ (length payload + 5) (length-take-le (length payload + 5) buffer (omega arith))
        ∙ ap (λ (k : ℕ). code_or sum_of 0 ∷ drop k buffer) e

    length-closed : length closed ≡ length buffer
    length-closed = length-set buffer (length payload + 5) (code_or sum_of 0)

    behind : drop 5 loaded ≡ stuffed last_gap payload ++ (code_or sum_of 0 ∷ drop (length payload + 6) buffer)
    behind =
        let e : length payload + 5 - 5 ≡ length payload = omega arith in
        let f : 5 + length payload ≡ length payload + 5 = omega arith in
        drop_at (take 5 closed) _ 5 (length-take-le 5 closed (omega (arith, length-closed)))
        ∙ ap (λ (l : List ℕ). stuffed last_gap payload ++ l) (rw (e, drop-drop (length payload) 5 closed, f) tail)

    pub length-loaded : length loaded ≡ length buffer
    length-loaded =
        simp (length-append, length-drop, length-stuffed)
        (omega (arith, length-take-le 5 closed (omega (arith, length-closed)), length-closed))

    whole : 0 ∷ (length payload + 4) ∷ (front ++ drop 5 loaded) ≡ over (packet_of kind payload) buffer
    whole =
        ap (λ (l : List ℕ). 0 ∷ (length payload + 4) ∷ (front ++ l)) behind
        ∙ sym (ap₂ (λ (p : List ℕ) (n : ℕ). p ++ drop n buffer) packet-stages (length-packet_of kind payload)
        ∙ ap (λ (l : List ℕ). 0 ∷ (length payload + 4) ∷ l) (simp append_assoc))

    -- the buffer after the last stage
    pub finished : (out l : List ℕ) (gap : ℕ) → gap ≡ first_gap → l ≡ loaded → out ≡ 0 ∷ (length payload + 4) ∷ (stuffed gap (0 ∷ kind ∷ length payload ∷ []) ++ drop 5 l)
        → out ≡ over (packet_of kind payload) buffer
    finished out l gap g f e = e ∙ rw (g, f) whole

pub empty : (l : List ℕ) → length l ≡ 0 → l ≡ []
empty [] h = refl
empty (b ∷ l) h = absurd (omega arith)

-- a message of no payload has its type as checksum
module _ (kind : ℕ) (buffer : List ℕ) (typed : 0 < kind) (room : 6 ≤ length buffer) where
  no_zero : kind ≡ 0 → ⊥
  no_zero e = omega arith

  sum-empty : sum_of kind [] ≡ kind
  unfolding xor_from
  sum-empty = rw (xor_zero_l kind, xor_zero_r kind)

  gap-empty : 1 ≡ first_gap kind []
  unfolding gap_before
  gap-empty = gap-kept kind 0 no_zero ∙ ap (λ (x : ℕ). gap_from x 0) (sym sum-empty)

  closed-empty : set buffer 5 kind ≡ loaded kind [] buffer room
  unfolding stuffed
  closed-empty =
      ap (set buffer 5) (code-kept kind 0 no_zero ∙ ap (λ (x : ℕ). code_or x 0) (sym sum-empty))
      ∙ sym (put_same 5 0 (closed kind [] buffer room))

  pub finished-empty : (out : List ℕ) → out ≡ 0 ∷ 4 ∷ (stuffed 1 (0 ∷ kind ∷ 0 ∷ []) ++ drop 5 (set buffer 5 kind)) → out ≡ over (packet_of kind []) buffer
  finished-empty out e = finished kind [] buffer room out (set buffer 5 kind) 1 gap-empty closed-empty e
