-- Reading accepts exactly the packets: each packet, with anything behind it, as its type, payload and size (complete), and nothing else (sound).
use Prim.Native.Nat.{ℕ, suc, ◌+◌, ◌-◌, ◌≤◌}
use mathlib.Core.Path.{◌≡◌, refl, sym, ap, ◌∙◌}
use mathlib.Core.Bool.{Bool, true, false, not}
use mathlib.Core.List.{List, [], ◌∷◌, ◌++◌}
use native.Mathlib.Omega.{arith}
use lib.Dec.{eqb}
use lib.ListN.{length, get_or, take, drop, length-append, take-append-drop}
use lib.Seq.{take_at, get_or_at, take-suc, take_all, length-take-le}
use borrow.Author.Tests.{eq-eqb, eqb-true, eqb-false, not-false}
use Rattle.wire.specs.Zero.{has_zero}
use Rattle.packet.specs.Cobs.{lacking, decoded_part}
use Rattle.packet.specs.TypeTable.{allowed}
use Rattle.packet.specs.Message.{xor_from, head_of, message_of, message_error}
use Rattle.packet.specs.Packet.{IsPacket, StartsWith, Reading, accepted, copy_of, length_byte, part_present, front_error, packet_error, refusal, acceptance, decoded}
use Rattle.packet.proofs.CobsBlocks.{decodes, decoded-means, message-length}
use Rattle.packet.proofs.Lengths.{allowed-top, length-message_of}
use Rattle.packet.proofs.FrontTests.{Front, front-good, front-passed, pass, pass_on, not_eqb}
use Rattle.packet.proofs.DecodeStages.{error-message, decoded-good, decoded-refused, length_part, length-message}

-- the message of an allowed type and payload is not refused
message-good : (kind : ℕ) (payload : List ℕ) → allowed kind (length payload) ≡ true → message_error (message_of kind payload) ≡ 0
unfolding message_error
message-good kind payload a =
    let h = head_of kind payload in
    let l = length-message_of kind payload in
    let e : length (message_of kind payload) - 3 ≡ length payload = omega arith in
    let f : length (message_of kind payload) - 1 ≡ length payload + 2 = omega arith in
    simp (e, f, take_at h (xor_from 0 h ∷ []) (length payload + 2) (omega arith), get_or_at h (xor_from 0 h) [] 0 (length payload + 2) (omega arith), eq-eqb (length payload) (length payload) refl, eq-eqb (xor_from 0 h) (xor_from 0 h) refl, a)

module _ (bytes : List ℕ) (kind : ℕ) (payload : List ℕ) (p : IsPacket bytes kind payload) (later : List ℕ) where
  abbrev S : List ℕ
  S = 0 ∷ length p.part ∷ (p.part ++ later)

  -- the part has a byte more than the message
  pub part_length : length p.part ≡ length payload + 4
  part_length = omega (arith, message-length p.coded, length-message_of kind payload)

  the-part : part_present S ≡ p.part
  the-part = take_at p.part later (length p.part) refl

  front-ok : front_error S ≡ 0
  front-ok = front-good S (λ e. omega arith) refl (λ e. omega (arith, part_length, length-append p.part later)) (omega (arith, part_length))
      (ap has_zero the-part ∙ p.coded.zeroless) (omega (arith, length-append p.part later))

  back : decoded_part (part_present S) ≡ message_of kind payload
  back = ap decoded_part the-part ∙ (decodes p.coded).1

  no-error : packet_error S ≡ 0
  no-error =
      error-message S front-ok (ap (lacking 0) the-part ∙ (decodes p.coded).0)
      ∙ ap message_error back ∙ message-good kind payload p.allows

  accepts : decoded S ≡ record { judgement = accepted kind (length payload) (length p.part + 2); message = copy_of (message_of kind payload) }
  unfolding acceptance
  accepts =
      let e : length p.part - 4 ≡ length payload = omega (arith, part_length) in
      sym (decoded-good S no-error) ∙ rw (back, e)

-- "Messages have 3 to 254 bytes, so payloads 0 to 251 and L 4 to 255"
pub sizes : (bytes : List ℕ) (kind : ℕ) (payload : List ℕ) (p : IsPacket bytes kind payload)
    → (length payload ≤ 251) × (length (message_of kind payload) ≡ length payload + 3) × (length p.part ≡ length payload + 4) × (length bytes ≡ length payload + 6)
sizes bytes kind payload p =
    let l = part_length bytes kind payload p [] in
    (allowed-top kind (length payload) p.allows, length-message_of kind payload, l, omega (arith, ap length p.framed, l))

-- complete: each packet, with anything behind it, is accepted as exactly its type, payload and size
pub complete : (s : List ℕ) (kind : ℕ) (payload : List ℕ) (consumed : ℕ) → StartsWith s kind payload consumed
    → decoded s ≡ record { judgement = accepted kind (length payload) consumed; message = copy_of (message_of kind payload) }
complete s kind payload consumed w =
    let p = w.packet in
    let e : s ≡ 0 ∷ length p.part ∷ (p.part ++ w.later) = w.split ∙ ap (λ (l : List ℕ). l ++ w.later) p.framed in
    let n : length p.part + 2 ≡ consumed = omega (arith, w.size, ap length p.framed) in
    rw (e, accepts w.bytes kind payload p w.later, n)

-- what a message that is not refused is
record MessageOf (m : List ℕ) : Type 0 where
  payload : List ℕ
  allows : allowed (get_or m 0 0) (length payload) ≡ true
  bytes : m ≡ message_of (get_or m 0 0) payload

message-means : (m : List ℕ) → 3 ≤ length m → message_error m ≡ 0 → MessageOf m
unfolding message_error
message-means [] h g = absurd (omega arith)
message-means (k ∷ []) h g = absurd (omega arith)
message-means (k ∷ l ∷ r) h g =
    let m = k ∷ l ∷ r in
    let p6 = pass (not (eqb l (length m - 3))) 5 _ g in
    let p7 = pass (not (eqb (xor_from 0 (take (length m - 1) m)) (get_or m (length m - 1) 0))) 6 _ p6.1 in
    let p8 = not-false (allowed k (length m - 3)) (pass (not (allowed k (length m - 3))) 7 _ p7.1).0 in
    let n = length r - 1 in
    let e3 : length m - 3 ≡ n = omega arith in
    let e1 : length m - 1 ≡ suc (suc n) = omega arith in
    let el : l ≡ n = not_eqb l (length m - 3) p6.0 ∙ e3 in
    let lp : length (take n r) ≡ n = length-take-le n r (omega arith) in
    let x : xor_from 0 (k ∷ n ∷ take n r) ≡ get_or r n 0 = rw (e1, el) at (not_eqb (xor_from 0 (take (length m - 1) m)) (get_or m (length m - 1) 0) p7.0) in
    let w : take n r ++ (get_or r n 0 ∷ []) ≡ r = sym (take-suc r n 0 (omega arith)) ∙ take_all (suc n) r (omega arith) in
    record {
      payload = take n r;
      allows = rw (lp, ← e3) p8;
      bytes = rw (lp, x, el) (ap (λ (t : List ℕ). k ∷ n ∷ t) (sym w));
    }

-- a judgement that accepts was given for no error
pub no-refusal : (s : List ℕ) (kind n consumed : ℕ) → (decoded s).judgement ≡ accepted kind n consumed → packet_error s ≡ 0
unfolding refusal
no-refusal s kind n consumed h = by (eqb (packet_error s) 0) refl
  where
    by : (b : Bool) → eqb (packet_error s) 0 ≡ b → packet_error s ≡ 0
    by true e = eqb-true _ _ e
    by false e =
        let q = ap (λ (r : Reading). r.judgement) (decoded-refused s (packet_error s) refl (eqb-false _ _ e)) ∙ h in
        let z : ◌≡◌ {A = ℕ} 0 1 = cc q in absurd (omega arith)

-- the three parts of a packet that is not refused, one after the other
pub framed-again : (s : List ℕ) → Front s → 0 ∷ length_byte s ∷ part_present s ≡ take (length_byte s + 2) s
framed-again [] f = absurd (omega (arith, f.whole))
framed-again (a ∷ []) f = absurd (omega (arith, f.whole))
framed-again (a ∷ b ∷ r) f =
    let e : b + 2 ≡ suc (suc b) = omega arith in
    ap (λ (x : ℕ). x ∷ b ∷ take b r) (sym f.mark) ∙ ap (λ (n : ℕ). take n (a ∷ b ∷ r)) (sym e)

-- what an accepting judgement and the working copy beside it say of the bytes
pub record Sound (s : List ℕ) (kind payload_length consumed : ℕ) (copy : List ℕ) : Type 0 where
  pub payload : List ℕ
  pub starts : StartsWith s kind payload consumed
  pub sized : length payload ≡ payload_length
  pub held : copy ≡ copy_of (message_of kind payload)

-- sound: whatever is accepted starts with a packet of that type, payload length and size, and the working copy holds its message
pub sound : (s : List ℕ) (kind payload_length consumed : ℕ) → (decoded s).judgement ≡ accepted kind payload_length consumed
    → Sound s kind payload_length consumed (decoded s).message
unfolding packet_error acceptance
sound s kind payload_length consumed h =
    let g = no-refusal s kind payload_length consumed h in
    let p = pass_on (front_error s) _ g in
    let q = pass (not (eqb (lacking 0 (part_present s)) 0)) 4 _ p.1 in
    let f = front-passed s p.0 in
    let part = part_present s in
    let m = decoded_part part in
    let a = message-means m (omega (arith, length-message s f, f.least)) q.1 in
    let j = ap (λ (r : Reading). r.judgement) (decoded-good s g) ∙ h in
    let ek : get_or m 0 0 ≡ kind = cc j in
    let en : length_byte s - 4 ≡ payload_length = cc j in
    let ec : length_byte s + 2 ≡ consumed = cc j in
    let em : m ≡ message_of kind a.payload = a.bytes ∙ ap (λ (k : ℕ). message_of k a.payload) ek in
    let lp : length (take consumed s) ≡ consumed = length-take-le consumed s (omega (arith, f.whole)) in
    record {
      payload = a.payload;
      starts = record {
        bytes = take consumed s;
        later = drop consumed s;
        split = sym (take-append-drop consumed s);
        packet = record {
          part = part;
          framed = ap (λ (n : ℕ). take n s) (sym ec) ∙ sym (framed-again s f) ∙ ap (λ (n : ℕ). 0 ∷ n ∷ part) (sym (length_part s f));
          coded = rw em at (decoded-means part f.zeroless (not_eqb _ _ q.0));
          allows = ap (λ (k : ℕ). allowed k (length a.payload)) (sym ek) ∙ a.allows;
        };
        size = sym lp;
      };
      sized = omega (arith, ap length em, length-message_of kind a.payload, length-message s f, f.least);
      held = ap (λ (r : Reading). r.message) (sym (decoded-good s g)) ∙ ap copy_of em;
    }
