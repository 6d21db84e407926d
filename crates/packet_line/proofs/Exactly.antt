-- The packets handed over are exactly those that stand whole in the line, in order.
use Rattle.std.proofs.Common.{◌≡◌, ℕ, zero, suc, ◌+◌, ◌≤◌, false, ◌⊎◌, ◌↔◌, List, [], ◌∷◌, ◌++◌, length, take, drop, sym, refl, ap, ◌∙◌, inl, inr, append-nil, add-one, arith, take-append-drop, length-take-le, take_at}
use mathlib.Core.Path.{subst⁻¹}
use mathlib.Core.List.Memᴰ
use mathlib.Core.List.{Memᴰ}
use Rattle.wire.specs.Zero.{has_zero}
use Rattle.wire.specs.Number.{Bytes}
use Rattle.wire.proofs.ByteLists.{take-bytes}
use Rattle.packet.specs.Packet.{IsPacket, Reading, answered, length_byte, packet_error, acceptance, decoded}
use Rattle.packet.proofs.FrontTests.{Front}
use Rattle.packet.proofs.DecodeStages.{good-front, decoded-good}
use Rattle.packet.proofs.Accepted.{complete, sound, no-refusal}
use Rattle.packet_line.specs.State.{fresh, state_bytes}
use Rattle.packet_line.specs.Findings.{line_findings}
use Rattle.packet_line.specs.Series.{Lending, series, all_taken, all_found}
use Rattle.packet_line.specs.Whole.{Standing, standing, StandsAt, packet_at, packets_in, handed, Rising}
use Rattle.packet_line.proofs.Reader.{error-none}
use Rattle.packet_line.proofs.Cuts.{followed}
use Rattle.packet_line.proofs.Standing.{none-at, one_at, none_here, packets-handed}

-- what the packet reader accepts is a packet
record Accepted (bytes : List ℕ) : Type 0 where
  kind : ℕ
  payload : List ℕ
  packet : IsPacket bytes kind payload

accepted-is : (s : List ℕ) → packet_error s ≡ 0 → Accepted (take (length_byte s + 2) s)
unfolding acceptance
accepted-is s e =
    let j : (decoded s).judgement ≡ answered s = ap (λ (r : Reading). r.judgement) (sym (decoded-good s e)) in
    let w = sound s _ _ _ j in
    let bytes = w.starts.bytes in
    let here : bytes ≡ take (length_byte s + 2) s =
    sym (ap (take (length_byte s + 2)) w.starts.split ∙ take_at bytes w.starts.later (length_byte s + 2) (sym w.starts.size)) in
    rw (← here) (record { kind = _; payload = w.payload; packet = w.starts.packet })

-- and a packet is accepted, with anything behind it
module _ (bytes later : List ℕ) (kind : ℕ) (payload : List ℕ) (p : IsPacket bytes kind payload) where
  accepts : packet_error (bytes ++ later) ≡ 0
  accepts =
      no-refusal (bytes ++ later) kind (length payload) (length bytes)
      (ap (λ (r : Reading). r.judgement) (complete (bytes ++ later) kind payload (length bytes) (record { bytes = bytes; later = later; split = refl; packet = p; size = refl })))

  accepts-all : take (length_byte (bytes ++ later) + 2) (bytes ++ later) ≡ bytes
  accepts-all = rw p.framed (take_at (0 ∷ length p.part ∷ p.part) later (length p.part + 2) (omega arith))

-- a packet found stands there
record Stands (rest : List ℕ) (from : ℕ) (x : Standing) : Type 0 where
  offset : ℕ
  placed : x.place ≡ from + offset
  stands : StandsAt rest offset x.bytes

stands_here : (s : List ℕ) (from : ℕ) (x : Standing) → Memᴰ x (packet_at from s) → Stands s from x
stands_here s from x m = by (packet_error s) refl
  where
    by : (k : ℕ) → packet_error s ≡ k → Stands s from x
    by (suc k) e = absurd (Memᴰ.not-nil (rw (none-at from s (suc k) e (λ z. omega arith)) at m))
    by zero e =
        let q : x ≡ standing from (take (length_byte s + 2) s) = Memᴰ.eq_of_singleton (rw (one_at from s e) at m) in
        let w = accepted-is s e in
        rw q (record {
          offset = 0;
          placed = omega arith;
          stands = record {
            before = [];
            later = drop (length_byte s + 2) s;
            split = sym (take-append-drop (length_byte s + 2) s);
            placed = refl;
            kind = w.kind;
            payload = w.payload;
            packet = w.packet;
          };
        })

further : (b : ℕ) (rest : List ℕ) (from : ℕ) (x : Standing) → Stands rest (suc from) x → Stands (b ∷ rest) from x
further b rest from x w =
    let t = w.stands in
    record {
      offset = suc w.offset;
      placed = omega (arith, w.placed);
      stands = record {
        before = b ∷ t.before;
        later = t.later;
        split = ap (λ (l : List ℕ). b ∷ l) t.split;
        placed = ap suc t.placed;
        kind = t.kind;
        payload = t.payload;
        packet = t.packet;
      };
    }

found-stands : (rest : List ℕ) (from : ℕ) (x : Standing) → Memᴰ x (packets_in from rest) → Stands rest from x
unfolding packets_in
found-stands [] from x m = absurd (Memᴰ.not-nil m)
found-stands (b ∷ rest) from x m = by (Memᴰ.append_cases (packet_at from (b ∷ rest)) m) (found-stands rest (suc from) x)
  where
    by : Memᴰ x (packet_at from (b ∷ rest)) ⊎ Memᴰ x (packets_in (suc from) rest)
        → (Memᴰ x (packets_in (suc from) rest) → Stands rest (suc from) x) → Stands (b ∷ rest) from x
    by (inl h) ih = stands_here (b ∷ rest) from x h
    by (inr h) ih = further b rest from x (ih h)

-- a packet that stands there is found
found_first : (s : List ℕ) (from : ℕ) → packet_error s ≡ 0 → Memᴰ (standing from (take (length_byte s + 2) s)) (packets_in from s)
unfolding packets_in
found_first [] from e = absurd (omega (arith, error-none))
found_first (b ∷ s) from e = Memᴰ.append_left {s = packet_at from (b ∷ s)} (packets_in (suc from) s) (rw (one_at from (b ∷ s) e) (Memᴰ.head refl))

found-behind : (before rest : List ℕ) (from at : ℕ) (x : Standing) → at ≡ from + length before
    → Memᴰ x (packets_in at rest) → Memᴰ x (packets_in from (before ++ rest))
unfolding packets_in
found-behind [] rest from at x e m = let z : at ≡ from = omega arith in rw z at m
found-behind (b ∷ before) rest from at x e m =
    Memᴰ.append_right (packet_at from (b ∷ (before ++ rest))) (found-behind before rest (suc from) at x (omega arith) m)

-- "Each good packet whole in the line", and nothing else
pub stands-exactly : (line : List ℕ) (place : ℕ) (bytes : List ℕ) → Memᴰ (standing place bytes) (packets_in 0 line) ↔ StandsAt line place bytes
stands-exactly line place bytes = (to, from)
  where
    to : Memᴰ (standing place bytes) (packets_in 0 line) → StandsAt line place bytes
    to m =
        let w = found-stands line 0 (standing place bytes) m in
        let e : place ≡ w.offset = omega (arith, w.placed) in
        rw e w.stands

    from : StandsAt line place bytes → Memᴰ (standing place bytes) (packets_in 0 line)
    from t =
        let s = bytes ++ t.later in
        let m = found_first s place (accepts bytes t.later t.kind t.payload t.packet) in
        let here = ap (standing place) (sym (accepts-all bytes t.later t.kind t.payload t.packet)) in
        rw t.split (found-behind t.before s 0 place (standing place bytes) (omega (arith, t.placed)) (Memᴰ.cast here m))

-- "in order": the places rise, and each packet begins at or behind the end of the one before
rising_down : (i j : ℕ) (ss : List Standing) → i ≤ j → Rising j ss → Rising i ss
rising_down i j [] l r = tt
rising_down i j (s ∷ ss) l r = (omega (arith, r.0), r.1)

-- behind a packet's 00 no 00 comes up to its end
behind-first : (b : ℕ) (bytes : List ℕ) → (b ≡ 0 → ⊥) → has_zero (b ∷ bytes) ≡ has_zero bytes
unfolding has_zero
behind-first zero bytes n = absurd (n refl)
behind-first (suc b) bytes n = refl

tail-zeroless : (b : ℕ) (bytes : List ℕ) → Front (b ∷ bytes) → has_zero (take (length_byte (b ∷ bytes) + 1) bytes) ≡ false
tail-zeroless b [] f = absurd (omega (arith, f.whole))
tail-zeroless b (size ∷ rest) f = rw (add-one size) (behind-first size (take size rest) (λ e. omega (arith, f.least)) ∙ f.zeroless)

rising-head : (b : ℕ) (bytes : List ℕ) (from : ℕ)
    → ((passed : ℕ) → has_zero (take passed bytes) ≡ false → Rising (suc from + passed) (packets_in (suc from) bytes))
    → (k : ℕ) → packet_error (b ∷ bytes) ≡ k → Rising (from + 0) (packet_at from (b ∷ bytes) ++ packets_in (suc from) bytes)
unfolding has_zero
rising-head b bytes from ih zero e =
    let f = good-front (b ∷ bytes) e in
    let size = length_byte (b ∷ bytes) in
    let n : length (take (size + 2) (b ∷ bytes)) ≡ size + 2 = length-take-le (size + 2) (b ∷ bytes) f.whole in
    rw (one_at from (b ∷ bytes) e)
    (omega arith, rising_down _ (suc from + (size + 1)) (packets_in (suc from) bytes) (omega arith) (ih (size + 1) (tail-zeroless b bytes f)))
rising-head b bytes from ih (suc k) e =
    rw (none-at from (b ∷ bytes) (suc k) e (λ z. omega arith))
    (rising_down (from + 0) (suc from + 0) (packets_in (suc from) bytes) (omega arith) (ih 0 refl))

-- where so many bytes at the front are no 00, no packet begins in them
rising : (bytes : List ℕ) (from passed : ℕ) → has_zero (take passed bytes) ≡ false → Rising (from + passed) (packets_in from bytes)
unfolding packets_in has_zero
rising [] from passed z = tt
rising (b ∷ bytes) from zero z = rising-head b bytes from (rising bytes (suc from)) (packet_error (b ∷ bytes)) refl
rising (zero ∷ bytes) from (suc passed) z = absurd (let e : ◌≡◌ {A = ℕ} 0 1 = cc in omega arith)
rising (suc b ∷ bytes) from (suc passed) z =
    subst⁻¹ (Rising (from + suc passed)) (none_here from (suc b) bytes (λ e. omega arith))
    (rising_down (from + suc passed) (suc from + passed) (packets_in (suc from) bytes) (omega arith) (rising bytes (suc from) passed z))

pub in_order : (line : List ℕ) → Rising 0 (packets_in 0 line)
unfolding has_zero
in_order line = rising line 0 0 refl

-- a packet handed over is accepted by the packet reader, and its bytes are the line's at its place
pub handed-accepted : (line : List ℕ) → Bytes line → (place : ℕ) (bytes : List ℕ) → Memᴰ (standing place bytes) (handed (line_findings line))
    → (packet_error bytes ≡ 0) × StandsAt line place bytes
handed-accepted line k place bytes m =
    let t = (stands-exactly line place bytes).0 (rw (packets-handed line k) at m) in
    (ap packet_error (sym (append-nil bytes)) ∙ accepts bytes [] t.kind t.payload t.packet, t)

-- so whatever series of calls hands the line in hands over the packets that stand in the bytes taken
pub calls-hand : (line : List ℕ) (ls : List Lending) → Bytes line
    → handed (all_found 0 (series (state_bytes fresh) line ls)) ≡ packets_in 0 (take (all_taken (series (state_bytes fresh) line ls)) line)
calls-hand line ls k =
    let os = series (state_bytes fresh) line ls in
    ap handed (followed line ls k).found ∙ packets-handed (take (all_taken os) line) (take-bytes (all_taken os) line k)
