-- "Each good packet whole in the line is handed over, in order, no matter what came before it, and nothing else."
use Rattle.std.proofs.Common.{◌≡◌, ℕ, zero, suc, ◌+◌, ◌-◌, ◌<◌, ◌≤◌, true, List, [], ◌∷◌, ◌++◌, length, take, sym, refl, ap, ◌∙◌, append-nil, arith, length-append, take_at, eq-eqb, ne_eqb}
use native.Mathlib.Decide.{dec_le}
use lib.Seq.{append_snoc}
use Rattle.wire.specs.Number.{Bytes}
use Rattle.packet.specs.Packet.{PART_LEAST, length_byte, packet_error}
use Rattle.packet.proofs.FrontTests.{Front}
use Rattle.packet.proofs.Stands.{packet-stands}
use Rattle.packet_line.specs.State.{State, fresh, skipping, opened, inside, begun, is_state}
use Rattle.packet_line.specs.Turn.{Finding, nothing, good, refused, Turn, turn, turn_of}
use Rattle.packet_line.specs.Findings.{Found, noted, findings, line_findings}
use Rattle.packet_line.specs.Whole.{Standing, standing, packet_at, packets_in, handing, handed}
use Rattle.packet_line.proofs.Turns.{found-step, fresh-00, skipping-00, opened-00, inside-00, fresh-byte, skipping-byte}
use Rattle.packet_line.proofs.Turns.{opened-small, opened-length, inside-held, inside-last, judged-good, judged-refused}
use Rattle.packet_line.proofs.States.{inside-means, zeroless-more, turn-state}
use Rattle.packet_line.proofs.Reader.{error-one, error-mark, error-size, error-zero, error-short, front-whole}

-- where the packet reader accepts none, and where it accepts one
pub none-at : (place : ℕ) (s : List ℕ) (number : ℕ) → packet_error s ≡ number → (number ≡ 0 → ⊥) → packet_at place s ≡ []
none-at place s number e n = rw (e, ne_eqb number 0 n)

pub one_at : (place : ℕ) (s : List ℕ) → packet_error s ≡ 0 → packet_at place s ≡ standing place (take (length_byte s + 2) s) ∷ []
one_at place s e = rw (eq-eqb (packet_error s) 0 e)

pub none_here : (place b : ℕ) (bytes : List ℕ) → (b ≡ 0 → ⊥) → packets_in place (b ∷ bytes) ≡ packets_in (suc place) bytes
unfolding packets_in
none_here place b bytes n = ap (λ (l : List Standing). l ++ packets_in (suc place) bytes) (none-at place (b ∷ bytes) 2 (error-mark b bytes n) (λ e. omega arith))

-- the packet that a state has begun, if the bytes to come make it a good one
abbrev pending : State → ℕ → List ℕ → List Standing
pending fresh place bytes = []
pending skipping place bytes = []
pending opened place bytes = packet_at (place - 1) (0 ∷ bytes)
pending (inside size held) place bytes = packet_at (place - 2 - length held) (begun size (held ++ bytes))

-- from a state on, the packets handed over are that one and those that stand in the bytes to come
abbrev Hands : State → ℕ → List ℕ → Type 0
Hands st place bytes = handed (findings place st bytes) ≡ pending st place bytes ++ packets_in place bytes

handed-noted : (place : ℕ) (f : Finding) (fs : List Found) → handed (noted place f fs) ≡ handing place f (handed fs)
unfolding handed
handed-noted place nothing fs = refl
handed-noted place (good packet) fs = refl
handed-noted place (refused number) fs = refl

-- no packet is pending at the end
hands_end : (st : State) (place : ℕ) → is_state st ≡ true → Hands st place []
unfolding findings handed packets_in
hands_end fresh place h = refl
hands_end skipping place h = refl
hands_end opened place h = sym (append-nil _ ∙ none-at (place - 1) (0 ∷ []) 1 error-one (λ e. omega arith))
hands_end (inside size held) place h =
    let e : packet_error (begun size (held ++ [])) ≡ 1 = rw (append-nil held) (error-short size held (inside-means size held h)) in
    sym (append-nil _ ∙ none-at (place - 2 - length held) (begun size (held ++ [])) 1 e (λ e. omega arith))

module _ (place b : ℕ) (bytes : List ℕ) (small : b < 256) (ih : (next : State) → is_state next ≡ true → Hands next (suc place) bytes) where
  by_turn : (st next : State) (f : Finding) → is_state st ≡ true → turn_of st b ≡ turn f next
      → handed (findings place st (b ∷ bytes)) ≡ handing place f (pending next (suc place) bytes ++ packets_in (suc place) bytes)
  by_turn st next f h e =
      ap handed (found-step st next f b bytes e place)
      ∙ handed-noted place f (findings (suc place) next bytes)
      ∙ ap (handing place f) (ih next (ap (λ (t : Turn). is_state t.next) (sym e) ∙ turn-state st b h small))

  -- a byte that is no 00 where nothing is pending or what was is refused: bytes are skipped
  skips : (st : State) (f : Finding) → is_state st ≡ true → ((l : List Standing) → handing place f l ≡ l) → turn_of st b ≡ turn f skipping → (b ≡ 0 → ⊥)
      → pending st place (b ∷ bytes) ≡ [] → Hands st place (b ∷ bytes)
  skips st f h g e n p =
      by_turn st skipping f h e ∙ g (packets_in (suc place) bytes) ∙ sym (none_here place b bytes n)
      ∙ ap (λ (l : List Standing). l ++ packets_in place (b ∷ bytes)) (sym p)

  -- the length byte of a packet to come
  hands-length : (b ≡ 0 → ⊥) → PART_LEAST ≤ b → Hands opened place (b ∷ bytes)
  unfolding is_state
  hands-length n l =
      let at : suc place - 2 - 0 ≡ place - 1 = omega arith in
      by_turn opened (inside b []) nothing refl (opened-length b n l)
      ∙ ap (λ (k : ℕ). packet_at k (0 ∷ b ∷ bytes) ++ packets_in (suc place) bytes) at
      ∙ ap (λ (l : List Standing). packet_at (place - 1) (0 ∷ b ∷ bytes) ++ l) (sym (none_here place b bytes n))

  -- an encoded byte of it
  module _ (size : ℕ) (held : List ℕ) (h : is_state (inside size held) ≡ true) (n : b ≡ 0 → ⊥) where
    hands-held : length held + 1 < size → Hands (inside size held) place (b ∷ bytes)
    hands-held l =
        let at : suc place - 2 - length (held ++ b ∷ []) ≡ place - 2 - length held = omega (arith, length-append held (b ∷ [])) in
        by_turn (inside size held) (inside size (held ++ b ∷ [])) nothing h (inside-held b n size held l)
        ∙ ap (λ (k : ℕ). packet_at k (begun size ((held ++ b ∷ []) ++ bytes)) ++ packets_in (suc place) bytes) at
        ∙ ap (λ (l : List ℕ). packet_at (place - 2 - length held) (begun size l) ++ packets_in (suc place) bytes) (append_snoc held b bytes)
        ∙ ap (λ (l : List Standing). packet_at (place - 2 - length held) (begun size (held ++ b ∷ bytes)) ++ l) (sym (none_here place b bytes n))

    -- its last one
    module _ (l : size ≤ length held + 1) where
      abbrev packet : List ℕ
      packet = begun size (held ++ b ∷ [])

      whole : Front packet
      whole =
          let g = inside-means size held h in
          front-whole size (held ++ b ∷ []) g.least (omega (arith, length-append held (b ∷ []), g.fewer)) (zeroless-more held b g.zeroless n)

      joined : packet ++ bytes ≡ begun size (held ++ b ∷ bytes)
      joined = ap (begun size) (append_snoc held b bytes)

      last-stands : packet_error (begun size (held ++ b ∷ bytes)) ≡ packet_error packet
      last-stands = ap packet_error (sym joined) ∙ packet-stands packet bytes whole

      hands-last : (k : ℕ) → packet_error packet ≡ k → Hands (inside size held) place (b ∷ bytes)
      hands-last zero e =
          let g = inside-means size held h in
          let size_is : length packet ≡ size + 2 = omega (arith, length-append held (b ∷ []), g.fewer) in
          let at : place + 1 - length packet ≡ place - 2 - length held = omega (arith, length-append held (b ∷ [])) in
          let first : packet_at (place - 2 - length held) (begun size (held ++ b ∷ bytes)) ≡ standing (place - 2 - length held) packet ∷ [] =
          one_at (place - 2 - length held) (begun size (held ++ b ∷ bytes)) (last-stands ∙ e)
          ∙ ap (λ (s : List ℕ). standing (place - 2 - length held) (take (size + 2) s) ∷ []) (sym joined)
          ∙ ap (λ (s : List ℕ). standing (place - 2 - length held) s ∷ []) (take_at packet bytes (size + 2) size_is) in
          by_turn (inside size held) fresh (good packet) h (inside-last b n size held l ∙ judged-good packet e)
          ∙ ap (λ (k : ℕ). standing k packet ∷ packets_in (suc place) bytes) at
          ∙ ap (λ (l : List Standing). standing (place - 2 - length held) packet ∷ l) (sym (none_here place b bytes n))
          ∙ ap (λ (l : List Standing). l ++ packets_in place (b ∷ bytes)) (sym first)
      hands-last (suc k) e =
          skips (inside size held) (refused (suc k)) h (λ l. refl) (inside-last b n size held l ∙ judged-refused packet (suc k) e (λ z. omega arith)) n
          (none-at (place - 2 - length held) (begun size (held ++ b ∷ bytes)) (suc k) (last-stands ∙ e) (λ z. omega arith))

-- a 00 where nothing is pending or what was is refused: a packet is opened
opens : (place : ℕ) (bytes : List ℕ) → ((next : State) → is_state next ≡ true → Hands next (suc place) bytes)
    → (st : State) (f : Finding) → is_state st ≡ true → ((l : List Standing) → handing place f l ≡ l) → turn_of st 0 ≡ turn f opened
    → pending st place (0 ∷ bytes) ≡ [] → Hands st place (0 ∷ bytes)
unfolding packets_in
opens place bytes ih st f h g e p =
    let at : suc place - 1 ≡ place = omega arith in
    by_turn place 0 bytes (omega arith) ih st opened f h e ∙ g (packet_at (suc place - 1) (0 ∷ bytes) ++ packets_in (suc place) bytes)
    ∙ ap (λ (k : ℕ). packet_at k (0 ∷ bytes) ++ packets_in (suc place) bytes) at
    ∙ ap (λ (l : List Standing). l ++ packets_in place (0 ∷ bytes)) (sym p)

hands-step : (place b : ℕ) (bytes : List ℕ) → b < 256 → ((next : State) → is_state next ≡ true → Hands next (suc place) bytes)
    → (st : State) → is_state st ≡ true → Hands st place (b ∷ bytes)
hands-step place zero bytes m ih fresh h = opens place bytes ih fresh nothing h (λ l. refl) fresh-00 refl
hands-step place (suc b) bytes m ih fresh h = skips place (suc b) bytes m ih fresh (refused 2) h (λ l. refl) (fresh-byte (suc b) (λ e. omega arith)) (λ e. omega arith) refl
hands-step place zero bytes m ih skipping h = opens place bytes ih skipping nothing h (λ l. refl) skipping-00 refl
hands-step place (suc b) bytes m ih skipping h = skips place (suc b) bytes m ih skipping nothing h (λ l. refl) (skipping-byte (suc b) (λ e. omega arith)) (λ e. omega arith) refl
hands-step place zero bytes m ih opened h =
    opens place bytes ih opened (refused 3) h (λ l. refl) opened-00
    (none-at (place - 1) (0 ∷ 0 ∷ bytes) 3 (error-size 0 bytes (omega arith)) (λ e. omega arith))
hands-step place (suc b) bytes m ih opened h = by (dec_le PART_LEAST (suc b))
  where
    by : Dec (PART_LEAST ≤ suc b) → Hands opened place (suc b ∷ bytes)
    by (yes l) = hands-length place (suc b) bytes m ih (λ e. omega arith) l
    by (no l) =
        let s : suc b < PART_LEAST = omega arith in
        skips place (suc b) bytes m ih opened (refused 3) h (λ l. refl) (opened-small (suc b) (λ e. omega arith) s) (λ e. omega arith)
        (none-at (place - 1) (0 ∷ suc b ∷ bytes) 3 (error-size (suc b) bytes s) (λ e. omega arith))
hands-step place zero bytes m ih (inside size held) h =
    let g = inside-means size held h in
    opens place bytes ih (inside size held) (refused 4) h (λ l. refl) (inside-00 size held)
    (none-at (place - 2 - length held) (begun size (held ++ 0 ∷ bytes)) 4 (error-zero size held bytes g.least g.fewer) (λ e. omega arith))
hands-step place (suc b) bytes m ih (inside size held) h = by (dec_le size (length held + 1))
  where
    by : Dec (size ≤ length held + 1) → Hands (inside size held) place (suc b ∷ bytes)
    by (yes l) = hands-last place (suc b) bytes m ih size held h (λ e. omega arith) l (packet_error (begun size (held ++ suc b ∷ []))) refl
    by (no l) = hands-held place (suc b) bytes m ih size held h (λ e. omega arith) (omega arith)

hands : (bytes : List ℕ) (place : ℕ) (st : State) → is_state st ≡ true → Bytes bytes → Hands st place bytes
hands [] place st h k = hands_end st place h
hands (b ∷ bytes) place st h k = hands-step place b bytes k.0 (λ next g. hands bytes (suc place) next g k.1) st h

-- the packets handed over are those that the packet reader accepts anywhere in the line
pub packets-handed : (line : List ℕ) → Bytes line → handed (line_findings line) ≡ packets_in 0 line
unfolding is_state
packets-handed line k = hands line 0 fresh refl k
