-- "Later bytes are ignored": where the packet at the front is all there, what follows it has no part in the reading.
use Prim.Native.Nat.{ℕ, ◌+◌, ◌≤◌}
use mathlib.Core.Path.{◌≡◌, refl, sym, ap, ◌∙◌}
use mathlib.Core.Bool.{not, cond}
use mathlib.Core.List.{List, [], ◌∷◌, ◌++◌}
use native.Mathlib.Omega.{arith}
use lib.Dec.{eqb, ltb}
use lib.ListN.{length, get_or, length-append}
use lib.Seq.{take-append-le}
use borrow.Author.Tests.{ne_eqb, le-ltb}
use Rattle.wire.specs.Zero.{has_zero}
use Rattle.packet.specs.Packet.{length_byte, part_present, front_error, packet_error, acceptance, decoded}

-- the tests that are left where all of the packet is there
abbrev front : ℕ → ℕ → List ℕ → ℕ
front mark n part = cond (not (eqb mark 0)) 2 (cond (ltb n 4) 3 (cond (has_zero part) 4 0))

front-whole : (s : List ℕ) → length_byte s + 2 ≤ length s → front_error s ≡ front (get_or s 0 0) (length_byte s) (part_present s)
unfolding front_error
front-whole s h = rw (ne_eqb (length s) 0 (λ e. omega arith), ne_eqb (length s) 1 (λ e. omega arith), le-ltb (length s) (length_byte s + 2) h)

-- the parts of the packet, with later bytes
record Same (s later : List ℕ) : Type 0 where
  mark : get_or (s ++ later) 0 0 ≡ get_or s 0 0
  byte : length_byte (s ++ later) ≡ length_byte s
  part : part_present (s ++ later) ≡ part_present s

same : (s later : List ℕ) → length_byte s + 2 ≤ length s → Same s later
same [] later h = absurd (omega arith)
same (a ∷ []) later h = absurd (omega arith)
same (a ∷ b ∷ r) later h = record { mark = refl; byte = refl; part = take-append-le b r later (omega arith) }

module _ (s later : List ℕ) (h : length_byte s + 2 ≤ length s) where
  front-later : front_error (s ++ later) ≡ front_error s
  front-later =
      let m = same s later h in
      front-whole (s ++ later) (omega (arith, m.byte, length-append s later)) ∙
      ap (λ x. front x (length_byte (s ++ later)) (part_present (s ++ later))) m.mark ∙
      ap (λ x. front (get_or s 0 0) x (part_present (s ++ later))) m.byte ∙
      ap (front (get_or s 0 0) (length_byte s)) m.part ∙
      sym (front-whole s h)

  error-later : packet_error (s ++ later) ≡ packet_error s
  unfolding packet_error
  error-later = rw (front-later, (same s later h).part)

  accept-later : acceptance (s ++ later) ≡ acceptance s
  unfolding acceptance
  accept-later = rw ((same s later h).part, (same s later h).byte)

  -- LAW: bytes behind a whole packet do not change how it is read, refusals among them
  pub later-read : decoded (s ++ later) ≡ decoded s
  unfolding decoded
  later-read = rw (error-later, accept-later)
