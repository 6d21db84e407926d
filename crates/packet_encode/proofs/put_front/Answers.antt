-- `put_front` writes the five bytes before the payload.
use Prim.Native.Nat.{◌+◌, ◌-◌}
use mathlib.Core.Path.{◌≡◌, sym, ◌∙◌}
use mathlib.Core.List.{[], ◌∷◌}
use native.Mathlib.Numerals.{add-one}
use native.Mathlib.Omega.{arith}
use lib.ListN.{length-set}
use lib.Seq.{sets-eq}
use Rattle.packet.specs.Cobs.{code_or, gap_from, gap_before, stuffed}
use Rattle.packet_encode.proofs.EncodeStages.{gap_from-le, code-kept, gap-kept}
use Rattle.packet_encode.proofs.put_front.Goals as goal

pub overflow_add-buffer-2 : goal.overflow_add-buffer-2
overflow_add-buffer-2 c = omega (arith, c.next_code.ensures, gap_from-le c.args.n (c.args.code - 1))

pub overflow_cast-buffer : goal.overflow_cast-buffer
overflow_cast-buffer c = omega (arith, c.next_code.ensures, gap_from-le c.args.n (c.args.code - 1))

pub bounds-buffer-2 : goal.bounds-buffer-2
bounds-buffer-2 c = simp length-set (omega arith)

pub bounds-buffer-3 : goal.bounds-buffer-3
bounds-buffer-3 c = simp length-set (omega arith)

pub returns : goal.returns
unfolding code_or gap_before stuffed
returns c =
    let s = c.args in
    let k : s.kind ≡ 0 → ⊥ = λ e. omega (arith, c.requires.1) in
    sets-eq (0 ∷ (s.n + 4) ∷ (c.next_code.result + 1) ∷ s.kind ∷ c.code_or.result ∷ []) s.buffer.now 0 (omega arith)
    ∙ rw (
      add-one c.next_code.result,
      c.next_code.ensures,
      c.code_or.ensures,
      gap-kept s.kind (gap_from s.n (s.code - 1)) k,
      sym (code-kept s.kind (gap_from s.n (s.code - 1)) k),
    )
