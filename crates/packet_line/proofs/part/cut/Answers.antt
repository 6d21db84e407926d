-- `cut` takes the bytes through their first 00.
use Rattle.packet_line.specs.Steps.{IsInside}
use Rattle.std.proofs.Common.{◌≡◌, ℕ, length, replicate, ap, ◌∙◌, arith, List}
use lib.ListN.{length-replicate}
use Rattle.packet_line.proofs.Areas.{inside-area}
use Rattle.packet_line.specs.State.{LINE_ROOM, size_in, held_in, state_bytes}
use Rattle.packet_line.proofs.Parts.{inside-cut}
use Rattle.wire.proofs.Zeros.{zero-within}
use Rattle.packet_line.proofs.part.cut.Goals as goal

-- the area behind the clearing
cleared : (line out : List ℕ) → IsInside line → out ≡ replicate (length line) 0 → out ≡ replicate LINE_ROOM 0
cleared line out i e = e ∙ ap (λ (n : ℕ). replicate n 0) (inside-area line i).long

pub bounds-line-0 : goal.bounds-line-0
bounds-line-0 c = omega (arith, ap length (cleared _ _ c.requires.0 c.clear.ensures), length-replicate {A = ℕ} LINE_ROOM 0)

pub overflow_add-zero_at : goal.overflow_add-zero_at
overflow_add-zero_at c = omega (arith, c.zero_at.ensures, zero-within c.args.bytes.now, c.requires.1, (inside-area _ c.requires.0).part.most)

pub returns : goal.returns
unfolding state_bytes
returns c = λ rest out.
    let line = c.args.line.now in
    let cut = inside-cut (size_in line) (held_in line) c.args.bytes.now rest c.requires.2 c.requires.1 in
    rw (c.refused.ensures, c.zero_at.ensures, cleared _ _ c.requires.0 c.clear.ensures, cut)
