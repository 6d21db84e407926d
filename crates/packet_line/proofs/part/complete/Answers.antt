-- `complete` judges the packet where it is held, and clears the state.
use Rattle.wire.specs.Area.{put_at}
use Rattle.std.proofs.Common.{◌≡◌, ℕ, ◌+◌, ◌-◌, List, ◌∷◌, ◌++◌, length, take, drop, ap, ◌∙◌, arith, length-append, get_or}
use Rattle.packet_line.proofs.Areas.{Inside, inside-area, held-put, length-line, packet-held, judged, clean-zeros}
use Rattle.packet_line.specs.Steps.{delivered, IsInside}
use Rattle.packet_line.specs.State.{LINE_ROOM, INSIDE, line_of, begun, size_in, held_in}
use Rattle.packet.specs.Packet.{packet_error}
use Rattle.packet_line.proofs.part.complete.Goals as goal

-- the state inside a part, and the bytes that complete it
module _ (line bytes : List ℕ) (inside : IsInside line) (all : length (held_in line) + length bytes ≡ size_in line) where
  abbrev part : List ℕ
  part = held_in line ++ bytes

  area : Inside line
  area = inside-area line inside

  sized : length part ≡ size_in line
  sized = length-append (held_in line) bytes ∙ all

  -- the phase, the count and the packet, all there
  abbrev front : List ℕ
  front = INSIDE ∷ length (held_in line) ∷ begun (size_in line) part

  -- the area behind the copy
  module _ (out : List ℕ) (copied : out ≡ put_at line (4 + get_or line 1 0) bytes) where
    put : out ≡ line_of front
    put = copied ∙ held-put line bytes area (omega arith)

    long : length out ≡ LINE_ROOM
    long = ap length put ∙ length-line front (omega (arith, sized, area.part.most))

    whole : take (4 + size_in line - 2) (drop 2 out) ≡ begun (size_in line) part
    whole =
        ap (λ (l : List ℕ). take (4 + size_in line - 2) (drop 2 l)) put
        ∙ packet-held (length (held_in line)) (size_in line) part sized

pub bounds-line-1 : goal.bounds-line-1
bounds-line-1 c = omega (arith, (inside-area _ c.requires.0).long)

pub bounds-line-3 : goal.bounds-line-3
bounds-line-3 c = omega (arith, (inside-area _ c.requires.0).long)

pub overflow_cast-size : goal.overflow_cast-size
overflow_cast-size c = omega (arith, (inside-area _ c.requires.0).part.most)

pub overflow_add-size : goal.overflow_add-size
overflow_add-size c = omega (arith, (inside-area _ c.requires.0).part.most)

pub slice_bounds-deliver-end : goal.slice_bounds-deliver-end
slice_bounds-deliver-end c =
    omega (arith, long _ _ c.requires.0 c.requires.1 _ c.copy_at.ensures, (inside-area _ c.requires.0).part.most)

pub settle-requires : goal.settle-requires
settle-requires c = clean-zeros _ _ c.clear.ensures (long _ _ c.requires.0 c.requires.1 _ c.copy_at.ensures)

pub returns : goal.returns
returns c =
    let line = c.args.line.now in
    let bytes = c.args.bytes.now in
    let area = c.args.packet.now in
    let e = c.settle.ensures in
    let w = whole line bytes c.requires.0 c.requires.1 _ c.copy_at.ensures in
    let error = c.deliver-judged.ensures.0 ∙ ap packet_error w in
    let out = c.deliver-judged.ensures.1 ∙ ap (λ (p : List ℕ). delivered p area) w in
    rw (e.0, e.1, e.2) (judged (size_in line) _ _ (held_in line ++ bytes) area _ (sized line bytes c.requires.0 c.requires.1) error out)
