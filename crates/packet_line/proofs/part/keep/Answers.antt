-- `keep` puts the bytes behind those held and counts them.
use Rattle.wire.specs.Area.{put_at}
use Rattle.packet_line.specs.Steps.{IsInside}
use Rattle.std.proofs.Common.{◌≡◌, ℕ, ◌+◌, ◌≤◌, List, [], ◌∷◌, ◌++◌, length, get_or, set, sym, ap, ◌∙◌, arith, append-nil, length-append, ◌<◌}
use Rattle.packet_line.proofs.Areas.{Inside, inside-area, held-put}
use Rattle.packet_line.specs.State.{inside, held_in, size_in, begun, INSIDE, line_of, state_bytes}
use Rattle.packet_line.proofs.part.keep.Goals as goal

-- the state inside a part, and the bytes behind those held
module _ (line bytes : List ℕ) (inside : IsInside line) (room : length (held_in line) + length bytes < size_in line) where
  area : Inside line
  area = inside-area line inside

  -- the count is a byte
  fits : get_or line 1 0 + length bytes ≤ 255
  fits = omega (arith, area.count, area.part.most)

  -- the area behind the copy
  put : (out : List ℕ) → out ≡ put_at line (4 + get_or line 1 0) bytes → out ≡ line_of (INSIDE ∷ length (held_in line) ∷ begun (size_in line) (held_in line ++ bytes))
  put out e = e ∙ held-put line bytes area (omega arith)

-- no bytes behind those held
none-more : (held xs : List ℕ) → length xs ≡ 0 → held ≡ held ++ xs
none-more held [] e = sym (append-nil held)
none-more held (x ∷ xs) e = absurd (omega (arith, e))

pub returns-then-bytes-eq0 : goal.returns-then-bytes-eq0
returns-then-bytes-eq0 c =
    let line = c.args.line.now in
    c.requires.0.spelled ∙ ap (λ (l : List ℕ). state_bytes (inside (size_in line) l)) (none-more (held_in line) c.args.bytes.now c.if-bytes-eq0.true)

pub bounds-line-1 : goal.bounds-line-1
bounds-line-1 c = omega (arith, (inside-area _ c.requires.0).long)

pub overflow_add-line : goal.overflow_add-line
overflow_add-line c = omega (arith, fits _ _ c.requires.0 c.requires.1)

pub overflow_cast-line : goal.overflow_cast-line
overflow_cast-line c = omega (arith, fits _ _ c.requires.0 c.requires.1)

pub bounds-line-1-2 : goal.bounds-line-1-2
bounds-line-1-2 c = omega (arith, ap length (put _ _ c.requires.0 c.requires.1 _ c.copy_at.ensures))

pub returns : goal.returns
unfolding state_bytes
returns c =
    let line = c.args.line.now in
    let held = held_in line in
    let bytes = c.args.bytes.now in
    let n : get_or line 1 0 + length bytes ≡ length (held ++ bytes) = omega (arith, (inside-area _ c.requires.0).count, length-append held bytes) in
    ap (λ (l : List ℕ). set l 1 (get_or line 1 0 + length bytes)) (put line bytes c.requires.0 c.requires.1 _ c.copy_at.ensures)
    ∙ ap (λ (k : ℕ). line_of (INSIDE ∷ k ∷ begun (size_in line) (held ++ bytes))) n
