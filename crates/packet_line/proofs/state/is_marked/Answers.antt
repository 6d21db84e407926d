-- `is_marked` looks for the first 00 and counts the bytes that are none.
use Rattle.std.proofs.Common.{◌≡◌, ℕ, suc, ◌+◌, ◌≤◌, true, false, length, get_or, take, drop, sym, ap, ◌∙◌, add-one, arith, get_or-drop, eq-eqb, eqb-true, List, ◌<◌}
use Rattle.wire.specs.Zero.{has_zero, zero_at}
use Rattle.wire.specs.Every.{every}
use Rattle.wire.proofs.Zeros.{zero-first, zero-before}
use Rattle.packet.proofs.Zeros.{clash}
use Rattle.packet_line.specs.Steps.{is_mark}
use Rattle.packet_line.proofs.Judging.{same_test}
use Rattle.packet_line.proofs.Marks.{zero-each, marks-held, marks-free, marks-all, zero-upto, count-free, free-count}
use Rattle.packet_line.proofs.state.is_marked.Goals as goal

fits : (room : List ℕ) (held : ℕ) → held + 1 < length room → suc held ≤ length room
fits room held h = omega arith

-- what the test of each byte says of the first 00
free : (room : List ℕ) (held : ℕ) → held + 1 < length room → every (length room) (is_mark room held) ≡ true → get_or room (held + 1) 0 ≡ 0
free room held h e =
    let k = suc held in
    let n : k + 0 ≡ held + 1 = omega arith in
    sym (ap (λ (i : ℕ). get_or room i 0) n) ∙ sym (get_or-drop k room 0 0) ∙ zero-each (drop k room) 0 (marks-free room held (fits room held h) e)

pub returns-then-room-next-ne0 : goal.returns-then-room-next-ne0
returns-then-room-next-ne0 c = same_test false _ (λ q. clash (sym q)) (λ e. absurd (c.if-room-next-ne0.true (free _ _ c.requires.0 e)))

pub first_zero-requires : goal.first_zero-requires
first_zero-requires c = omega (arith, zero-upto c.args.room.now (c.args.held + 1) c.requires.0 c.if-room-next-ne0.false, c.requires.0)

pub returns-then-first_zero-next : goal.returns-then-first_zero-next
returns-then-first_zero-next c =
    let room = c.args.room.now in
    let held = c.args.held in
    let h = c.requires.0 in
    same_test false _ (λ q. clash (sym q)) (λ e. absurd (c.if-first_zero-next.true (c.first_zero.ensures
    ∙ zero-first room (held + 1) h (ap (λ (n : ℕ). has_zero (take n room)) (add-one held) ∙ marks-held room held (fits room held h) e) (free room held h e))))

pub returns : goal.returns
returns c =
    let room = c.args.room.now in
    let held = c.args.held in
    let f = fits room held c.requires.0 in
    let at : zero_at room ≡ suc held = sym c.first_zero.ensures ∙ c.if-first_zero-next.false ∙ add-one held in
    let none : has_zero (take (suc held) room) ≡ false = sym (ap (λ (n : ℕ). has_zero (take n room)) at) ∙ zero-before room in
    same_test _ _
    (λ e. marks-all room held f none (count-free room held f none c.requires.1 (sym c.filled.ensures ∙ eqb-true _ _ e)) (length room) (omega arith))
    (λ e. eq-eqb _ _ (c.filled.ensures ∙ free-count room held f none (omega (arith, c.requires.0, c.requires.1)) (marks-free room held f e)))
