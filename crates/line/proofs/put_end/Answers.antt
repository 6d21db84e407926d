-- `line::put_end` meets its contract: the phase is the first byte of the line state.
use Prim.Native.Nat.{ℕ, ◌≤◌}
use mathlib.Core.List.{[], ◌∷◌}
use mathlib.Core.Path.{◌≡◌, sym, ap, ◌∙◌}
use native.Mathlib.Omega.{arith}
use lib.ListN.{drop, get_or}
use Rattle.packet_line.specs.State.{State, fresh, skipping, opened, inside, size_in, held_in}
use Rattle.packet_line.proofs.Judging.{fresh_in, skipping-in, opened_in, inside-in}
use Rattle.digits.specs.Decimal.{decimal}
use Rattle.output.specs.Output.{Output, puts}
use Rattle.line.specs.Text.{phase_name, end_pieces}
use Rattle.line.proofs.put_end.Goals as goal

-- what is put behind the number makes the pieces of the end whole
whole : (t n o : Output) (offset : ℕ) (st : State) → n ≡ puts t ((101 ∷ 110 ∷ 100 ∷ 32 ∷ []) ∷ decimal offset ∷ []) → o ≡ puts n (drop 2 (end_pieces offset st))
    → o ≡ puts t (end_pieces offset st)
unfolding puts
whole t n o offset st f e = e ∙ ap (λ (t : Output). puts t (drop 2 (end_pieces offset st))) f

pub returns-in-0 : goal.returns-in-0
unfolding puts phase_name
returns-in-0 c = rw (fresh_in _ (sym c.byte_at.ensures ∙ c.in-0.is)) (whole _ _ _ c.args.offset fresh c.put_number.ensures c.put.ensures)

pub returns-in-1 : goal.returns-in-1
unfolding puts phase_name
returns-in-1 c = rw (skipping-in _ (sym c.byte_at.ensures ∙ c.in-1.is)) (whole _ _ _ c.args.offset skipping c.put_number.ensures c.put-in-1.ensures)

pub returns-in-2 : goal.returns-in-2
unfolding puts phase_name
returns-in-2 c = rw (opened_in _ (sym c.byte_at.ensures ∙ c.in-2.is)) (whole _ _ _ c.args.offset opened c.put_number.ensures c.put-in-2.ensures)

pub returns-in_default : goal.returns-in_default
unfolding puts phase_name
returns-in_default c =
    let line = c.args.line.now in
    let late : 3 ≤ get_or line 0 0 = omega (arith, c.byte_at.ensures) in
    rw (inside-in line late) (whole _ _ _ c.args.offset (inside (size_in line) (held_in line)) c.put_number.ensures c.put-in_default.ensures)
