-- `area::put_stop` meets its contract: its pieces in a row.
use Prim.Native.Nat.{ℕ}
use mathlib.Core.Path.{ap, ◌∙◌}
use mathlib.Core.List.{List, [], ◌∷◌}
use Rattle.digits.specs.Decimal.{decimal}
use Rattle.output.specs.Output.{puts, newline}
use Rattle.report.proofs.area.put_stop.Goals as goal

pub returns : goal.returns
unfolding puts
returns c =
    let a = c.args in
    let rest : List (List ℕ) = (32 ∷ 100 ∷ 101 ∷ 112 ∷ 116 ∷ 104 ∷ 32 ∷ []) ∷ decimal a.depth ∷ newline ∷ [] in
    c.put_line.ensures
    ∙ ap (λ t. puts t rest) c.put_number-behind_offset.ensures
    ∙ ap (λ t. puts t ((32 ∷ 97 ∷ 116 ∷ 32 ∷ []) ∷ decimal a.offset ∷ rest)) c.put_number-behind_number.ensures
