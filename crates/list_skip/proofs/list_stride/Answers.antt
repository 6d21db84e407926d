-- `list_skip::list_stride` meets its contract, by the list's code.
use Prim.Native.Nat.{ℕ}
use mathlib.Core.Path.{◌≡◌, sym, ap, ◌∙◌}
use native.Mathlib.Omega.{arith}
use Rattle.list.specs.declared.Kind.TheVariants.{Int, Float, Str, Blob, Vocab}
use Rattle.list.specs.Kind.{typed_code}
use Rattle.list.proofs.Codes.{each-kind}
use Rattle.list_skip.specs.Skip.{stride}
use Rattle.list_skip.proofs.Ends.{list-typed, list-other}
use Rattle.list_skip.proofs.list_stride.Goals as goal

pub returns-in-260 : goal.returns-in-260
returns-in-260 c =
    c.up_to-in-260.ensures ∙ ap (λ (n : ℕ). stride n 0) c.run_end.ensures ∙ sym (list-typed _ Str _ _ _ c.in-260.is)

pub returns-in-268 : goal.returns-in-268
returns-in-268 c =
    c.up_to-in-268.ensures ∙ ap (λ (n : ℕ). stride n 0) c.run_end-in-268.ensures ∙ sym (list-typed _ Blob _ _ _ c.in-268.is)

pub returns-in_default : goal.returns-in_default
returns-in_default c =
    sym (list-other c.args.s.now _ _ _
    (each-kind (λ k. c.args.code ≡ typed_code k → ⊥) (λ e. omega arith) (λ e. omega arith) (λ e. omega arith) (λ e. omega arith) (λ e. omega arith)))

pub returns-in-257 : goal.returns-in-257
returns-in-257 c = c.up_to.ensures ∙ sym (list-typed c.args.s.now Int _ _ _ c.in-257.is)

pub returns-in-265 : goal.returns-in-265
returns-in-265 c = c.up_to-in-265.ensures ∙ sym (list-typed c.args.s.now Vocab _ _ _ c.in-265.is)

pub returns-in-266 : goal.returns-in-266
returns-in-266 c = c.up_to-in-266.ensures ∙ sym (list-typed c.args.s.now Float _ _ _ c.in-266.is)
