-- `list_skip::stride_at` meets its contract, by the element's code.
use Prim.Native.Nat.{ℕ, ◌+◌}
use mathlib.Core.Path.{◌≡◌, sym, ap, ◌∙◌}
use native.Mathlib.Omega.{arith}
use Rattle.list.specs.declared.Kind.TheVariants.{Int, Float, Str, Blob, Vocab}
use Rattle.list.specs.Kind.{code_of, kind_of}
use Rattle.list.proofs.Codes.{not-kind, each-kind}
use Rattle.list.specs.Open.{value_size}
use Rattle.list_skip.specs.Skip.{stride}
use Rattle.list_skip.proofs.Ends.{stride-value, stride-list}
use Rattle.list_skip.proofs.stride_at.Goals as goal

pub returns-in-1 : goal.returns-in-1
returns-in-1 c =
    let a = c.args in
    let e : a.at + 8 ≡ a.at + 4 + 4 = omega arith in
    c.up_to.ensures ∙ ap (λ (n : ℕ). stride n 0) e ∙ sym (stride-value a.s.now a.at Int (sym c.u32_at-code.ensures ∙ c.in-1.is))

pub returns-in-9 : goal.returns-in-9
returns-in-9 c =
    let a = c.args in
    let e : a.at + 8 ≡ a.at + 4 + 4 = omega arith in
    c.up_to-in-9.ensures ∙ ap (λ (n : ℕ). stride n 0) e ∙ sym (stride-value a.s.now a.at Vocab (sym c.u32_at-code.ensures ∙ c.in-9.is))

pub returns-in-10 : goal.returns-in-10
returns-in-10 c =
    let a = c.args in
    let e : a.at + 8 + 4 ≡ a.at + 4 + 8 = omega arith in
    c.up_to-in-10.ensures ∙ ap (λ (n : ℕ). stride n 0) e ∙ sym (stride-value a.s.now a.at Float (sym c.u32_at-code.ensures ∙ c.in-10.is))

pub returns-in-4 : goal.returns-in-4
returns-in-4 c =
    let a = c.args in
    let e : a.at + 8 + c.u32_at-n.result ≡ a.at + 4 + value_size a.s.now (a.at + 4) Str = omega (arith, c.u32_at-n.ensures) in
    c.up_to-in-4.ensures ∙ ap (λ (n : ℕ). stride n 0) e ∙ sym (stride-value a.s.now a.at Str (sym c.u32_at-code.ensures ∙ c.in-4.is))

pub returns-in-12 : goal.returns-in-12
returns-in-12 c =
    let a = c.args in
    let e : a.at + 8 + c.u32_at-n.result ≡ a.at + 4 + value_size a.s.now (a.at + 4) Blob = omega (arith, c.u32_at-n.ensures) in
    c.up_to-in-12.ensures ∙ ap (λ (n : ℕ). stride n 0) e ∙ sym (stride-value a.s.now a.at Blob (sym c.u32_at-code.ensures ∙ c.in-12.is))

pub returns-in_default : goal.returns-in_default
returns-in_default c =
    let a = c.args in
    let no = not-kind _ (each-kind (λ k. c.u32_at-code.result ≡ code_of k → ⊥) (λ e. omega arith) (λ e. omega arith) (λ e. omega arith) (λ e. omega arith) (λ e. omega arith)) in
    c.list_stride.ensures ∙ rw (c.u32_at-code.ensures, c.u32_at-n.ensures) (sym (stride-list a.s.now a.at (ap kind_of (sym c.u32_at-code.ensures) ∙ no)))
