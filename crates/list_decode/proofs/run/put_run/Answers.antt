-- `list_decode::run::put_run` meets its contract: the code's arm is its kind's.
use Rattle.std.specs.Prelude.{Some}
use mathlib.Core.Path.{◌≡◌, refl, ap, ◌∙◌}
use native.Mathlib.Omega.{arith}
use Rattle.list.specs.declared.Kind.TheVariants.{Float, Str, Blob}
use Rattle.list.specs.Kind.{kind_of}
use Rattle.list.proofs.Codes.{kind-of-code}
use Rattle.list_decode.proofs.Runs.{numbers-here, floats-here, stored-here, number-kind}
use Rattle.list_decode.proofs.run.put_run.Goals as goal

pub put_each-requires : goal.put_each-requires
put_each-requires c =
    let k : kind_of c.args.code ≡ Some Float = ap kind_of c.in-10.is ∙ kind-of-code Float in
    let f = rw k at c.requires in
    (floats-here _ _ _ _ f.0, f.1)

pub put_each-requires-in-4 : goal.put_each-requires-in-4
put_each-requires-in-4 c =
    let k : kind_of c.args.code ≡ Some Str = ap kind_of c.in-4.is ∙ kind-of-code Str in
    let f = rw k at c.requires in
    rw c.in-4.is (stored-here _ 4 _ _ _ _ f.0, f.1)

pub put_each-requires-in-12 : goal.put_each-requires-in-12
put_each-requires-in-12 c =
    let k : kind_of c.args.code ≡ Some Blob = ap kind_of c.in-12.is ∙ kind-of-code Blob in
    let f = rw k at c.requires in
    rw c.in-12.is (stored-here _ 12 _ _ _ _ f.0, f.1)

pub put_each-requires-in_default : goal.put_each-requires-in_default
put_each-requires-in_default c =
    let a = c.args in
    let w = number-kind a.s.now a.code a.n a.x.used a.x.pos (kind_of a.code) refl c.requires.0 (λ e. omega arith) (λ e. omega arith) (λ e. omega arith) in
    (numbers-here _ a.code _ _ _ w.0, rw w.1 at c.requires.1)

pub returns-in-10 : goal.returns-in-10
returns-in-10 c =
    let k : kind_of c.args.code ≡ Some Float = ap kind_of c.in-10.is ∙ kind-of-code Float in
    rw k c.put_each.ensures

pub returns-in-4 : goal.returns-in-4
returns-in-4 c =
    let k : kind_of c.args.code ≡ Some Str = ap kind_of c.in-4.is ∙ kind-of-code Str in
    rw k (rw c.in-4.is at c.put_each-in-4.ensures)

pub returns-in-12 : goal.returns-in-12
returns-in-12 c =
    let k : kind_of c.args.code ≡ Some Blob = ap kind_of c.in-12.is ∙ kind-of-code Blob in
    rw k (rw c.in-12.is at c.put_each-in-12.ensures)

pub returns-in_default : goal.returns-in_default
returns-in_default c =
    let a = c.args in
    let w = number-kind a.s.now a.code a.n a.x.used a.x.pos (kind_of a.code) refl c.requires.0 (λ e. omega arith) (λ e. omega arith) (λ e. omega arith) in
    rw w.1 c.put_each-in_default.ensures
