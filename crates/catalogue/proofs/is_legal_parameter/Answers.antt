-- `catalogue::is_legal_parameter` meets its contract: the kinds that are known are the numbers up to BOOL's.
use Prim.Native.Nat.{ℕ, ◌%◌}
use mathlib.Core.Path.{◌≡◌, ap, ◌∙◌, refl}
use mathlib.Core.Bool.{Bool, true, false, not, cond, ◌&&◌}
use native.Mathlib.Omega.{arith}
use lib.Dec.{leb, ltb, eqb}
use denote.Enum.Bare.{sameb}
use borrow.Author.Tests.{eqb-true, eqb-false, lt-leb}
use Rattle.catalogue.specs.Format.{kind_int, kind_float, kind_bool, kind_of, parameter_legal}
use Rattle.catalogue.specs.contracts.Kind.{the_type}
use Rattle.catalogue.specs.declared.Kind.{Kind}
use Rattle.catalogue.specs.declared.Kind.TheVariants as kind
use Rattle.catalogue.proofs.is_legal_parameter.Goals as goal

known : (bits : ℕ) → not (sameb the_type (kind_of bits) kind.Unknown) ≡ leb bits kind_bool
known bits = go (eqb bits kind_int) (eqb bits kind_float) (eqb bits kind_bool) refl refl refl
  where
    go :
        (int float bool : Bool) → eqb bits kind_int ≡ int → eqb bits kind_float ≡ float → eqb bits kind_bool ≡ bool →
        not (sameb the_type (cond int kind.Int (cond float kind.Float (cond bool kind.Bool kind.Unknown))) kind.Unknown) ≡ leb bits kind_bool
    go true float bool p q r = rw (eqb-true bits kind_int p)
    go false true bool p q r = rw (eqb-true bits kind_float q)
    go false false true p q r = rw (eqb-true bits kind_bool r)
    go false false false p q r =
        rw (lt-leb bits kind_bool (omega (arith, eqb-false bits kind_int p, eqb-false bits kind_float q, eqb-false bits kind_bool r)))

pub returns : goal.returns
unfolding parameter_legal
returns c =
    ap (λ (t : Bool). ltb c.args.b 16 && t)
    (c.ne.ensures ∙ ap (λ (k : Kind). not (sameb the_type k kind.Unknown)) c.kind_of.ensures ∙ known (c.args.b % 4))
