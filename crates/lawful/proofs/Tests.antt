-- Laws of tests: whether a kind is BOOL, as the code and the definitions ask it, and what stands behind a test that fails.
use mathlib.Core.Path.{◌≡◌, refl}
use mathlib.Core.Bool.{Bool, false, ◌&&◌}
use lib.Dec.{eqb}
use denote.Enum.Bare.{sameb}
use Rattle.catalogue.specs.Format.{kind_bool, kind_number}
use Rattle.catalogue.specs.contracts.Kind.{the_type}
use Rattle.catalogue.specs.declared.Kind.{Kind}
use Rattle.catalogue.specs.declared.Kind.TheVariants as kind

pub is-bool : (k : Kind) → sameb the_type k kind.Bool ≡ eqb (kind_number k) kind_bool
is-bool kind.Int = refl
is-bool kind.Float = refl
is-bool kind.Bool = refl
is-bool kind.Unknown = refl

-- a test that fails, and so does what it stands before
pub stops : {a b : Bool} (x : Bool) → a ≡ false → b ≡ false → a ≡ (b && x)
stops x e f = rw (e, f)
