-- A value is what its meaning says: a caller who knows the meaning knows which case it has.
use mathlib.Core.Path.{◌≡◌, refl, sym, ap, ◌∙◌}
use Rattle.value.specs.Meaning.{Meaning, whole, single, nan, flag, meaning_of}
use Rattle.value.specs.declared.Value.{Value}
use Rattle.value.specs.declared.Value.TheVariants.{Int, Float, Bool, Nan}

-- the case of each meaning
abbrev case_of : Meaning → Value
case_of (whole number) = Int number
case_of (single number) = Float number
case_of (nan bits) = Nan bits
case_of (flag set) = Bool set

value-back : (v : Value) → case_of (meaning_of v) ≡ v
value-back (Int number) = refl
value-back (Float number) = refl
value-back (Bool set) = refl
value-back (Nan bits) = refl

-- LAW: values with one meaning are one value
pub value_same : (v w : Value) → meaning_of v ≡ meaning_of w → v ≡ w
value_same v w e = sym (value-back v) ∙ ap case_of e ∙ value-back w
