-- 01's "Catalogue C: 01 07 03 03 00 04 09 06 (type 7; INT readable, FLOAT writable, BOOL readable)", and catalogues that are none.
use Prim.Native.Nat.{ℕ}
use mathlib.Core.Path.{◌≡◌, refl}
use mathlib.Core.Bool.{true, false}
use mathlib.Core.List.{List, [], ◌∷◌, ◌++◌}
use Rattle.std.specs.Prelude.{Some, None}
use Rattle.wire.specs.Every.{every}
use Rattle.catalogue.specs.Format.{type_legal, parameters_before, parameter_legal, legal}
use Rattle.catalogue.specs.Lookup.{device_from, device_of, parameter_in, parameter_of}
use Rattle.catalogue.specs.declared.Kind.TheVariants as kind

abbrev pub catalogue_c : List ℕ
catalogue_c = 0x01 ∷ 0x07 ∷ 0x03 ∷ 0x03 ∷ 0x00 ∷ 0x04 ∷ 0x09 ∷ 0x06 ∷ []

pub record BenchC : Type 0 where
  pub is-legal : legal catalogue_c ≡ true
  pub type-7 : device_of catalogue_c 7 ≡ Some (record { first = 0; parameters = 3 })
  pub type-8 : device_of catalogue_c 8 ≡ None
  pub int-readable : parameter_of catalogue_c 7 0 ≡ Some (record { kind = kind.Int; readable = true; writable = false })
  pub float-writable : parameter_of catalogue_c 7 1 ≡ Some (record { kind = kind.Float; readable = false; writable = true })
  pub bool-readable : parameter_of catalogue_c 7 2 ≡ Some (record { kind = kind.Bool; readable = true; writable = false })
  pub no-fourth : parameter_of catalogue_c 7 3 ≡ None
  pub empty-is-legal : legal (0 ∷ 0 ∷ 0 ∷ []) ≡ true
  pub no_bytes : legal [] ≡ false
  pub byte-behind : legal (catalogue_c ++ (0 ∷ [])) ≡ false
  pub kind_3 : legal (0x01 ∷ 0x07 ∷ 0x01 ∷ 0x01 ∷ 0x00 ∷ 0x07 ∷ []) ≡ false
  pub above-15 : legal (0x01 ∷ 0x07 ∷ 0x01 ∷ 0x01 ∷ 0x00 ∷ 0x10 ∷ []) ≡ false
  pub not-rising : legal (0x02 ∷ 0x07 ∷ 0x00 ∷ 0x07 ∷ 0x00 ∷ 0x00 ∷ 0x00 ∷ []) ≡ false

pub bench-C : BenchC
unfolding legal every type_legal parameters_before parameter_legal device_from parameter_in
bench-C =
    record {
      is-legal = refl;
      type-7 = refl;
      type-8 = refl;
      int-readable = refl;
      float-writable = refl;
      bool-readable = refl;
      no-fourth = refl;
      empty-is-legal = refl;
      no_bytes = refl;
      byte-behind = refl;
      kind_3 = refl;
      above-15 = refl;
      not-rising = refl;
    }
