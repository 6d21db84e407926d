-- What one parameter reads as: the packet's value where DEVICE_DATA names it, else what it was, and absent in a new row.
use Prim.Native.Nat.{ℕ, ◌≤◌, ◌<◌}
use mathlib.Core.Path.{◌≡◌, refl, ap, ◌∙◌}
use mathlib.Core.Bool.{Bool, true, false, cond, ◌&&◌}
use mathlib.Core.List.{List}
use native.Mathlib.Omega.{arith}
use lib.Dec.{ltb}
use lib.ListN.{length, get_or-replicate}
use borrow.Author.Tests.{lt-ltb, ltb-true}
use Rattle.std.specs.Prelude.{Option, Some, None}
use Rattle.wire.specs.Number.{number_at, Bytes}
use Rattle.catalogue.specs.Format.{kind_int}
use Rattle.catalogue.specs.Lookup.{parameter_of, kind_in}
use Rattle.value.specs.Meaning.{whole, int_of, short_of, extended, meant}
use Rattle.value.proofs.Shorts.{extended-says}
use Rattle.slot.specs.Slot.{param_count, present_at, bits_at, fresh_slot}
use Rattle.slot.specs.Rows.{slot_at}
use Rattle.slot.specs.declared.Slot.{Slot}
use Rattle.slot.proofs.Filling.{number_small}
use Rattle.table.specs.Places.{place_of, row_at}
use Rattle.parameters.specs.Data.{map_of, named, long_int_year, short_width, long_width, offset_of, value_in, stored}
use Rattle.parameters.specs.Read.{held, absent, refused, content_of, finding, found}
use Rattle.parameters.proofs.Widths.{width-old, width-new, held_plain, held-short}
use Rattle.parameters.proofs.Values.{data-same-device, data-present, data-bits}

-- a row of as many flags and numbers as there are parameters, as each row of a table is
module _
    (c : List ℕ) (payload : List ℕ) (s : Slot) (h : (length s.present ≡ param_count) × (length s.bits ≡ param_count)) (p : ℕ)
  where
    abbrev after : Slot
    after = stored c payload s

    present-as : (b : Bool) → p < param_count → named (map_of payload) p ≡ b → present_at after p ≡ cond b true (present_at s p)
    present-as b l n = data-present c payload s h.0 p l ∙ ap (λ (x : Bool). cond x true (present_at s p)) n

    bits-as :
        (b : Bool) → p < param_count → named (map_of payload) p ≡ b →
        bits_at after p ≡ cond b (value_in c s (map_of payload) payload p) (bits_at s p)
    bits-as b l n =
        data-bits c payload s h.1 p l ∙ ap (λ (x : Bool). cond x (value_in c s (map_of payload) payload p) (bits_at s p)) n

    -- LAW: a parameter that the map names reads as the packet's value, by the catalogue's kind of it
    pub named-reads :
        p < param_count → named (map_of payload) p ≡ true →
        content_of c (stored c payload s) p ≡
        held (meant (kind_in (parameter_of c s.device p)) (value_in c s (map_of payload) payload p))
    unfolding content_of
    named-reads l n =
        rw (lt-ltb p param_count l, present-as true l n, bits-as true l n, (data-same-device c payload s).device-same)

    -- an INT that the map names
    module _ (l : p < param_count) (n : named (map_of payload) p ≡ true) (k : (kind_in (parameter_of c s.device p)) ≡ kind_int) where
      -- LAW: from a device of a year below 6 the 32 bits of the signed number of its two bytes are held
      pub old-int-bits :
          s.year < long_int_year → bits_at (stored c payload s) p ≡ extended (number_at short_width payload (offset_of c s (map_of payload) p))
      old-int-bits y = bits-as true l n ∙ rw (k, width-old s.year y) (held-short _)

      -- LAW: so that it reads as that number
      pub old-int-reads :
          Bytes payload → s.year < long_int_year →
          content_of c (stored c payload s) p ≡ held (whole (short_of (number_at short_width payload (offset_of c s (map_of payload) p))))
      old-int-reads b y =
          let at = offset_of c s (map_of payload) p in
          let says = extended-says (number_at short_width payload at) (number_small short_width payload at b) in
          named-reads l n ∙ rw (k, width-old s.year y) (ap (λ z. held (whole z)) (ap int_of (held-short _) ∙ says))

      -- LAW: and from any other device as that of its four bytes
      pub new-int-reads :
          long_int_year ≤ s.year →
          content_of c (stored c payload s) p ≡ held (whole (int_of (number_at long_width payload (offset_of c s (map_of payload) p))))
      new-int-reads y =
          named-reads l n ∙ rw (k, width-new s.year y) (ap (λ b. held (whole (int_of b))) (held_plain long_width _ (λ e. omega arith)))

    -- LAW: any other parameter reads as before
    pub unnamed-reads : named (map_of payload) p ≡ false → content_of c (stored c payload s) p ≡ content_of c s p
    unfolding content_of
    unnamed-reads n = go (ltb p param_count) refl
      where
        go :
            (b : Bool) → ltb p param_count ≡ b →
            cond (b && present_at after p) (held (meant (kind_in (parameter_of c after.device p)) (bits_at after p))) absent ≡
            cond (b && present_at s p) (held (meant (kind_in (parameter_of c s.device p)) (bits_at s p))) absent
        go false e = refl
        go true e =
            let l = ltb-true p param_count e in
            rw (present-as false l n, bits-as false l n, (data-same-device c payload s).device-same)

-- LAW: a new row has no values
pub fresh-reads :
    (c : List ℕ) (taken : Bool) (socket device year uid p : ℕ) → content_of c (fresh_slot taken socket device year uid) p ≡ absent
unfolding content_of
fresh-reads c taken socket device year uid p = go (ltb p param_count) refl
  where
    go :
        (b : Bool) → ltb p param_count ≡ b →
        cond (b && present_at (fresh_slot taken socket device year uid) p)
        (held (meant (kind_in (parameter_of c device p)) (bits_at (fresh_slot taken socket device year uid) p)))
        absent ≡ absent
    go false e = refl
    go true e = rw (get_or-replicate param_count p false false (ltb-true p param_count e))

-- LAW: reading answers what the row of the socket's device holds
pub read_found :
    (slots : ℕ) (c t : List ℕ) (socket i p : ℕ) → place_of slots t socket ≡ Some i → found slots c t socket p ≡ content_of c (slot_at t i) p
read_found slots c t socket i p e = ap (λ (z : Option ℕ). finding c (row_at t z) p) e

-- LAW: and 15 where the socket has none
pub read_none : (slots : ℕ) (c t : List ℕ) (socket p : ℕ) → place_of slots t socket ≡ None → found slots c t socket p ≡ refused 15
read_none slots c t socket p e = ap (λ (z : Option ℕ). finding c (row_at t z) p) e
