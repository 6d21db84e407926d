-- Two rows of one device type. If they are of one year, a payload is laid out and judged alike for both. If their INTs differ in width,
-- a payload that is laid out for the one, and names an INT and readable parameters alone, is 17 for the other.
use Prim.Native.Nat.{ℕ, zero, suc, ◌≤◌, ◌<◌, ◌^◌}
use mathlib.Core.Path.{◌≡◌, refl, sym, ap, ◌∙◌}
use mathlib.Core.Bool.{Bool, true, false, cond}
use mathlib.Core.List.{List}
use mathlib.Core.Logic.{⊎_elim, ◌≢◌}
use native.Mathlib.Omega.{arith}
use native.Mathlib.Nat.{eq-or-lt_of_le}
use lib.Dec.{eqb}
use borrow.Author.Tests.{lt-ltb, le-ltb}
use Rattle.wire.proofs.Chains.{every-same}
use Rattle.catalogue.specs.Format.{kind_int, kind_float}
use Rattle.catalogue.specs.Lookup.{parameter_of, is_readable, kind_in}
use Rattle.slot.specs.Slot.{param_count}
use Rattle.slot.specs.declared.Slot.{Slot}
use Rattle.table.specs.Change.{refused}
use Rattle.parameters.specs.Data.{map_of, named, long_int_year, short_width, long_width, flag_width, width, width_of, span_if, offset_of, value_in}
use Rattle.parameters.specs.Data.{readable_if, all_readable, size_of, flag_if, all_flags, judged}
use Rattle.parameters.proofs.Widths.{width-old, width-new}
use Rattle.parameters.proofs.Judged.{means-refused-17}
use Rattle.parameters.proofs.Payloads.{payload_of, map_back, size_back}

-- ROWS OF ONE YEAR
module _ (c : List ℕ) (s u : Slot) (d : u.device ≡ s.device) (y : u.year ≡ s.year) where
  -- LAW: values have the same widths
  pub same_width : (p : ℕ) → width_of c u p ≡ width_of c s p
  same_width p = rw (d, y)

  same-offset : (map n : ℕ) → offset_of c u map n ≡ offset_of c s map n
  unfolding offset_of
  same-offset map zero = refl
  same-offset map (suc n) = rw (same-offset map n, same_width n)

  -- LAW: a payload has the same values
  pub same-value : (map : ℕ) (payload : List ℕ) (p : ℕ) → value_in c u map payload p ≡ value_in c s map payload p
  same-value map payload p = rw (same_width p, same-offset map p)

  same-readable : (map : ℕ) → all_readable c u map ≡ all_readable c s map
  unfolding all_readable
  same-readable map =
      every-same param_count (λ p. readable_if c u p (named map p)) (λ p. readable_if c s p (named map p)) (λ p l. rw d)

  same_flags : (map : ℕ) (payload : List ℕ) → all_flags c u map payload ≡ all_flags c s map payload
  unfolding all_flags
  same_flags map payload =
      every-same param_count (λ p. flag_if c u p (named map p) (value_in c u map payload p))
      (λ p. flag_if c s p (named map p) (value_in c s map payload p)) (λ p l. rw (same-value map payload p, d))

  -- LAW: and is judged alike
  pub same-judged : (payload : List ℕ) → judged c u payload ≡ judged c s payload
  unfolding judged size_of
  same-judged payload =
      rw (same-readable (map_of payload), same-offset (map_of payload) param_count, same_flags (map_of payload) payload)

-- ROWS OF DIFFERENT WIDTHS
width-order : (y z kind : ℕ) → y < long_int_year → long_int_year ≤ z → width y kind ≤ width z kind
unfolding width
width-order y z kind l g = rw (lt-ltb y long_int_year l, le-ltb z long_int_year g) (go (eqb kind kind_int) (eqb kind kind_float))
  where
    go : (int float : Bool) → cond int short_width (cond float long_width flag_width) ≤ cond int long_width (cond float long_width flag_width)
    go true float = omega arith
    go false true = omega arith
    go false false = omega arith

-- a payload that is as long as another row asks
laid-out-17 :
    (c : List ℕ) (s u : Slot) (map : ℕ) (values : ℕ → ℕ) → map < 2 ^ 32 →
    ((q : ℕ) → q < param_count → named map q ≡ true → is_readable (parameter_of c s.device q) ≡ true) →
    size_of c u map ≢ size_of c s map → judged c s (payload_of c u map values) ≡ refused 17
laid-out-17 c s u map values m r n =
    let e = map_back c u map values m in
    means-refused-17 c s (payload_of c u map values)
    (record {
      readable = λ q l i. r q l (ap (λ (x : ℕ). named x q) (sym e) ∙ i);
      differs = λ z. n (sym (size_back c u map values) ∙ z ∙ ap (size_of c s) e);
    })

-- s is the row of an old device, u that of a new one; each parameter that the map names is readable, and one is an INT
module _
    (c : List ℕ) (s u : Slot) (d : u.device ≡ s.device) (old : s.year < long_int_year) (new : long_int_year ≤ u.year) (map : ℕ)
    (r : (q : ℕ) → q < param_count → named map q ≡ true → is_readable (parameter_of c s.device q) ≡ true) (p : ℕ) (l : p < param_count)
    (n : named map p ≡ true) (k : (kind_in (parameter_of c s.device p)) ≡ kind_int)
  where
    span-order : (q : ℕ) (b : Bool) → span_if c s q b ≤ span_if c u q b
    span-order q true = rw d (width-order s.year u.year (kind_in (parameter_of c s.device q)) old new)
    span-order q false = omega arith

    offset-order : (q : ℕ) → offset_of c s map q ≤ offset_of c u map q
    unfolding offset_of
    offset-order zero = omega arith
    offset-order (suc q) = omega (arith, offset-order q, span-order q (named map q))

    int-order : span_if c s p (named map p) < span_if c u p (named map p)
    int-order = rw (n, d, k, width-old s.year old, width-new u.year new) (omega arith)

    offset-less : (q : ℕ) → p < q → offset_of c s map q < offset_of c u map q
    unfolding offset_of
    offset-less zero h = absurd (omega arith)
    offset-less (suc q) h =
        ⊎_elim
        (λ (e : p ≡ q). omega (arith, offset-order q, rw e at int-order))
        (λ (m : p < q). omega (arith, offset-less q m, span-order q (named map q)))
        (let g : p ≤ q = omega arith in eq-or-lt_of_le g)

    sizes : size_of c s map < size_of c u map
    unfolding size_of
    sizes = offset-less param_count l

    -- LAW: an INT in four bytes is 17 for the old device
    pub long-refused : (values : ℕ → ℕ) → map < 2 ^ 32 → judged c s (payload_of c u map values) ≡ refused 17
    long-refused values m = laid-out-17 c s u map values m r (λ e. omega (arith, sizes, e))

    -- LAW: and one in two bytes for the new one
    pub short-refused : (values : ℕ → ℕ) → map < 2 ^ 32 → judged c u (payload_of c s map values) ≡ refused 17
    short-refused values m =
        laid-out-17 c u s map values m (λ q g i. ap (λ (x : ℕ). (is_readable (parameter_of c x q))) d ∙ r q g i) (λ e. omega (arith, sizes, e))
