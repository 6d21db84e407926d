-- What the definitions say of parameter p, by its byte in the catalogue.
use Prim.Native.Nat.{ℕ, ◌<◌}
use mathlib.Core.Path.{◌≡◌, sym, ap, ◌∙◌}
use mathlib.Core.Bool.{true, ◌||◌, not}
use mathlib.Core.List.{List}
use lib.Dec.{leb, eqb}
use lib.ListN.{get_or}
use Rattle.catalogue.specs.Format.{max_parameters, kind_bool, kind_number, described}
use Rattle.catalogue.specs.Lookup.{device_of, parameter_of, BytesIn, kind_in}
use Rattle.catalogue.specs.declared.Parameter.{Parameter}
use Rattle.catalogue.proofs.Bytes.{kind-is, readable-is}
use Rattle.slot.specs.declared.Slot.{Slot}
use Rattle.parameters.specs.Data.{width, width_of, value_at, readable_if, flag_if}
use Rattle.parameters.specs.Given.{Given}

pub readable-by :
    {c : List ℕ} (s : Slot) {bytes : List ℕ} → BytesIn c (device_of c s.device) bytes → (p : ℕ) → p < max_parameters → {q : Parameter} →
    q ≡ described (get_or bytes p 0) → q.readable ≡ readable_if c s p true
readable-by s h p l e = ap (λ (r : Parameter). r.readable) e ∙ sym (readable-is h p l)

-- and by the year of the row
module _
    {c : List ℕ} (s : Slot) {year : ℕ} {bytes : List ℕ} (g : Given c s year bytes) (p : ℕ) (l : p < max_parameters) {q : Parameter}
    (e : q ≡ described (get_or bytes p 0))
  where
    kind-by : kind_number q.kind ≡ kind_in (parameter_of c s.device p)
    kind-by = ap (λ (r : Parameter). kind_number r.kind) e ∙ sym (kind-is g.bytes-are p l)

    pub width-by : width year (kind_number q.kind) ≡ width_of c s p
    width-by = rw (g.year-is, kind-by)

    pub flag_by :
        (payload : List ℕ) (at : ℕ) →
        (not (eqb (kind_number q.kind) kind_bool) || leb (value_at (width year (kind_number q.kind)) payload at) 1) ≡
        flag_if c s p true (value_at (width_of c s p) payload at)
    flag_by payload at = rw (g.year-is, kind-by)
