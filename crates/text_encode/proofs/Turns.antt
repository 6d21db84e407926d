-- Laws of the text that is spelt from rows: what is written at a row and at the end of a list, and what is still to come.
use Prim.Native.Nat.{ℕ, suc, ◌+◌, ◌-◌, ◌*◌, ◌≤◌, ◌<◌}
use mathlib.Core.Path.{◌≡◌, refl, sym, ap, ◌∙◌}
use mathlib.Core.Bool.{true, false, cond, not, ◌&&◌}
use mathlib.Core.List.{List, [], ◌∷◌, ◌++◌, append_assoc}
use native.Mathlib.Omega.{arith}
use native.Mathlib.Nat.{add-zero}
use lib.Dec.{eqb, leb, ltb}
use lib.ListN.{length, length-append}
use lib.Seq.{sets, length-sets}
use borrow.Author.Tests.{eq-eqb, ne_eqb, eqb-true, eqb-false, le-leb, lt-leb, lt-ltb, ltb-true, not-true, not-false}
use Rattle.wire.proofs.Buffers.{sets_more, joined}
use Rattle.list.specs.declared.Row.{Row}
use Rattle.list.specs.Kind.{list_code, kind_of}
use Rattle.list.specs.Limits.{depth_limit}
use Rattle.list.specs.RowBytes.{row_at}
use Rattle.list_rows.specs.Described.{part}
use Rattle.list_rows.specs.Row.{rows_in, rows_from, stored}
use Rattle.list_rows.specs.Emit.{stored_from}
use Rattle.list_rows.proofs.Rows.{both, front-row, few-left}
use Rattle.list_rows.proofs.Sizes.{stored-turn}
use Rattle.list_rows.proofs.Nestings.{next-element, next-end, next-close}
use Rattle.text.specs.Text.{gap}
use Rattle.text_encode.specs.Spell.{row_text, closing, spell, spell_list, Place, to_come, opened, closed, value_next, Underway}

-- the row of a list uses no byte of the store
list-stored : (r : Row) → r.code ≡ list_code → stored r ≡ 0
unfolding stored kind_of
list-stored r h = rw h

module _ (store : List ℕ) where
  -- a list of which no element is left is closed
  pub spell-close : (rows : List ℕ) (used n : ℕ) (outer : List ℕ) → spell store rows used (n ∷ outer) 0 ≡ closing n ++ spell store rows used outer n
  unfolding spell
  spell-close [] used n outer = next-close _ _ _ n outer
  spell-close (a ∷ []) used n outer = next-close _ _ _ n outer
  spell-close (a ∷ b ∷ []) used n outer = next-close _ _ _ n outer
  spell-close (a ∷ b ∷ c ∷ rows) used n outer = next-close _ _ _ n outer

  pub spell-end : (rows : List ℕ) (used : ℕ) → spell store rows used [] 0 ≡ []
  unfolding spell
  spell-end [] used = next-end _ _ _
  spell-end (a ∷ []) used = next-end _ _ _
  spell-end (a ∷ b ∷ []) used = next-end _ _ _
  spell-end (a ∷ b ∷ c ∷ rows) used = next-end _ _ _

  spell-few : (rows : List ℕ) (used : ℕ) (outer : List ℕ) (left : ℕ) → length rows < 3 → 0 < left → spell store rows used outer left ≡ []
  unfolding spell
  spell-few [] used outer left h more = next-element _ _ _ outer left more
  spell-few (a ∷ []) used outer left h more = next-element _ _ _ outer left more
  spell-few (a ∷ b ∷ []) used outer left h more = next-element _ _ _ outer left more
  spell-few (a ∷ b ∷ c ∷ rows) used outer left h more = absurd (omega arith)

  spell-row :
      (r : Row) (rows : List ℕ) (used : ℕ) (outer : List ℕ) (left : ℕ) → 0 < left
      → spell store (r.code ∷ r.second ∷ r.third ∷ rows) used outer left
      ≡ cond (eqb r.code list_code) (cond (leb depth_limit (suc (length outer))) [] (40 ∷ spell store rows used ((left - 1) ∷ outer) r.second))
      (row_text (part store used (stored r)) r ++ (gap (eqb (left - 1) 0) ++ spell store rows (used + stored r) outer (left - 1)))
  unfolding spell
  spell-row r rows used outer left more = next-element _ _ _ outer left more

  module _ (r : Row) (rows : List ℕ) (used : ℕ) (outer : List ℕ) (left : ℕ) (more : 0 < left) where
    pub spell-value : (r.code ≡ list_code → ⊥) → spell store (r.code ∷ r.second ∷ r.third ∷ rows) used outer left
        ≡ row_text (part store used (stored r)) r ++ (gap (eqb (left - 1) 0) ++ spell store rows (used + stored r) outer (left - 1))
    spell-value h = spell-row r rows used outer left more ∙ rw (ne_eqb r.code list_code h)

    pub spell-list : r.code ≡ list_code → suc (length outer) < depth_limit
        → spell store (r.code ∷ r.second ∷ r.third ∷ rows) used outer left ≡ 40 ∷ spell store rows used ((left - 1) ∷ outer) r.second
    spell-list h l = spell-row r rows used outer left more ∙ rw (eq-eqb r.code list_code h, lt-leb depth_limit (suc (length outer)) l)

    spell-full : r.code ≡ list_code → depth_limit ≤ suc (length outer) → spell store (r.code ∷ r.second ∷ r.third ∷ rows) used outer left ≡ []
    spell-full h l = spell-row r rows used outer left more ∙ rw (eq-eqb r.code list_code h, le-leb depth_limit (suc (length outer)) l)

-- whether a value is next
module _ (rows : List ℕ) (at left : ℕ) where
  pub next-is : value_next rows at left ≡ true → (0 < left) × (at < rows_in rows) × ((r : Row) → r ≡ row_at rows (3 * at) → r.code ≡ list_code → ⊥)
  unfolding value_next
  next-is h =
      let a = both (ltb 0 left) (ltb at (rows_in rows) && not (eqb (row_at rows (3 * at)).code list_code)) h in
      let b = both (ltb at (rows_in rows)) (not (eqb (row_at rows (3 * at)).code list_code)) a.1 in
      let other = eqb-false _ _ (not-true _ b.1) in
      (ltb-true 0 left a.0, ltb-true at (rows_in rows) b.0, λ r is-r e. other (sym (ap (λ (q : Row). q.code) is-r) ∙ e))

  pub next-none : value_next rows at left ≡ false → 0 < left → at < rows_in rows → (row_at rows (3 * at)).code ≡ list_code
  unfolding value_next
  next-none h more long = eqb-true _ _ (not-false _ (rw (lt-ltb 0 left more, lt-ltb at (rows_in rows) long) at h))

-- the part from a to a + b has b bytes
pub part-size : (a b : ℕ) → a + b - a ≡ b
part-size a b = omega arith

abbrev pub place_of : ℕ → ℕ → ℕ → ℕ → Place
place_of row used end left = record { row = row; used = used; end = end; left = left }

module _ {rows store whole : List ℕ} {size : ℕ} {text outer : List ℕ} {x : Place} (g : Underway rows store whole size text outer x) where
  -- the area has the length that it has at the end
  pub whole-size : length whole ≡ length text
  whole-size = ap length g.area ∙ length-sets text x.end (to_come rows store outer x)

  -- nothing is still to come
  ended : to_come rows store outer x ≡ [] → (text ≡ whole) × (x.end ≡ size)
  ended e = (sym (g.area ∙ ap (sets text x.end) e), sym (g.all ∙ ap (λ (t : List ℕ). x.end + length t) e ∙ add-zero x.end))

  -- some text was written, and the rest is to come from another place on
  goes :
      (around front next : List ℕ) (y : Place) → to_come rows store outer x ≡ front ++ to_come rows store around y → next ≡ sets text x.end front
      → y.end ≡ x.end + length front → y.used + stored_from (rows_from rows y.row) ≤ length store → Underway rows store whole size next around y
  goes around front next y e is-next is-end up =
      let same : length next ≡ length text = ap length is-next ∙ length-sets text x.end front in
      let t : List ℕ = to_come rows store around y in
      let w : length (to_come rows store outer x) ≡ length front + length t = ap length e ∙ length-append front t in
      record {
        area = g.area ∙ ap (sets text x.end) e ∙ sym (sets_more text front t x.end y.end is-end) ∙ ap (λ (l : List ℕ). sets l y.end t) (sym is-next);
        all = g.all ∙ omega arith;
        fits = omega (arith, g.fits);
        inside = up;
      }

  -- there is room for what comes next
  room : (front rest : List ℕ) → to_come rows store outer x ≡ front ++ rest → x.end + length front ≤ length text
  room front rest e = omega (arith, g.all, g.fits, ap length e, length-append front rest)

  -- THE ELEMENTS ARE ALL WRITTEN
  module _ (none_left : x.left ≡ 0) where
    module _ (outermost : outer ≡ []) where
      pub all-ended : (text ≡ whole) × (x.end ≡ size)
      all-ended =
          ended (ap (λ (l : List ℕ). spell store (rows_from rows x.row) x.used l x.left) outermost
          ∙ ap (spell store (rows_from rows x.row) x.used []) none_left ∙ spell-end store (rows_from rows x.row) x.used)

    module _ (n : ℕ) (around : List ℕ) (is-outer : outer ≡ n ∷ around) where
      to-close : to_come rows store outer x ≡ closing n ++ spell store (rows_from rows x.row) x.used around n
      to-close =
          ap (λ (l : List ℕ). spell store (rows_from rows x.row) x.used l x.left) is-outer
          ∙ ap (spell store (rows_from rows x.row) x.used (n ∷ around)) none_left ∙ spell-close store (rows_from rows x.row) x.used n around

      pub close-room : x.end + length (closing n) ≤ length text
      close-room = room (closing n) _ to-close

      pub close-goes : (next : List ℕ) (y : Place) → next ≡ sets text x.end (closing n) → y ≡ closed n x → Underway rows store whole size next around y
      close-goes next y is-next is_y = rw is_y (goes around (closing n) next (closed n x) to-close is-next refl g.inside)

  -- AN ELEMENT IS TO COME
  module _ (more : 0 < x.left) where
    pub rows-ended : rows_in rows ≤ x.row → (text ≡ whole) × (x.end ≡ size)
    rows-ended h = ended (spell-few store (rows_from rows x.row) x.used outer x.left (few-left rows x.row h) more)

    module _ (long : x.row < rows_in rows) (r : Row) (is-r : r ≡ row_at rows (3 * x.row)) where
      at_row : to_come rows store outer x ≡ spell store (r.code ∷ r.second ∷ r.third ∷ rows_from rows (x.row + 1)) x.used outer x.left
      at_row = ap (λ (l : List ℕ). spell store l x.used outer x.left) (front-row rows x.row long r is-r)

      pub behind-row : x.used + stored r + stored_from (rows_from rows (x.row + 1)) ≤ length store
      behind-row = omega (arith, g.inside, stored-turn rows x.row long r is-r)

      -- one that is no list
      module _ (single : r.code ≡ list_code → ⊥) (t : ℕ) (is-t : t ≡ stored r) where
        valued : to_come rows store outer x ≡ (row_text (part store x.used t) r ++ gap (eqb (x.left - 1) 0))
            ++ spell store (rows_from rows (x.row + 1)) (x.used + t) outer (x.left - 1)
        valued =
            at_row ∙ spell-value store r (rows_from rows (x.row + 1)) x.used outer x.left more single
            ∙ ap (λ (k : ℕ). row_text (part store x.used k) r
            ++ (gap (eqb (x.left - 1) 0) ++ spell store (rows_from rows (x.row + 1)) (x.used + k) outer (x.left - 1))) (sym is-t)
            ∙ sym (append_assoc (row_text (part store x.used t) r) (gap (eqb (x.left - 1) 0)) _)

        pub value_room : x.end + length (row_text (part store x.used t) r) + length (gap (eqb (x.left - 1) 0)) ≤ length text
        value_room =
            let a : List ℕ = row_text (part store x.used t) r in
            let b : List ℕ = gap (eqb (x.left - 1) 0) in
            let fit : x.end + length (a ++ b) ≤ length text = room (a ++ b) _ valued in
            omega (arith, length-append a b)

        -- its text was written
        module _
            (text₁ : List ℕ) (end₁ m : ℕ) (is_m : m ≡ t) (w : text₁ ≡ sets text x.end (row_text (part store x.used m) r))
            (e : end₁ ≡ x.end + length (row_text (part store x.used m) r)) where
          abbrev a : List ℕ
          a = row_text (part store x.used t) r

          abbrev b : List ℕ
          b = gap (eqb (x.left - 1) 0)

          w₁ : text₁ ≡ sets text x.end a
          w₁ = w ∙ ap (λ (z : ℕ). sets text x.end (row_text (part store x.used z) r)) is_m

          e₁ : end₁ ≡ x.end + length a
          e₁ = e ∙ ap (λ (z : ℕ). x.end + length (row_text (part store x.used z) r)) is_m

          pub gap-room : end₁ + length (gap (eqb (x.left - 1) 0)) ≤ length text₁
          gap-room = omega (arith, value_room, e₁, ap length w₁ ∙ length-sets text x.end a)

          pub value-goes :
              (text₂ : List ℕ) (end₂ : ℕ) → text₂ ≡ sets text₁ end₁ (gap (eqb (x.left - 1) 0)) → end₂ ≡ end₁ + length (gap (eqb (x.left - 1) 0))
              → Underway rows store whole size text₂ outer (place_of (x.row + 1) (x.used + t) end₂ (x.left - 1))
          value-goes text₂ end₂ w₂ e₂ =
              goes outer (a ++ b) text₂ (place_of (x.row + 1) (x.used + t) end₂ (x.left - 1)) valued
              (joined text x.end end₁ a b e₁ w₁ w₂) (omega (arith, e₁, e₂, length-append a b)) (omega (arith, behind-row))

      -- a list
      module _ (nest : r.code ≡ list_code) where
        pub full-ended : depth_limit ≤ suc (length outer) → (text ≡ whole) × (x.end ≡ size)
        full-ended h = ended (at_row ∙ spell-full store r (rows_from rows (x.row + 1)) x.used outer x.left more nest h)

        module _ (shallow : suc (length outer) < depth_limit) where
          to-open : to_come rows store outer x ≡ 40 ∷ spell store (rows_from rows (x.row + 1)) x.used ((x.left - 1) ∷ outer) r.second
          to-open = at_row ∙ spell-list store r (rows_from rows (x.row + 1)) x.used outer x.left more nest shallow

          pub open-room : x.end < length text
          open-room = omega (arith, room (40 ∷ []) _ to-open)

          pub open-goes :
              (next : List ℕ) (y : Place) → next ≡ sets text x.end (40 ∷ []) → y ≡ opened rows x
              → Underway rows store whole size next ((x.left - 1) ∷ outer) y
          open-goes next y is-next is_y =
              let e : opened rows x ≡ place_of (x.row + 1) x.used (x.end + 1) r.second =
              ap (λ (q : Row). place_of (x.row + 1) x.used (x.end + 1) q.second) (sym is-r) in
              rw (is_y ∙ e) (goes ((x.left - 1) ∷ outer) (40 ∷ []) next (place_of (x.row + 1) x.used (x.end + 1) r.second) to-open is-next refl
              (omega (arith, behind-row, list-stored r nest)))

-- ALL OF A LIST: r is its row
first-stored : (rows : List ℕ) → stored_from (rows_from rows 1) ≤ stored_from rows
unfolding stored_from
first-stored [] = omega arith
first-stored (a ∷ []) = omega arith
first-stored (a ∷ b ∷ []) = omega arith
first-stored (a ∷ b ∷ c ∷ rows) = omega arith

pub started :
    (rows store text : List ℕ) (end : ℕ) (r : Row) → r ≡ row_at rows 0 → stored_from rows ≤ length store
    → end + length (spell_list rows store) ≤ length text
    → Underway rows store (sets text end (spell_list rows store)) (end + length (spell_list rows store)) text [] (place_of 1 0 end r.second)
unfolding spell_list
started rows store text end r is-r there fits =
    let e : spell store (rows_from rows 1) 0 [] (row_at rows 0).second ≡ spell store (rows_from rows 1) 0 [] r.second =
    ap (λ (q : Row). spell store (rows_from rows 1) 0 [] q.second) (sym is-r) in
    record {
      area = ap (sets text end) e;
      all = ap (λ (l : List ℕ). end + length l) e;
      fits = fits;
      inside = omega (arith, first-stored rows);
    }
