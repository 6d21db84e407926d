-- Where the filling stands, from token to token, and that it ends with the list's rows and store bytes.
use Prim.Native.Nat.{ℕ, suc, ◌+◌, ◌*◌, ◌^◌, ◌≤◌, ◌<◌}
use mathlib.Core.Path.{◌≡◌, refl, sym, ap, ◌∙◌}
use mathlib.Core.Bool.{Bool, true, false, cond}
use mathlib.Core.List.{List, [], ◌∷◌, ◌++◌, append_assoc}
use native.Mathlib.Omega.{arith}
use lib.Dec.{eqb}
use lib.ListN.{length, get_or, drop, length-append}
use lib.Seq.{sets, length-sets}
use borrow.Author.Tests.{ne_eqb}
use Rattle.digits.specs.Read.{Read, got}
use Rattle.wire.proofs.Buffers.{sets_more}
use Rattle.list.specs.Limits.{list_limit, row_room}
use Rattle.list.specs.Kind.{list_code}
use Rattle.list.specs.Tree.{Value, Elements, int}
use Rattle.list.specs.Bytes.{number}
use Rattle.list.specs.Rows.{value_row, value_store}
use Rattle.list.specs.RowBytes.{packed}
use Rattle.list.specs.Parse.{word}
use Rattle.list.proofs.RowBound.{value_row_lem}
use Rattle.text.specs.Read.{value_at}
use Rattle.text.specs.Tokens.{Token, opening, closing, item, opens}
use Rattle.text_decode.specs.declared.element.Cursor.{Cursor}
use Rattle.text_decode.specs.declared.fill.Place.{Place}
use Rattle.text_decode.specs.Fill.{Frame, frame, Filling, closed_in, placed, filled, size_of, outer_of, numbers_of, frames_of}
use Rattle.text_decode.specs.Pieces.{cursor, read_or, size_read, Countable, counted_one, closed_at, around_at, behind_space, ValueHere, ValuePut}
use Rattle.text_decode.specs.Stage.{place, whole_of, Stage, Ready, Goes}
use Rattle.text_decode.proofs.Fillings.{numbers-size, filled-grows, placed-few}
use Rattle.text_decode.proofs.Nexts.{Next, next-element, next-closing, next-opening, next-value}
use Rattle.text_decode.proofs.Areas.{number_read, number_put, rows_more}
use Rattle.text_decode.proofs.Knowns.{of-got}

-- a list that is closed
closed-numbers : (x : Frame) (around : List Frame) (bs : List ℕ)
    → numbers_of around ++ (list_code ∷ x.count ∷ 0 ∷ x.rows) ≡ numbers_of (frames_of (closed_in x around bs))
closed-numbers x [] bs = refl
closed-numbers x (y ∷ around) bs =
    append_assoc (numbers_of around) (list_code ∷ y.count ∷ 4 * outer_of around ∷ y.rows) (list_code ∷ x.count ∷ 0 ∷ x.rows)

closed-size : (x : Frame) (around : List Frame) (bs : List ℕ) → size_of (frames_of (closed_in x around bs)) ≡ size_of (x ∷ around)
closed-size x [] bs = refl
closed-size x (y ∷ around) bs = rw (length-append y.rows (list_code ∷ x.count ∷ 0 ∷ x.rows)) (omega arith)

closed-outer : (x : Frame) (around : List Frame) (bs : List ℕ) → size_of (closed_in x around bs).around ≡ outer_of around
closed-outer x [] bs = refl
closed-outer x (y ∷ around) bs = refl

closed-bytes : (x : Frame) (around : List Frame) (bs : List ℕ) → (closed_in x around bs).bytes ≡ bs
closed-bytes x [] bs = refl
closed-bytes x (y ∷ around) bs = refl

outer-small : (around : List Frame) → outer_of around ≤ size_of around
outer-small [] = omega arith
outer-small (x ∷ around) = omega arith

-- the numbers of an open list's row, in a buffer
module _ (kept : List ℕ) (x : Frame) (around : List Frame) (room : 4 * size_of (x ∷ around) ≤ length kept) (outer : ℕ) (at : outer ≡ 4 * size_of around) where
  abbrev third : ℕ
  third = 4 * outer_of around

  abbrev rows : List ℕ
  rows = sets kept 0 (packed (numbers_of (x ∷ around)))

  len : (head : List ℕ) → length (numbers_of around ++ head) ≡ size_of around + length head
  len head = length-append (numbers_of around) head ∙ rw (numbers-size around)

  -- its count
  abbrev first : List ℕ
  first = numbers_of around ++ (list_code ∷ [])

  one : first ++ (x.count ∷ third ∷ x.rows) ≡ numbers_of (x ∷ around)
  one = append_assoc (numbers_of around) (list_code ∷ []) (x.count ∷ third ∷ x.rows)

  count_room : 4 * length (first ++ (x.count ∷ third ∷ x.rows)) ≤ length kept
  count_room = omega (arith, ap length one, len (list_code ∷ x.count ∷ third ∷ x.rows))

  pub count-read : x.count < 2 ^ 32 → word rows (outer + 4) ≡ x.count
  count-read h =
      ap (λ (l : List ℕ). word (sets kept 0 (packed l)) (outer + 4)) (sym one)
      ∙ number_read kept first x.count (third ∷ x.rows) (outer + 4) (omega (arith, len (list_code ∷ []))) count_room h

  pub count-put : (m : ℕ) → sets rows (outer + 4) (number m) ≡ sets kept 0 (packed (numbers_of (frame m x.rows ∷ around)))
  count-put m =
      ap (λ (l : List ℕ). sets (sets kept 0 (packed l)) (outer + 4) (number m)) (sym one)
      ∙ number_put kept first x.count (third ∷ x.rows) (outer + 4) (omega (arith, len (list_code ∷ []))) count_room m
      ∙ ap (λ (l : List ℕ). sets kept 0 (packed l)) (append_assoc (numbers_of around) (list_code ∷ []) (m ∷ third ∷ x.rows))

  -- its third number
  abbrev second : List ℕ
  second = numbers_of around ++ (list_code ∷ x.count ∷ [])

  two : second ++ (third ∷ x.rows) ≡ numbers_of (x ∷ around)
  two = append_assoc (numbers_of around) (list_code ∷ x.count ∷ []) (third ∷ x.rows)

  third-room : 4 * length (second ++ (third ∷ x.rows)) ≤ length kept
  third-room = omega (arith, ap length two, len (list_code ∷ x.count ∷ third ∷ x.rows))

  pub third-read : third < 2 ^ 32 → word rows (outer + 8) ≡ third
  third-read h =
      ap (λ (l : List ℕ). word (sets kept 0 (packed l)) (outer + 8)) (sym two)
      ∙ number_read kept second third x.rows (outer + 8) (omega (arith, len (list_code ∷ x.count ∷ []))) third-room h

  pub third-put : sets rows (outer + 8) (number 0) ≡ sets kept 0 (packed (numbers_of around ++ (list_code ∷ x.count ∷ 0 ∷ x.rows)))
  third-put =
      ap (λ (l : List ℕ). sets (sets kept 0 (packed l)) (outer + 8) (number 0)) (sym two)
      ∙ number_put kept second third x.rows (outer + 8) (omega (arith, len (list_code ∷ x.count ∷ []))) third-room 0
      ∙ ap (λ (l : List ℕ). sets kept 0 (packed l)) (append_assoc (numbers_of around) (list_code ∷ x.count ∷ []) (0 ∷ x.rows))

module _ {es : Elements} {text kept-rows Kept-store : List ℕ} {x : Place} {rows store : List ℕ} (st : Stage es text kept-rows Kept-store x rows store) where
  abbrev f : Filling
  f = st.filling

  -- what is filled so far is no more than the whole
  pub size-now : size_of (frames_of f) ≤ row_room
  size-now = omega (arith, (filled-grows f st.ts).0, ap (λ (g : Filling). size_of (frames_of g)) st.ends, st.room.few)

  pub rows-length : length rows ≡ length kept-rows
  rows-length = ap length st.rows_are ∙ length-sets kept-rows 0 (packed (numbers_of (frames_of f)))

  pub store_length : length store ≡ length Kept-store
  store_length = ap length st.store_is ∙ length-sets Kept-store 0 f.bytes

  room-now : 4 * size_of (frames_of f) ≤ length kept-rows
  room-now = omega (arith, size-now, st.room.row_room)

  -- the row of the innermost open list is there
  pub outer-there : x.outer + 12 ≤ length rows
  outer-there = omega (arith, room-now, rows-length, st.outer-at)

  -- A CLOSING BRACKET
  module _ (some_left : x.pos < length text) (is : get_or text x.pos 0 ≡ 41) where
    around-is : around_at rows x.outer ≡ 4 * outer_of f.around
    around-is =
        ap (λ (l : List ℕ). word l (x.outer + 8)) st.rows_are
        ∙ third-read kept-rows f.inner f.around room-now x.outer st.outer-at (omega (arith, outer-small f.around, size-now))

    pub stage-closed : Stage es text kept-rows Kept-store (place (x.pos + 1) x.row x.used (around_at rows x.outer)) (closed_at rows x.outer) store
    unfolding filled
    stage-closed =
        let n = next-closing st.first text x.pos st.ts some_left st.left is in
        let g : Filling = closed_in f.inner f.around f.bytes in
        let bytes : g.bytes ≡ f.bytes = closed-bytes f.inner f.around f.bytes in
        record {
          filling = g;
          first = false;
          ts = n.0;
          room = st.room;
          inside = omega arith;
          left = n.2;
          ends = ap (filled f) (sym n.1) ∙ st.ends;
          rows_are =
              ap (λ (l : List ℕ). sets l (x.outer + 8) (number 0)) st.rows_are
              ∙ third-put kept-rows f.inner f.around room-now x.outer st.outer-at
              ∙ ap (λ (l : List ℕ). sets kept-rows 0 (packed l)) (closed-numbers f.inner f.around f.bytes);
          store_is = st.store_is ∙ ap (sets Kept-store 0) (sym bytes);
          row_at = omega (arith, st.row_at, closed-size f.inner f.around f.bytes);
          used-at = st.used-at ∙ ap length (sym bytes);
          outer-at = around-is ∙ ap (λ (k : ℕ). 4 * k) (sym (closed-outer f.inner f.around f.bytes));
          few = placed-few f closing st.few;
        }

  -- AN ELEMENT
  module _ (some_left : x.pos < length text) (other : get_or text x.pos 0 ≡ 41 → ⊥) where
    abbrev at : ℕ
    at = behind_space text x.pos

    pub next : Next text at st.ts
    next = next-element st.first text x.pos st.ts some_left st.left (ne_eqb (get_or text x.pos 0) 41 other)

    pub next-inside : at < length text
    next-inside = omega (arith, next.inside, next.some-chars)

    -- at or behind the place
    pub next-on : x.pos ≤ at
    next-on = go (eqb (get_or text x.pos 0) 32)
      where
        go : (b : Bool) → x.pos ≤ cond b (x.pos + 1) x.pos
        go true = omega arith
        go false = omega arith

    abbrev counted : Frame
    counted = frame (suc f.inner.count) f.inner.rows

    count_small : f.inner.count ≤ row_room
    count_small = omega (arith, st.few, size-now)

    count-now : word rows (x.outer + 4) ≡ f.inner.count
    count-now =
        ap (λ (l : List ℕ). word l (x.outer + 4)) st.rows_are
        ∙ count-read kept-rows f.inner f.around room-now x.outer st.outer-at (omega (arith, count_small))

    pub stage-countable : Countable rows x.outer
    stage-countable = record { there = outer-there; small = omega (arith, count-now, count_small) }

    counted_is : counted_one rows x.outer ≡ sets kept-rows 0 (packed (numbers_of (counted ∷ f.around)))
    counted_is =
        let e : word rows (x.outer + 4) + 1 ≡ suc f.inner.count = omega (arith, count-now) in
        rw e
        (ap (λ (l : List ℕ). sets l (x.outer + 4) (number (suc f.inner.count))) st.rows_are
        ∙ count-put kept-rows f.inner f.around room-now x.outer st.outer-at (suc f.inner.count))

    pub counted-length : length (counted_one rows x.outer) ≡ length kept-rows
    counted-length = ap length counted_is ∙ length-sets kept-rows 0 (packed (numbers_of (counted ∷ f.around)))

    -- the rows of what comes next
    rows_behind : (more : List ℕ) → sets (counted_one rows x.outer) x.row (packed more) ≡ sets kept-rows 0 (packed (numbers_of (counted ∷ f.around) ++ more))
    rows_behind more =
        ap (λ (l : List ℕ). sets l x.row (packed more)) counted_is
        ∙ rows_more kept-rows (numbers_of (counted ∷ f.around)) more x.row (omega (arith, st.row_at, numbers-size (counted ∷ f.around)))

    ends_next : (t : Token) → next.token ≡ t → filled (placed f t) next.ts' ≡ whole_of es
    unfolding filled
    ends_next t e = rw e at (ap (filled f) (sym next.is) ∙ st.ends)

    fits_next : (t : Token) → next.token ≡ t → (size_of (frames_of (placed f t)) ≤ row_room) × (length (placed f t).bytes ≤ list_limit)
    fits_next t e =
        let g = filled-grows (placed f t) next.ts' in
        let w = ends_next t e in (
          omega (arith, g.0, ap (λ (g : Filling). size_of (frames_of g)) w, st.room.few),
          omega (arith, g.1, ap (λ (g : Filling). length g.bytes) w, st.room.small),
        )

    -- a list
    module _ (is : get_or text at 0 ≡ 40) where
      pub open-room : (x.row + 12 ≤ length (counted_one rows x.outer)) × (x.outer < 2 ^ 32)
      open-room =
          let g = fits_next opening (next-opening next is).0 in
          (omega (arith, g.0, st.row_at, counted-length, st.room.row_room), omega (arith, size-now, st.outer-at))

      pub stage-opened :
          Stage es text kept-rows Kept-store (place (at + 1) (x.row + 12) x.used x.row)
          (sets (counted_one rows x.outer) x.row (packed (list_code ∷ 0 ∷ x.outer ∷ []))) store
      stage-opened =
          let o = next-opening next is in
          let i = next.inside in
          record {
            filling = placed f opening;
            first = true;
            ts = next.ts';
            room = st.room;
            inside = omega (arith, i, o.1);
            left = rw (o.0, o.1) at next.left;
            ends = ends_next opening o.0;
            rows_are =
                rows_behind (list_code ∷ 0 ∷ x.outer ∷ [])
                ∙ ap (λ (k : ℕ). sets kept-rows 0 (packed (numbers_of (counted ∷ f.around) ++ (list_code ∷ 0 ∷ k ∷ [])))) st.outer-at;
            store_is = st.store_is;
            row_at = omega (arith, st.row_at);
            used-at = st.used-at;
            outer-at = st.row_at;
            few = placed-few f opening st.few;
          }

    -- a value
    module _ (is : get_or text at 0 ≡ 40 → ⊥) where
      abbrev v : Value
      v = (next-value next is).0

      value_there : value_at (drop at text) ≡ got v next.size
      value_there = (next-value next is).2

      value-is : read_or (int 0) (value_at (drop at text)) ≡ v
      value-is = ap (read_or (int 0)) value_there

      fits : (size_of (frames_of (placed f (item v))) ≤ row_room) × (length (placed f (item v)).bytes ≤ list_limit)
      fits = fits_next (item v) (next-value next is).1

      bytes-more : x.used + length (value_store (read_or (int 0) (value_at (drop at text)))) ≡ length (f.bytes ++ value_store v)
      bytes-more = rw (value-is, length-append f.bytes (value_store v)) (omega (arith, st.used-at))

      size-more : size_of (frames_of (placed f (item v))) ≡ size_of (frames_of f) + 3
      size-more = rw (length-append f.inner.rows (value_row (length f.bytes) v)) (omega (arith, value_row_lem (length f.bytes) v))

      pub stage-value : ValueHere text (cursor at x.row x.used) (counted_one rows x.outer) store
      stage-value = record {
        there = of-got value_there;
        row = omega (arith, fits.0, size-more, st.row_at, counted-length, st.room.row_room);
        small = omega (arith, fits.1, bytes-more);
        room = omega (arith, fits.1, bytes-more, store_length, st.room.store_room);
      }

      module _ (y : Cursor) (rows' store' : List ℕ) (w : ValuePut text (cursor at x.row x.used) (counted_one rows x.outer) store y rows' store') where
        pos-is : y.pos ≡ at + next.size
        pos-is = w.pos ∙ ap (λ (r : Read Value). at + size_read r) value_there

        pub stage-valued : Stage es text kept-rows Kept-store (place y.pos y.row y.used x.outer) rows' store'
        stage-valued =
            let row : List ℕ = value_row (length f.bytes) v in
            record {
              filling = placed f (item v);
              first = false;
              ts = next.ts';
              room = st.room;
              inside = omega (arith, pos-is, next.inside);
              left = rw (pos-is, ← (ap opens (next-value next is).1)) next.left;
              ends = ends_next (item v) (next-value next is).1;
              rows_are =
                  w.rows-hold
                  ∙ ap (λ (z : Value). sets (counted_one rows x.outer) x.row (packed (value_row x.used z))) value-is
                  ∙ ap (λ (k : ℕ). sets (counted_one rows x.outer) x.row (packed (value_row k v))) st.used-at
                  ∙ rows_behind row
                  ∙ ap (λ (l : List ℕ). sets kept-rows 0 (packed l))
                  (append_assoc (numbers_of f.around) (list_code ∷ suc f.inner.count ∷ 4 * outer_of f.around ∷ f.inner.rows) row);
              store_is =
                  w.store-holds
                  ∙ ap (λ (z : Value). sets store x.used (value_store z)) value-is
                  ∙ ap (λ (l : List ℕ). sets l x.used (value_store v)) st.store_is
                  ∙ sets_more Kept-store f.bytes (value_store v) 0 x.used (omega (arith, st.used-at));
              row_at = omega (arith, w.row, st.row_at, size-more);
              used-at = w.used ∙ bytes-more;
              outer-at = st.outer-at;
              few = placed-few f (item v) st.few;
            }

        pub valued-on : at < y.pos
        valued-on = omega (arith, pos-is, next.some-chars)

-- ONE TOKEN
module _ (text : List ℕ) (x : Place) (rows store : List ℕ) (some_left : x.pos < length text) where
  pub goes-closed : get_or text x.pos 0 ≡ 41 → (outer : ℕ) (rows' : List ℕ) → rows' ≡ closed_at rows x.outer → outer ≡ around_at rows x.outer
      → Goes text x rows store (place (x.pos + 1) x.row x.used outer) rows' store
  goes-closed is outer rows' r o = record {
    on = omega arith;
    stage = λ es kept-rows Kept-store st. rw (r, o) (stage-closed st some_left is);
  }

  module _ (other : get_or text x.pos 0 ≡ 41 → ⊥) (some : Ready text x rows store) (at : ℕ) (is_at : at ≡ behind_space text x.pos) where
    on : x.pos ≤ at
    on = rw is_at (next-on some.stage some_left other)

    pub goes-opened : get_or text at 0 ≡ 40 → (rows' rows'' : List ℕ) → rows' ≡ counted_one rows x.outer
        → rows'' ≡ sets rows' x.row (packed (list_code ∷ 0 ∷ x.outer ∷ []))
        → Goes text x rows store (place (at + 1) (x.row + 12) x.used x.row) rows'' store
    goes-opened is rows' rows'' r o = record {
      on = omega (arith, on);
      stage = λ es kept-rows Kept-store st. rw (o, r, is_at) (stage-opened st some_left other (rw is_at at is));
    }

    pub goes-valued : (get_or text at 0 ≡ 40 → ⊥) → (y : Cursor) (rows' rows'' store' : List ℕ) → rows' ≡ counted_one rows x.outer
        → ValuePut text (cursor at x.row x.used) rows' store y rows'' store'
        → Goes text x rows store (place y.pos y.row y.used x.outer) rows'' store'
    goes-valued is y rows' rows'' store' r w =
        let no : get_or text (behind_space text x.pos) 0 ≡ 40 → ⊥ = rw is_at at is in
        let put : ValuePut text (cursor (behind_space text x.pos) x.row x.used) (counted_one rows x.outer) store y rows'' store' = rw (r, is_at) at w in
        record {
          on = omega (arith, on, is_at, valued-on some.stage some_left other no y rows'' store' put);
          stage = λ es kept-rows Kept-store st. stage-valued st some_left other no y rows'' store' put;
        }
