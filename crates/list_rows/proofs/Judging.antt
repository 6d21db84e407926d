-- What the passes over the rows find is what the tree says.
use Prim.Native.Nat.{ℕ, ◌≤◌, ◌<◌}
use mathlib.Core.Path.{◌≡◌, refl, sym, ap, ◌∙◌}
use mathlib.Core.Bool.{Bool, true, false, cond, ◌&&◌}
use mathlib.Core.List.{List}
use mathlib.Core.Option.{Option, some}
use mathlib.Core.Option as option
use native.Mathlib.Omega.{arith}
use lib.Dec.{eqb, ltb}
use lib.ListN.{length, get_or}
use borrow.Author.Tests.{lt-ltb, le-ltb, ltb-false}
use Rattle.list.specs.Kind.{list_code}
use Rattle.list.specs.Limits.{list_limit, depth_limit}
use Rattle.list.specs.Tree.{Elements}
use Rattle.list.specs.Bytes.{list_bytes}
use Rattle.list.specs.RowBytes.{unpacked}
use Rattle.list_rows.specs.Described.{described, whole_rows, list_in}
use Rattle.list_rows.specs.Judge.{depth, Verdict, accepted, refused, fitting, judged, to_write, sized, judging_of}
use Rattle.list_rows.specs.Shape.{list_shape}
use Rattle.list_rows.specs.Nesting.{too_deep}
use Rattle.list_rows.specs.Emit.{emit, size_from, capped, stored_from}
use Rattle.list_rows.proofs.Rows.{clash, both}
use Rattle.list_rows.proofs.Shapes.{shape-stored}
use Rattle.list_rows.proofs.Sizes.{capped-low, capped-high, emit-size}
use Rattle.list_rows.proofs.Accepted.{DescribedBy, shape-complete, shape-sound}
use Rattle.list_rows.proofs.Described.{described-complete, described-sound, described-none}
use Rattle.list_rows.proofs.Depths.{deep_is}
use Rattle.list_rows.proofs.Emitted.{emit-list}

-- what the passes over the rows of a list find
pub record Passed (rows store : List ℕ) (es : Elements) : Type 0 where
  pub bytes : emit store rows 0 0 ≡ list_bytes es
  pub used : stored_from rows ≡ length store
  pub size : size_from rows 0 ≡ length (list_bytes es)
  pub deep : too_deep rows ≡ ltb depth_limit (depth es)

shaped-by : (rows store : List ℕ) (es : Elements) → DescribedBy rows store es → list_shape rows store ≡ true
shaped-by rows store es t = rw (t.rows_are, t.store_is) (shape-complete es t.few t.fine)

passed-by : (rows store : List ℕ) (es : Elements) → DescribedBy rows store es → Passed rows store es
unfolding list_shape
passed-by rows store es t =
    let all = both (eqb (get_or rows 0 0) list_code) _ (shaped-by rows store es t) in
    let u : stored_from rows ≡ length store = omega (arith, shape-stored store rows 1 0 all.1) in
    let b : emit store rows 0 0 ≡ list_bytes es = rw (t.rows_are, t.store_is) (emit-list es) in
    record {
      bytes = b;
      used = u;
      size = sym (emit-size store rows 0 0 (omega arith)) ∙ ap length b;
      deep = ap too_deep t.rows_are ∙ deep_is es;
    }

-- rows of bytes that describe a list are whole rows, and describe it as numbers
pub listed : (rows store : List ℕ) (es : Elements) → list_in rows store ≡ some es → (whole_rows rows ≡ true) × DescribedBy (unpacked rows) store es
unfolding list_in
listed rows store es = go (whole_rows rows) refl
  where
    go : (b : Bool) → whole_rows rows ≡ b → cond b (described (unpacked rows) store) option.none ≡ some es → (whole_rows rows ≡ true) × DescribedBy (unpacked rows) store es
    go true e h = (e, described-sound (unpacked rows) store es h)
    go false e h = let z : ◌≡◌ {A = ℕ} 0 1 = cc in absurd (omega arith)

pub listed_by : (rows store : List ℕ) (es : Elements) → whole_rows rows ≡ true → DescribedBy (unpacked rows) store es → list_in rows store ≡ some es
unfolding list_in
listed_by rows store es w t = rw (w, t.rows_are, t.store_is) (described-complete es t.few t.fine)

pub passes : (rows store : List ℕ) (es : Elements) → list_in rows store ≡ some es → Passed (unpacked rows) store es
passes rows store es h = passed-by (unpacked rows) store es (listed rows store es h).1

-- a list that may be written, by the answer's size
pub record ToWrite (rows store : List ℕ) (n : ℕ) : Type 0 where
  pub es : Elements
  pub verdict : to_write rows store ≡ accepted es
  pub is-list : list_in rows store ≡ some es
  pub passed : Passed (unpacked rows) store es
  pub size : n ≡ length (list_bytes es)
  pub shallow : depth es ≤ depth_limit
  pub short : length (list_bytes es) ≤ list_limit

-- an accepted list is neither too deep nor too long
fitting-kept : (limit : ℕ) (es fs : Elements) → fitting limit es ≡ accepted fs → (es ≡ fs) × (depth es ≤ depth_limit) × (length (list_bytes es) ≤ limit)
unfolding fitting
fitting-kept limit es fs = go (ltb depth_limit (depth es)) refl (ltb limit (length (list_bytes es))) refl
  where
    go : (a : Bool) → ltb depth_limit (depth es) ≡ a → (b : Bool) → ltb limit (length (list_bytes es)) ≡ b
        → cond a (refused 27) (cond b (refused 28) (accepted es)) ≡ accepted fs → (es ≡ fs) × (depth es ≤ depth_limit) × (length (list_bytes es) ≤ limit)
    go true e b f h = absurd (let z : ◌≡◌ {A = ℕ} 0 1 = cc in omega arith)
    go false e true f h = absurd (let z : ◌≡◌ {A = ℕ} 0 1 = cc in omega arith)
    go false e false f h = (cc, ltb-false _ _ e, ltb-false _ _ f)

judged-kept : (limit : ℕ) (o : Option Elements) (es : Elements) → judged limit o ≡ accepted es → (o ≡ some es) × (depth es ≤ depth_limit) × (length (list_bytes es) ≤ limit)
judged-kept limit option.none es h = absurd (let z : ◌≡◌ {A = ℕ} 0 1 = cc in omega arith)
judged-kept limit (some fs) es h =
    let x = fitting-kept limit fs es h in
    (ap some x.0, rw x.0 at x.1, rw x.0 at x.2)

pub to_write_lem : (rows store : List ℕ) (n : ℕ) → accepted n ≡ judging_of rows store → ToWrite rows store n
to_write_lem rows store n = go (to_write rows store) refl
  where
    go : (v : Verdict Elements) → to_write rows store ≡ v → accepted n ≡ sized v → ToWrite rows store n
    go (refused number) e h = absurd (let z : ◌≡◌ {A = ℕ} 0 1 = cc in omega arith)
    go (accepted es) e h =
        let x = judged-kept list_limit (list_in rows store) es e in
        record { es = es; verdict = e; is-list = x.0; passed = passes rows store es x.0; size = cc; shallow = x.1; short = x.2 }

pub no_write : (rows store : List ℕ) (number : ℕ) → refused number ≡ judging_of rows store → to_write rows store ≡ refused number
no_write rows store number = go (to_write rows store) refl
  where
    go : (v : Verdict Elements) → to_write rows store ≡ v → refused number ≡ sized v → to_write rows store ≡ refused number
    go (accepted es) e h = absurd (let z : ◌≡◌ {A = ℕ} 0 1 = cc in omega arith)
    go (refused m) e h = let same : m ≡ number = cc in e ∙ ap refused same

-- THE CALL, case by case
module _ (rows store : List ℕ) where
  pub list-found : (whole_rows rows && list_shape (unpacked rows) store) ≡ true → (es : Elements) × (list_in rows store ≡ some es)
  list-found h =
      let x = both (whole_rows rows) _ h in
      let y = shape-sound (unpacked rows) store x.1 in
      (y.0, listed_by rows store y.0 x.0 y.1)

  none_found : (whole_rows rows && list_shape (unpacked rows) store) ≡ false → list_in rows store ≡ option.none
  unfolding list_in
  none_found = go (whole_rows rows)
    where
      go : (b : Bool) → (b && list_shape (unpacked rows) store) ≡ false → cond b (described (unpacked rows) store) option.none ≡ option.none
      go true h = described-none (unpacked rows) store (λ es t. clash (sym h ∙ shaped-by (unpacked rows) store es t))
      go false h = refl

  pub judged-none : (whole_rows rows && list_shape (unpacked rows) store) ≡ false → refused 30 ≡ judging_of rows store
  judged-none h = sym (ap (λ (o : Option Elements). sized (judged list_limit o)) (none_found h))

  module _ (es : Elements) (is-list : list_in rows store ≡ some es) where
    judging-is : judging_of rows store ≡ sized (fitting list_limit es)
    judging-is = ap (λ (o : Option Elements). sized (judged list_limit o)) is-list

    found : Passed (unpacked rows) store es
    found = passes rows store es is-list

    pub judged-deep : too_deep (unpacked rows) ≡ true → refused 27 ≡ judging_of rows store
    unfolding fitting
    judged-deep h = sym (judging-is ∙ rw (sym found.deep ∙ h))

    module _ (flat : too_deep (unpacked rows) ≡ false) (n : ℕ) (is-n : n ≡ capped list_limit (size_from (unpacked rows) 0)) where
      pub judged-long : list_limit < n → refused 28 ≡ judging_of rows store
      unfolding fitting
      judged-long h =
          let l : list_limit < length (list_bytes es) = omega (arith, found.size, capped-high list_limit n (size_from (unpacked rows) 0) is-n h) in
          sym (judging-is ∙ rw (sym found.deep ∙ flat, lt-ltb list_limit (length (list_bytes es)) l))

      pub judged-list : n ≤ list_limit → accepted n ≡ judging_of rows store
      unfolding fitting
      judged-list h =
          let e : n ≡ length (list_bytes es) = capped-low list_limit n (size_from (unpacked rows) 0) is-n h ∙ found.size in
          sym (judging-is ∙ rw (sym found.deep ∙ flat, le-ltb list_limit (length (list_bytes es)) (omega arith), e))
