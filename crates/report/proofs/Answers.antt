-- What the steps over a stream answer, and the text from an answer on, whatever the line of a list is.
use Prim.Native.Nat.{ℕ, zero, suc, ◌+◌, ◌*◌, ◌≤◌, ◌<◌}
use mathlib.Core.Bool.{Bool, true, false, cond}
use mathlib.Core.Path.{◌≡◌, refl, sym, ap, ◌∙◌}
use mathlib.Core.List.{List, [], ◌∷◌, ◌++◌, append_assoc}
use Rattle.std.specs.Prelude.{Option, Some, None, Result, Ok, Err}
use native.Mathlib.Omega.{arith}
use native.Mathlib.Numerals.{add-one}
use lib.Dec.{eqb}
use lib.ListN.{length, take, drop, get_or, length-drop}
use borrow.Author.Tests.{le-ltb}
use mir.Val.{Fits}
use mir.Syntax.{w8}
use Rattle.wire.specs.Number.{Bytes}
use Rattle.wire.specs.Area.{over}
use Rattle.list.specs.declared.Refusal.{Refusal}
use Rattle.list.specs.Limits.{list_limit, row_room, store_room}
use Rattle.list.specs.Tree.{Elements}
use Rattle.list.specs.Bytes.{list_bytes}
use Rattle.list.specs.Rows.{list_rows, list_store, row_count}
use Rattle.list.specs.RowBytes.{packed}
use Rattle.list.specs.Legal.{Legal}
use Rattle.list.specs.Refusal.{moved, refusal_of}
use Rattle.list.specs.Parse.{Parsed, good, bad, parse}
use Rattle.list.proofs.Items.{bytes_drop}
use Rattle.list.proofs.RowBound.{list-size}
use Rattle.list.proofs.Sound.{sound, reaches}
use Rattle.list_decode.specs.Decode.{Outcome, outcome, answered as reading, decoding_of}
use Rattle.list_decode.proofs.Answers.{enough}
use Rattle.list_decode.specs.declared.Decoded.{Decoded}
use Rattle.stream.specs.Step.{Found, accepted, ended, refused, from_front, answered_by, step_of, found_of}
use Rattle.report.specs.Limits.{least_list}
use Rattle.report.specs.Text.{end_line, stop_line, text_from}
use Rattle.report.specs.Added.{Added}

bytes-all : (s : List ℕ) → ((i : ℕ) → get_or s i 0 < 256) → Bytes s
bytes-all [] h = tt
bytes-all (b ∷ s) h = (h 0, bytes-all s (λ i. h (suc i)))

-- a legal list of n bytes, m rows and u store bytes stands at the offset
pub record ListAt (s : List ℕ) (offset n m u : ℕ) : Type 0 where
  pub tree : Elements
  pub legal : Legal list_limit tree
  pub parsed : parse list_limit (drop offset s) ≡ good tree n
  pub inside : eqb offset (length s) ≡ false
  pub size : n ≡ length (list_bytes tree)
  pub count : m ≡ row_count tree
  pub stored : u ≡ length (list_store tree)
  pub some : least_list ≤ n
  pub fits : offset + n ≤ length s

-- a step over rows and store with enough room
module _ (s : List ℕ) (offset : ℕ) (rows store rows' store' : List ℕ) (a : Result (Option Decoded) Refusal)
    (h : length rows ≡ 4 * row_room) (g : length store ≡ store_room) (f : offset ≤ length s)
    (o : outcome (found_of a) rows' store' ≡ step_of s offset rows store) where
  -- what it finds and leaves, by whether the end is reached and what list reading says there
  abbrev found : Bool → Parsed Elements → Outcome Found
  found b p = cond b (outcome ended rows store) (answered_by (from_front offset) (reading rows store p))

  step-found : outcome (found_of a) rows' store' ≡ found (eqb offset (length s)) (parse list_limit (drop offset s))
  unfolding step_of decoding_of
  step-found = o ∙ rw (enough rows store (omega arith) (omega arith), le-ltb (length s) offset f)

  pub end-found : a ≡ Ok None → eqb offset (length s) ≡ true
  end-found e = go (eqb offset (length s)) (parse list_limit (drop offset s)) refl (ap found_of (sym e) ∙ ap (λ (z : Outcome Found). z.answer) step-found)
    where
      go : (b : Bool) (p : Parsed Elements) → eqb offset (length s) ≡ b → ended ≡ (found b p).answer → eqb offset (length s) ≡ true
      go true p q w = q
      go false (good es n) q w = absurd (let z : ◌≡◌ {A = ℕ} 0 1 = cc in omega arith)
      go false (bad r) q w = absurd (let z : ◌≡◌ {A = ℕ} 0 1 = cc in omega arith)

  -- the text of a step that is refused, whatever is behind it
  pub stop-found : (x : Refusal) (line : ℕ → Elements → List ℕ) (fuel k : ℕ) → a ≡ Err x → text_from line (suc fuel) s offset k ≡ stop_line (refusal_of x)
  unfolding text_from
  stop-found x line fuel k e =
      go (eqb offset (length s)) (parse list_limit (drop offset s)) refl refl (ap found_of (sym e) ∙ ap (λ (z : Outcome Found). z.answer) step-found)
    where
      go : (b : Bool) (p : Parsed Elements) → eqb offset (length s) ≡ b → parse list_limit (drop offset s) ≡ p → refused (refusal_of x) ≡ (found b p).answer
          → text_from line (suc fuel) s offset k ≡ stop_line (refusal_of x)
      go true p q v w = absurd (let z : ◌≡◌ {A = ℕ} 0 1 = cc in omega arith)
      go false (good es n) q v w = absurd (let z : ◌≡◌ {A = ℕ} 0 1 = cc in omega arith)
      go false (bad r) q v w =
          let same : moved offset r ≡ refusal_of x = cc in
          rw (q, v) (ap stop_line same)

  pub list-found : ((i : ℕ) → Fits w8 (get_or s i 0)) → (d : Decoded) → a ≡ Ok (Some d) → ListAt s offset d.consumed d.rows d.stored
  list-found b d e =
      let all : outcome (accepted n m u) rows' store' ≡ found (eqb offset (length s)) (parse list_limit (drop offset s)) =
      ap (λ (z : Result (Option Decoded) Refusal). outcome (found_of z) rows' store') (sym e) ∙ step-found in
      go (eqb offset (length s)) (parse list_limit (drop offset s)) refl refl all (ap (λ (z : Outcome Found). z.answer) all)
    where
      n : ℕ
      n = d.consumed

      m : ℕ
      m = d.rows

      u : ℕ
      u = d.stored

      go : (c : Bool) (p : Parsed Elements) → eqb offset (length s) ≡ c → parse list_limit (drop offset s) ≡ p
          → outcome (accepted n m u) rows' store' ≡ found c p → accepted n m u ≡ (found c p).answer → ListAt s offset n m u
      go true p q v w t = absurd (let z : ◌≡◌ {A = ℕ} 0 1 = cc in omega arith)
      go false (bad r) q v w t = absurd (let z : ◌≡◌ {A = ℕ} 0 1 = cc in omega arith)
      go false (good es i) q v w t =
          let same : i ≡ n = cc in
          let here : parse list_limit (drop offset s) ≡ good es n = rw same at v in
          let l = sound list_limit (drop offset s) es n (bytes_drop offset s (bytes-all s (λ j. (b j).fits))) here in
          let r = reaches list_limit (drop offset s) es n here in
          record {
            tree = es;
            legal = l.0;
            parsed = here;
            inside = q;
            size = l.1;
            count = cc;
            stored = cc;
            some = omega (arith, list-size es, l.1);
            fits = omega (arith, length-drop offset s, r.1);
          }

  -- the areas hold its rows and its store bytes at their front
  pub areas-hold : {n m u : ℕ} (at : ListAt s offset n m u) → (rows' ≡ over (packed (list_rows at.tree)) rows) × (store' ≡ over (list_store at.tree) store)
  areas-hold {n} at =
      let all : outcome (found_of a) rows' store' ≡ found false (good at.tree n) = step-found ∙ rw (at.inside, at.parsed) in
      (ap (λ (z : Outcome Found). z.rows) all, ap (λ (z : Outcome Found). z.store) all)

-- the text so far, `front`, and the text from here on are the whole: steps are left for all bytes that are left
pub record Left (line : ℕ → Elements → List ℕ) (s whole : List ℕ) (offset k : ℕ) (front : List ℕ) : Type 0 where
  pub fuel : ℕ
  pub enough : length s ≤ offset + fuel
  pub text : front ++ text_from line (suc fuel) s offset k ≡ whole

module _ (line : ℕ → Elements → List ℕ) (s whole : List ℕ) (offset k used : ℕ) (text text' : List ℕ) (to : ℕ) (left : Left line s whole offset k (take used text)) where
  -- behind the line of a list
  pub text-list : {n m u : ℕ} (at : ListAt s offset n m u) → Added text used text' to (line k at.tree)
      → Left line s whole (offset + n) (k + 1) (take to text')
  unfolding text_from
  text-list {n = n} at d = go left.fuel left.enough left.text
    where
      go : (fuel : ℕ) → length s ≤ offset + fuel → take used text ++ text_from line (suc fuel) s offset k ≡ whole → Left line s whole (offset + n) (k + 1) (take to text')
      go zero h t = absurd (omega (arith, at.some, at.fits))
      go (suc fuel) h t =
          let here : text_from line (suc (suc fuel)) s offset k ≡ line k at.tree ++ text_from line (suc fuel) s (offset + n) (suc k) = rw (at.inside, at.parsed) in
          record {
            fuel = fuel;
            enough = omega (arith, at.some);
            text = rw (d.front, add-one k, append_assoc (take used text) (line k at.tree) (text_from line (suc fuel) s (offset + n) (suc k)), ← here) t;
          }

  -- behind the last line
  pub text-end : eqb offset (length s) ≡ true → Added text used text' to (end_line offset) → take to text' ≡ whole
  unfolding text_from
  text-end e d =
      let here : text_from line (suc left.fuel) s offset k ≡ end_line offset = rw e in
      d.front ∙ ap (λ (x : List ℕ). take used text ++ x) (sym here) ∙ left.text

  pub text-stop : (x : Refusal) → text_from line (suc left.fuel) s offset k ≡ stop_line (refusal_of x) → Added text used text' to (stop_line (refusal_of x))
      → take to text' ≡ whole
  text-stop x e d = d.front ∙ ap (λ (z : List ℕ). take used text ++ z) (sym e) ∙ left.text
