-- The size of the published list: each socket is seated in a slot of its own, so there are at most as many rows as slots.
use Prim.Native.Nat.{ℕ, zero, suc, ◌+◌, ◌*◌, ◌≤◌, ◌<◌}
use mathlib.Core.Path.{◌≡◌, refl, ap, ◌∙◌}
use mathlib.Core.Bool.{Bool, true, false, cond, ◌&&◌}
use mathlib.Core.List.{List}
use mathlib.Core.Option as option
use mathlib.Core.Option as option
use mathlib.Core.Option.{some}
use native.Mathlib.Omega.{arith}
use lib.ListN.{length, length-append}
use borrow.Author.Tests.{ne_eqb}
use Rattle.std.specs.Prelude.{Option, Some, None}
use Rattle.list.specs.Kind.{list_code}
use Rattle.list.specs.Tree.{none, list, count}
use Rattle.list.specs.Bytes.{element_bytes, list_bytes}
use Rattle.value.specs.declared.Value.{Value}
use Rattle.value.specs.declared.Value.TheVariants as values
use Rattle.slot.specs.Slot.{param_count, present_at}
use Rattle.slot.specs.Rows.{slot_at}
use Rattle.slot.specs.declared.Slot.{Slot}
use Rattle.table.specs.Places.{slot_count, socket_count, holds, place_from, place_of, row_at, row_of}
use Rattle.table.proofs.Searches.{holds_parts}
use Rattle.publish.specs.Published.{element_of, held_value, pair, list_if, parameters_from, device_row, row_before, devices_from, published}
use Rattle.publish.proofs.Pieces.{list_front, row_front, float_size, int-size, double-size, list-bytes, device-size, published-length}

-- a parameter takes at most the bytes of a NetFloat's
pair_size : (p : ℕ) (v : Value) → length (element_bytes list_code (list (pair p (element_of v)) none)) ≤ float_size
unfolding element_of
pair_size p (values.Int z) = omega (arith, int-size p _ (element_of (values.Int z)) refl)
pair_size p (values.Float x) = omega (arith, double-size p _ (element_of (values.Float x)) refl)
pair_size p (values.Bool b) = omega (arith, int-size p _ (element_of (values.Bool b)) refl)
pair_size p (values.Nan b) = omega (arith, double-size p _ (element_of (values.Nan b)) refl)

parameters-size : (n : ℕ) (c : List ℕ) (s : Slot) (p : ℕ) → length (element_bytes list_code (parameters_from n c s p)) ≤ n * float_size
unfolding parameters_from
parameters-size zero c s p = omega arith
parameters-size (suc n) c s p = go (present_at s p) (parameters-size n c s (p + 1))
  where
    go :
        (b : Bool) → length (element_bytes list_code (parameters_from n c s (p + 1))) ≤ n * float_size →
        length (element_bytes list_code (list_if b (pair p (element_of (held_value c s p))) (parameters_from n c s (p + 1)))) ≤
        suc n * float_size
    go false h = omega arith
    go true h =
        let one = list (pair p (element_of (held_value c s p))) none in
        let rest = parameters_from n c s (p + 1) in
        let e = ap length (list-bytes (pair p (element_of (held_value c s p))) rest) ∙ length-append (element_bytes list_code one) (element_bytes list_code rest) in
        omega (arith, e, pair_size p (held_value c s p))

-- the bytes of a row whose parameters are all held, each a NetFloat
abbrev pub row_most : ℕ
row_most = row_front + param_count * float_size

-- LAW: no row has more
pub row-size : (c : List ℕ) (s : Slot) → length (element_bytes list_code (list (device_row c s) none)) ≤ row_most
row-size c s = omega (arith, device-size c s, parameters-size param_count c s 0)

devices-size :
    (n slots : ℕ) (c t : List ℕ) (socket : ℕ) →
    length (element_bytes list_code (devices_from n slots c t socket)) ≤ count (devices_from n slots c t socket) * row_most
unfolding devices_from row_before
devices-size zero slots c t socket = omega arith
devices-size (suc n) slots c t socket = go (row_of slots t socket) (devices-size n slots c t (socket + 1))
  where
    go :
        (r : option.Option Slot) →
        length (element_bytes list_code (devices_from n slots c t (socket + 1))) ≤ count (devices_from n slots c t (socket + 1)) * row_most →
        length (element_bytes list_code (row_before c r (devices_from n slots c t (socket + 1)))) ≤
        count (row_before c r (devices_from n slots c t (socket + 1))) * row_most
    go option.none h = h
    go (some s) h =
        let row = device_row c s in
        let rest = devices_from n slots c t (socket + 1) in
        let e = ap length (list-bytes row rest) ∙ length-append (element_bytes list_code (list row none)) (element_bytes list_code rest) in
        omega (arith, e, row-size c s)

-- SOCKETS AND SLOTS
-- f at the n numbers from k on, added up
sum : ℕ → (ℕ → ℕ) → ℕ → ℕ
sum zero f k = 0
sum (suc n) f k = f k + sum n f (k + 1)

sum_below : (n : ℕ) (f g : ℕ → ℕ) (k : ℕ) → ((j : ℕ) → f j ≤ g j) → sum n f k ≤ sum n g k
unfolding sum
sum_below zero f g k h = omega arith
sum_below (suc n) f g k h = omega (arith, h k, sum_below n f g (k + 1) h)

sum_both : (n : ℕ) (f g : ℕ → ℕ) (k : ℕ) → sum n (λ j. f j + g j) k ≡ sum n f k + sum n g k
unfolding sum
sum_both zero f g k = refl
sum_both (suc n) f g k = omega (arith, sum_both n f g (k + 1))

sum-none : (n k : ℕ) → sum n (λ j. 0) k ≡ 0
unfolding sum
sum-none zero k = refl
sum-none (suc n) k = omega (arith, sum-none n (k + 1))

one : Bool → ℕ
one b = cond b 1 0

seated : Option ℕ → ℕ
seated (Some i) = 1
seated None = 0

-- one slot holds one socket's device
holds-above : (s : Slot) (k : ℕ) → s.socket < k → one (holds s k) ≡ 0
unfolding one holds
holds-above s k h = rw (ne_eqb s.socket k (λ e. omega arith)) (go s.taken)
  where
    go : (b : Bool) → one (b && false) ≡ 0
    go true = refl
    go false = refl

holds-none : (n : ℕ) (s : Slot) (k : ℕ) → s.socket < k → sum n (λ j. one (holds s j)) k ≡ 0
unfolding sum
holds-none zero s k h = refl
holds-none (suc n) s k h = omega (arith, holds-above s k h, holds-none n s (k + 1) (omega arith))

holds-once : (n : ℕ) (s : Slot) (k : ℕ) → sum n (λ j. one (holds s j)) k ≤ 1
unfolding sum one
holds-once zero s k = omega arith
holds-once (suc n) s k = go (holds s k) refl (holds-once n s (k + 1))
  where
    go : (b : Bool) → holds s k ≡ b → sum n (λ j. one (holds s j)) (k + 1) ≤ 1 → one b + sum n (λ j. one (holds s j)) (k + 1) ≤ 1
    go true e h = let q = (holds_parts s k e).1 in omega (arith, holds-none n s (k + 1) (omega arith))
    go false e h = omega arith

-- sockets are seated in at most as many slots as are searched
slots-hold : (m n : ℕ) (t : List ℕ) (k i : ℕ) → sum n (λ j. seated (place_from m t j i)) k ≤ m
unfolding place_from seated one
slots-hold zero n t k i = omega (arith, sum-none n k)
slots-hold (suc m) n t k i =
    let f : ℕ → ℕ = λ j. one (holds (slot_at t i) j) in
    let g : ℕ → ℕ = λ j. seated (place_from m t j (i + 1)) in
    omega (
      arith,
      sum_below n (λ j. seated (place_from (suc m) t j i)) (λ j. f j + g j) k (λ j. step j (holds (slot_at t i) j)),
      sum_both n f g k,
      holds-once n (slot_at t i) k,
      slots-hold m n t k (i + 1),
    )
  where
    step : (j : ℕ) (b : Bool) → seated (cond b (Some i) (place_from m t j (i + 1))) ≤ one b + seated (place_from m t j (i + 1))
    step j true = omega arith
    step j false = omega arith

count-is :
    (n slots : ℕ) (c t : List ℕ) (socket : ℕ) → count (devices_from n slots c t socket) ≡ sum n (λ j. seated (place_of slots t j)) socket
unfolding devices_from row_before sum seated
count-is zero slots c t socket = refl
count-is (suc n) slots c t socket = go (place_of slots t socket) (count-is n slots c t (socket + 1))
  where
    go :
        (p : Option ℕ) → count (devices_from n slots c t (socket + 1)) ≡ sum n (λ j. seated (place_of slots t j)) (socket + 1) →
        count (row_before c (row_at t p) (devices_from n slots c t (socket + 1))) ≡
        seated p + sum n (λ j. seated (place_of slots t j)) (socket + 1)
    go None e = e ∙ omega arith
    go (Some i) e = omega arith

-- LAW: no more sockets are seated than there are slots
pub rows-at-most : (slots sockets : ℕ) (c t : List ℕ) → count (published slots sockets c t) ≤ slots
rows-at-most slots sockets c t = omega (arith, count-is sockets slots c t 0, slots-hold slots sockets t 0 0)

-- LAW: the published list has at most its front and a row for each slot
pub published-most : (slots sockets : ℕ) (c t : List ℕ) → length (list_bytes (published slots sockets c t)) ≤ list_front + slots * row_most
published-most slots sockets c t =
    omega (arith, published-length slots sockets c t, devices-size sockets slots c t 0, rows-at-most slots sockets c t)

-- LAW: "It never passes 3,752 bytes"
pub published-size : (c t : List ℕ) → length (list_bytes (published slot_count socket_count c t)) ≤ 3752
published-size c t = published-most slot_count socket_count c t
