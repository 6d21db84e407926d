-- The rows of the published list: one for each device, in rising socket order, and in each row one list for each held parameter, rising.
use Prim.Native.Nat.{ℕ, zero, suc, ◌+◌, ◌≤◌, ◌<◌}
use mathlib.Core.Path.{◌≡◌, refl, sym, ap, ◌∙◌}
use mathlib.Core.Bool.{Bool, true, false, cond}
use mathlib.Core.List.{List, [], ◌∷◌}
use mathlib.Core.Option as option
use mathlib.Core.Option.{some, map}
use mathlib.Core.Logic.{◌⊎◌, inl, inr, ⊎_elim}
use native.Mathlib.Omega.{arith}
use native.Mathlib.Nat.{eq-or-lt_of_le}
use lib.Dec.{eqb}
use lib.ListN.{length}
use borrow.Author.Tests.{eq-eqb, ne_eqb}
use Rattle.std.specs.Prelude.{Option, Some, None}
use Rattle.list.specs.Tree as tree
use Rattle.list.specs.Tree.{Elements, none, value, list, int, vocab, float, str, blob, count}
use Rattle.slot.specs.Slot.{param_count, present_at}
use Rattle.slot.specs.Rows.{slot_at}
use Rattle.slot.specs.declared.Slot.{Slot}
use Rattle.table.specs.Places.{place_of, row_at, row_of}
use Rattle.table.proofs.Searches.{holds_parts, place_found}
use Rattle.lawful.specs.Lawful.{Lawful}
use Rattle.lawful.proofs.Keeps.{own-place}
use Rattle.publish.specs.Published.{element_of, held_value, pair, list_if, parameters_from, device_row, row_before, devices_from, published}

-- WHAT IS SAID
-- a list stands among the elements
abbrev pub Has : Elements → Elements → Type 0
Has none row = ⊥
Has (value v es) row = Has es row
Has (list inner es) row = (row ≡ inner) ⊎ Has es row

-- the first number of a list
abbrev pub number_of : tree.Value → ℕ
number_of (int n) = n
number_of (vocab n) = n
number_of (float low high) = 0
number_of (str bs) = 0
number_of (blob bs) = 0

abbrev pub first_of : Elements → ℕ
first_of none = 0
first_of (value v es) = number_of v
first_of (list inner es) = 0

-- the first numbers of the lists among the elements: the sockets of rows, the indices of parameters
abbrev pub firsts : Elements → List ℕ
firsts none = []
firsts (value v es) = firsts es
firsts (list inner es) = first_of inner ∷ firsts es

-- each number is above the one before it
abbrev pub Above : ℕ → List ℕ → Type 0
Above a [] = Unit {0}
Above a (b ∷ l) = (a < b) × Above a l

abbrev pub Rising : List ℕ → Type 0
Rising [] = Unit {0}
Rising (a ∷ l) = Above a l × Rising l

-- the list among the elements whose first number is this one
abbrev pub list_of : Elements → ℕ → option.Option Elements
list_of none n = option.none
list_of (value v es) n = list_of es n
list_of (list inner es) n = cond (eqb (first_of inner) n) (some inner) (list_of es n)

-- DEVICES
-- the row that is found for a socket is that socket's
row-socket : (slots : ℕ) (t : List ℕ) (socket i : ℕ) → place_of slots t socket ≡ Some i → (slot_at t i).socket ≡ socket
row-socket slots t socket i e = (holds_parts (slot_at t i) socket (place_found slots t socket i e).0).1

devices-above :
    (n slots : ℕ) (c t : List ℕ) (socket j : ℕ) → j < socket → Above j (firsts (devices_from n slots c t socket))
unfolding devices_from row_before device_row
devices-above zero slots c t socket j h = tt
devices-above (suc n) slots c t socket j h = go (place_of slots t socket) refl (devices-above n slots c t (socket + 1) j (omega arith))
  where
    go :
        (p : Option ℕ) → place_of slots t socket ≡ p → Above j (firsts (devices_from n slots c t (socket + 1))) →
        Above j (firsts (row_before c (row_at t p) (devices_from n slots c t (socket + 1))))
    go None e a = a
    go (Some i) e a = let q = row-socket slots t socket i e in (omega arith, a)

devices-rise : (n slots : ℕ) (c t : List ℕ) (socket : ℕ) → Rising (firsts (devices_from n slots c t socket))
unfolding devices_from row_before device_row
devices-rise zero slots c t socket = tt
devices-rise (suc n) slots c t socket = go (place_of slots t socket) refl (devices-rise n slots c t (socket + 1))
  where
    go :
        (p : Option ℕ) → place_of slots t socket ≡ p → Rising (firsts (devices_from n slots c t (socket + 1))) →
        Rising (firsts (row_before c (row_at t p) (devices_from n slots c t (socket + 1))))
    go None e r = r
    go (Some i) e r =
        let q = row-socket slots t socket i e in
        (devices-above n slots c t (socket + 1) (slot_at t i).socket (omega arith), r)

-- LAW: "in rising socket order", so no socket has two rows
pub rows-rise : (slots sockets : ℕ) (c t : List ℕ) → Rising (firsts (published slots sockets c t))
rows-rise slots sockets c t = devices-rise sockets slots c t 0

devices-has :
    (n slots : ℕ) (c t : List ℕ) (from socket : ℕ) (s : Slot) → from ≤ socket → socket < from + n → row_of slots t socket ≡ some s →
    Has (devices_from n slots c t from) (device_row c s)
unfolding devices_from row_before
devices-has zero slots c t from socket s l m e = absurd (omega arith)
devices-has (suc n) slots c t from socket s l m e =
    ⊎_elim
    (λ (q : from ≡ socket). rw (q, e) (inl refl))
    (λ (k : from < socket). later (row_of slots t from) (devices-has n slots c t (from + 1) socket s (omega arith) (omega arith) e))
    (eq-or-lt_of_le l)
  where
    later :
        (r : option.Option Slot) → Has (devices_from n slots c t (from + 1)) (device_row c s) →
        Has (row_before c r (devices_from n slots c t (from + 1))) (device_row c s)
    later option.none h = h
    later (some u) h = inr h

-- LAW: "one row for each seated socket": every socket that is seated has its row
pub socket-has-row :
    (slots sockets : ℕ) (c t : List ℕ) (socket : ℕ) (s : Slot) → socket < sockets → row_of slots t socket ≡ some s →
    Has (published slots sockets c t) (device_row c s)
socket-has-row slots sockets c t socket s l e = devices-has sockets slots c t 0 socket s (omega arith) (omega arith) e

-- LAW: and so has every device of a lawful table
pub device-has-row :
    (slots sockets : ℕ) (c t : List ℕ) (i : ℕ) → Lawful slots sockets c t → i < slots → (slot_at t i).taken ≡ true →
    Has (published slots sockets c t) (device_row c (slot_at t i))
device-has-row slots sockets c t i h l u =
    socket-has-row slots sockets c t (slot_at t i).socket (slot_at t i) ((h.each-slot i l).socket-small u)
    (ap (row_at t) (own-place slots sockets c t i h l u))

-- a row is that of a device
pub record RowOf (slots : ℕ) (c t : List ℕ) (row : Elements) : Type 0 where
  pub slot : ℕ
  pub within : slot < slots
  pub taken : (slot_at t slot).taken ≡ true
  pub is : row ≡ device_row c (slot_at t slot)

devices-only :
    (n slots : ℕ) (c t : List ℕ) (socket : ℕ) (row : Elements) → Has (devices_from n slots c t socket) row → RowOf slots c t row
unfolding devices_from row_before
devices-only zero slots c t socket row h = absurd h
devices-only (suc n) slots c t socket row h = go (place_of slots t socket) refl h (devices-only n slots c t (socket + 1) row)
  where
    go :
        (p : Option ℕ) → place_of slots t socket ≡ p → Has (row_before c (row_at t p) (devices_from n slots c t (socket + 1))) row →
        (Has (devices_from n slots c t (socket + 1)) row → RowOf slots c t row) → RowOf slots c t row
    go None e h rest = rest h
    go (Some i) e h rest =
        let f = place_found slots t socket i e in
        ⊎_elim
        (λ (q : row ≡ device_row c (slot_at t i)). record { slot = i; within = f.1; taken = (holds_parts (slot_at t i) socket f.0).0; is = q })
        (λ m. rest m)
        h

-- LAW: and there is no other row
pub row-is-device : (slots sockets : ℕ) (c t : List ℕ) (row : Elements) → Has (published slots sockets c t) row → RowOf slots c t row
row-is-device slots sockets c t row h = devices-only sockets slots c t 0 row h

devices-lists : (n slots : ℕ) (c t : List ℕ) (socket : ℕ) → length (firsts (devices_from n slots c t socket)) ≡ count (devices_from n slots c t socket)
unfolding devices_from row_before
devices-lists zero slots c t socket = refl
devices-lists (suc n) slots c t socket = go (row_of slots t socket) (devices-lists n slots c t (socket + 1))
  where
    go :
        (r : option.Option Slot) → length (firsts (devices_from n slots c t (socket + 1))) ≡ count (devices_from n slots c t (socket + 1)) →
        length (firsts (row_before c r (devices_from n slots c t (socket + 1)))) ≡ count (row_before c r (devices_from n slots c t (socket + 1)))
    go option.none e = e
    go (some s) e = ap suc e

-- LAW: nothing but rows stands in the published list
pub rows-only : (slots sockets : ℕ) (c t : List ℕ) → length (firsts (published slots sockets c t)) ≡ count (published slots sockets c t)
rows-only slots sockets c t = devices-lists sockets slots c t 0

-- ONE SOCKET'S ROW
listed-past : (n slots : ℕ) (c t : List ℕ) (from socket : ℕ) → socket < from → list_of (devices_from n slots c t from) socket ≡ option.none
unfolding devices_from row_before device_row
listed-past zero slots c t from socket l = refl
listed-past (suc n) slots c t from socket l = go (place_of slots t from) refl (listed-past n slots c t (from + 1) socket (omega arith))
  where
    go :
        (p : Option ℕ) → place_of slots t from ≡ p → list_of (devices_from n slots c t (from + 1)) socket ≡ option.none →
        list_of (row_before c (row_at t p) (devices_from n slots c t (from + 1))) socket ≡ option.none
    go None e h = h
    go (Some i) e h = let q = row-socket slots t from i e in rw (ne_eqb (slot_at t i).socket socket (λ f. omega arith)) h

listed_here :
    (n slots : ℕ) (c t : List ℕ) (socket : ℕ) → list_of (devices_from (suc n) slots c t socket) socket ≡ map (device_row c) (row_of slots t socket)
unfolding devices_from row_before device_row
listed_here n slots c t socket = go (place_of slots t socket) refl
  where
    go :
        (p : Option ℕ) → place_of slots t socket ≡ p →
        list_of (row_before c (row_at t p) (devices_from n slots c t (socket + 1))) socket ≡ map (device_row c) (row_at t p)
    go None e = listed-past n slots c t (socket + 1) socket (omega arith)
    go (Some i) e = rw (eq-eqb (slot_at t i).socket socket (row-socket slots t socket i e))

listed :
    (n slots : ℕ) (c t : List ℕ) (from socket : ℕ) → from ≤ socket → socket < from + n →
    list_of (devices_from n slots c t from) socket ≡ map (device_row c) (row_of slots t socket)
unfolding devices_from row_before device_row
listed zero slots c t from socket l m = absurd (omega arith)
listed (suc n) slots c t from socket l m =
    ⊎_elim
    (λ (q : from ≡ socket). rw q (listed_here n slots c t socket))
    (λ (k : from < socket). later k (place_of slots t from) refl (listed n slots c t (from + 1) socket (omega arith) (omega arith)))
    (eq-or-lt_of_le l)
  where
    later :
        from < socket → (p : Option ℕ) → place_of slots t from ≡ p →
        list_of (devices_from n slots c t (from + 1)) socket ≡ map (device_row c) (row_of slots t socket) →
        list_of (row_before c (row_at t p) (devices_from n slots c t (from + 1))) socket ≡ map (device_row c) (row_of slots t socket)
    later k None e h = h
    later k (Some i) e h = let q = row-socket slots t from i e in rw (ne_eqb (slot_at t i).socket socket (λ f. omega arith)) h

-- LAW: the row that is published for a socket is made of that socket's row in the table, and there is none where it has none
pub row-published :
    (slots sockets : ℕ) (c t : List ℕ) (socket : ℕ) → socket < sockets →
    list_of (published slots sockets c t) socket ≡ map (device_row c) (row_of slots t socket)
row-published slots sockets c t socket l = listed sockets slots c t 0 socket (omega arith) (omega arith)

-- LAW: so it depends on that row and the catalogue alone: whatever else two tables hold, it is the same
pub row-alone :
    (slots sockets : ℕ) (c t u : List ℕ) (socket : ℕ) → socket < sockets → row_of slots t socket ≡ row_of slots u socket →
    list_of (published slots sockets c t) socket ≡ list_of (published slots sockets c u) socket
row-alone slots sockets c t u socket l e =
    row-published slots sockets c t socket l ∙ ap (map (device_row c)) e ∙ sym (row-published slots sockets c u socket l)

devices-same :
    (n slots : ℕ) (c t u : List ℕ) (from : ℕ) → ((socket : ℕ) → from ≤ socket → socket < from + n → row_of slots t socket ≡ row_of slots u socket) →
    devices_from n slots c t from ≡ devices_from n slots c u from
unfolding devices_from
devices-same zero slots c t u from h = refl
devices-same (suc n) slots c t u from h =
    ap (λ r. row_before c r (devices_from n slots c t (from + 1))) (h from (omega arith) (omega arith))
    ∙ ap (row_before c (row_of slots u from)) (devices-same n slots c t u (from + 1) (λ socket l m. h socket (omega arith) (omega arith)))

-- LAW: and the published list on the sockets' rows alone, wherever in the table they stand
pub published-same :
    (slots sockets : ℕ) (c t u : List ℕ) → ((socket : ℕ) → socket < sockets → row_of slots t socket ≡ row_of slots u socket) →
    published slots sockets c t ≡ published slots sockets c u
published-same slots sockets c t u h = devices-same sockets slots c t u 0 (λ socket l m. h socket (omega arith))

-- PARAMETERS
parameters-above : (n : ℕ) (c : List ℕ) (s : Slot) (p j : ℕ) → j < p → Above j (firsts (parameters_from n c s p))
unfolding parameters_from
parameters-above zero c s p j h = tt
parameters-above (suc n) c s p j h = go (present_at s p) (parameters-above n c s (p + 1) j (omega arith))
  where
    go :
        (b : Bool) → Above j (firsts (parameters_from n c s (p + 1))) →
        Above j (firsts (list_if b (pair p (element_of (held_value c s p))) (parameters_from n c s (p + 1))))
    go false a = a
    go true a = (h, a)

-- LAW: "for each held parameter, rising"
pub parameters-rise : (n : ℕ) (c : List ℕ) (s : Slot) (p : ℕ) → Rising (firsts (parameters_from n c s p))
unfolding parameters_from
parameters-rise zero c s p = tt
parameters-rise (suc n) c s p = go (present_at s p) (parameters-rise n c s (p + 1))
  where
    go :
        (b : Bool) → Rising (firsts (parameters_from n c s (p + 1))) →
        Rising (firsts (list_if b (pair p (element_of (held_value c s p))) (parameters_from n c s (p + 1))))
    go false r = r
    go true r = (parameters-above n c s (p + 1) p (omega arith), r)

parameters-have :
    (n : ℕ) (c : List ℕ) (s : Slot) (from p : ℕ) → from ≤ p → p < from + n → present_at s p ≡ true →
    Has (parameters_from n c s from) (pair p (element_of (held_value c s p)))
unfolding parameters_from
parameters-have zero c s from p l m e = absurd (omega arith)
parameters-have (suc n) c s from p l m e =
    ⊎_elim
    (λ (q : from ≡ p). rw (q, e) (inl refl))
    (λ (k : from < p). later (present_at s from) (parameters-have n c s (from + 1) p (omega arith) (omega arith) e))
    (eq-or-lt_of_le l)
  where
    later :
        (b : Bool) → Has (parameters_from n c s (from + 1)) (pair p (element_of (held_value c s p))) →
        Has (list_if b (pair from (element_of (held_value c s from))) (parameters_from n c s (from + 1)))
        (pair p (element_of (held_value c s p)))
    later false h = h
    later true h = inr h

-- LAW: nothing but lists of parameters stands behind the UID
pub lists-only : (n : ℕ) (c : List ℕ) (s : Slot) (p : ℕ) → length (firsts (parameters_from n c s p)) ≡ count (parameters_from n c s p)
unfolding parameters_from
lists-only zero c s p = refl
lists-only (suc n) c s p = go (present_at s p) (lists-only n c s (p + 1))
  where
    go :
        (b : Bool) → length (firsts (parameters_from n c s (p + 1))) ≡ count (parameters_from n c s (p + 1)) →
        length (firsts (list_if b (pair p (element_of (held_value c s p))) (parameters_from n c s (p + 1)))) ≡
        count (list_if b (pair p (element_of (held_value c s p))) (parameters_from n c s (p + 1)))
    go false e = e
    go true e = ap suc e

-- LAW: every held parameter has its list
pub parameter-has-list :
    (c : List ℕ) (s : Slot) (p : ℕ) → p < param_count → present_at s p ≡ true →
    Has (parameters_from param_count c s 0) (pair p (element_of (held_value c s p)))
parameter-has-list c s p l e = parameters-have param_count c s 0 p (omega arith) (omega arith) e

-- a list is that of a held parameter
pub record ListOf (c : List ℕ) (s : Slot) (row : Elements) : Type 0 where
  pub index : ℕ
  pub within : index < param_count
  pub held : present_at s index ≡ true
  pub is : row ≡ pair index (element_of (held_value c s index))

parameters-only :
    (n : ℕ) (c : List ℕ) (s : Slot) (p : ℕ) (row : Elements) → p + n ≤ param_count → Has (parameters_from n c s p) row → ListOf c s row
unfolding parameters_from
parameters-only zero c s p row l h = absurd h
parameters-only (suc n) c s p row l h = go (present_at s p) refl h (parameters-only n c s (p + 1) row (omega arith))
  where
    go :
        (b : Bool) → present_at s p ≡ b →
        Has (list_if b (pair p (element_of (held_value c s p))) (parameters_from n c s (p + 1))) row →
        (Has (parameters_from n c s (p + 1)) row → ListOf c s row) → ListOf c s row
    go false e h rest = rest h
    go true e h rest =
        ⊎_elim
        (λ (q : row ≡ pair p (element_of (held_value c s p))). record { index = p; within = omega arith; held = e; is = q })
        (λ m. rest m)
        h

-- LAW: and there is no other list
pub list-is-parameter : (c : List ℕ) (s : Slot) (row : Elements) → Has (parameters_from param_count c s 0) row → ListOf c s row
list-is-parameter c s row h = parameters-only param_count c s 0 row (omega arith) h
