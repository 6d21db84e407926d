-- The bytes of the pieces of the published list.
use Prim.Native.Nat.{ℕ, zero, suc, ◌+◌, ◌-◌, ◌/◌, ◌%◌, ◌≤◌, ◌<◌}
use mathlib.Core.Path.{◌≡◌, refl, sym, ap, subst, ◌∙◌}
use mathlib.Core.Bool.{true, false}
use mathlib.Core.List.{List, [], ◌++◌, append-nil}
use mathlib.Core.Option as option
use mathlib.Core.Option.{some}
use Rattle.std.specs.Prelude.{Option}
use native.Mathlib.Omega.{arith}
use native.Mathlib.Nat.{zero-add}
use lib.ListN.{length, get_or, length-append}
use lib.Seq.{sets}
use Rattle.wire.specs.Area.{over}
use Rattle.wire.specs.Number.{le_bytes}
use Rattle.wire.proofs.Buffers.{sets-front}
use Rattle.list.specs.Kind.{list_code, typed_code, code_of}
use Rattle.list.specs.declared.Kind.TheVariants as kinds
use Rattle.list.specs.Tree as tree
use Rattle.list.specs.Tree.{Elements, none, value, list, int, blob, count}
use Rattle.list.specs.Bytes.{number, code_for, list_code_of, element_bytes, list_bytes}
use Rattle.list.proofs.Codes.{CodeIs, mixed, typed, code_is, code-none}
use Rattle.catalogue.specs.Format.{kind_number, described}
use Rattle.catalogue.specs.Lookup.{device_of, BytesIn}
use Rattle.catalogue.specs.declared.Device.{Device}
use Rattle.catalogue.specs.declared.Parameter.{Parameter}
use Rattle.catalogue.proofs.Bytes.{kind-is}
use Rattle.value.specs.Meaning.{value_of}
use Rattle.value.specs.declared.Value.{Value}
use Rattle.slot.specs.Slot.{param_count, present_at, bits_at}
use Rattle.slot.specs.Row.{uid_size}
use Rattle.slot.specs.declared.Slot.{Slot}
use Rattle.table.specs.Places.{row_of}
use Rattle.publish.specs.Put.{Put, front}
use Rattle.publish.specs.Published.{double, element_of, held_value, pair, parameters_from, device_row, row_before, devices_from, published}
use Rattle.publish.proofs.Stores.{put_as, put-before}

-- the bytes of the list before its rows, of a row before its parameters, and of a parameter: a NetInt, or a NetFloat
abbrev pub list_front : ℕ
list_front = 8

abbrev pub row_front : ℕ
row_front = 40

abbrev pub int_size : ℕ
int_size = 16

abbrev pub float_size : ℕ
float_size = 28

-- a parameter that becomes a NetInt: a typed list
pub int-pair : (p x : ℕ) → element_bytes list_code (list (pair p (int x)) none) ≡ (number (typed_code kinds.Int) ++ number 2) ++ (number p ++ number x)
unfolding code_for
int-pair p x = refl

-- a parameter that becomes a NetFloat: both elements follow their codes
pub double-pair :
    (p x : ℕ) →
    element_bytes list_code (list (pair p (double x)) none) ≡
    (number list_code ++ number 2) ++
    ((number (code_of kinds.Int) ++ number p) ++ (number (code_of kinds.Float) ++ (number (x % 0x1_0000_0000) ++ number (x / 0x1_0000_0000))))
unfolding code_for
double-pair p x = refl

pub int-size : (p x : ℕ) (v : tree.Value) → v ≡ int x → length (element_bytes list_code (list (pair p v) none)) ≡ int_size
int-size p x v e = ap (λ (u : tree.Value). length (element_bytes list_code (list (pair p u) none))) e ∙ ap length (int-pair p x)

pub double-size : (p x : ℕ) (v : tree.Value) → v ≡ double x → length (element_bytes list_code (list (pair p v) none)) ≡ float_size
double-size p x v e = ap (λ (u : tree.Value). length (element_bytes list_code (list (pair p u) none))) e ∙ ap length (double-pair p x)

pub put-value :
    {l m : List ℕ} {at end : ℕ} (p : ℕ) (u v : tree.Value) → u ≡ v → Put l at (element_bytes list_code (list (pair p u) none)) m end →
    Put l at (element_bytes list_code (list (pair p v) none)) m end
put-value {l} {m} {at} {end} p u v e h = subst (λ (w : tree.Value). Put l at (element_bytes list_code (list (pair p w) none)) m end) e h

-- a list's bytes, then those of the elements behind it
pub list-bytes :
    (inner rest : Elements) → element_bytes list_code (list inner rest) ≡ element_bytes list_code (list inner none) ++ element_bytes list_code rest
list-bytes inner rest =
    let i = element_bytes (list_code_of inner) inner in
    let r = element_bytes list_code rest in
    ap (λ (z : List ℕ). number (list_code_of inner) ++ (number (count inner) ++ z))
    (ap (λ (z : List ℕ). z ++ r) (sym (append-nil i)))

-- a list of a number, another and a blob, and more: no kind is common to all
pub row-code : (a b : ℕ) (bs : List ℕ) (es : Elements) → list_code_of (value (int a) (value (int b) (value (blob bs) es))) ≡ list_code
row-code a b bs es = go (code_is (value (int a) (value (int b) (value (blob bs) es))))
  where
    go : CodeIs (value (int a) (value (int b) (value (blob bs) es))) → list_code_of (value (int a) (value (int b) (value (blob bs) es))) ≡ list_code
    go (mixed e) = e
    go (typed k e a) = let q : kinds.Int ≡ kinds.Blob = a.0 ∙ sym a.1.1.0 in absurd (let z : ◌≡◌ {A = ℕ} 0 1 = cc in omega arith)

pub device-bytes :
    (c : List ℕ) (s : Slot) →
    element_bytes list_code (list (device_row c s) none) ≡
    front s (count (parameters_from param_count c s 0)) ++ element_bytes list_code (parameters_from param_count c s 0)
unfolding device_row front
device-bytes c s =
    let ps = parameters_from param_count c s 0 in
    let row = value (int s.socket) (value (int s.device) (value (blob (le_bytes uid_size s.uid)) ps)) in
    let n : count row ≡ 3 + count ps = omega arith in
    ap (λ (code : ℕ). number code ++ (number (count row) ++ (element_bytes code row ++ []))) (row-code s.socket s.device (le_bytes uid_size s.uid) ps)
    ∙ ap (λ (k : ℕ). number list_code ++ (number k ++ (element_bytes list_code row ++ []))) n
    ∙ ap (λ (bytes : List ℕ). front s (count ps) ++ bytes) (append-nil (element_bytes list_code ps))

front-size : (s : Slot) (held : ℕ) → length (front s held) ≡ row_front
unfolding front
front-size s held = refl

pub device-size :
    (c : List ℕ) (s : Slot) →
    length (element_bytes list_code (list (device_row c s) none)) ≡ row_front + length (element_bytes list_code (parameters_from param_count c s 0))
device-size c s =
    let ps = parameters_from param_count c s 0 in
    ap length (device-bytes c s) ∙ length-append (front s (count ps)) (element_bytes list_code ps)
    ∙ ap (λ (n : ℕ). n + length (element_bytes list_code ps)) (front-size s (count ps))

-- the parameters are put first, and the front of the row before them
pub device-put :
    {l m n : List ℕ} {at end held : ℕ} (c : List ℕ) (s : Slot) →
    Put l (at + row_front) (element_bytes list_code (parameters_from param_count c s 0)) m end → held ≡ count (parameters_from param_count c s 0) →
    n ≡ sets m at (front s held) → Put l at (element_bytes list_code (list (device_row c s) none)) n end
device-put {l} {m} {n} {at} {end} {held} c s p h e =
    let ps = parameters_from param_count c s 0 in
    let size : at + row_front ≡ at + length (front s (count ps)) = ap (λ (k : ℕ). at + k) (sym (front-size s (count ps))) in
    put_as (sym (device-bytes c s))
    (put-before l at (at + row_front) (front s (count ps)) (element_bytes list_code ps) size p (e ∙ ap (λ (k : ℕ). sets m at (front s k)) h))

-- the bytes of a device type that was found by its number
pub bytes_of :
    (c : List ℕ) (number : ℕ) {d : Option Device} {bytes : List ℕ} → d ≡ device_of c number → BytesIn c d bytes →
    BytesIn c (device_of c number) bytes
bytes_of c number e h = rw e at h

-- the value that value_of answers for a parameter's kind, by its byte, is the one that is held
pub held-is :
    (c : List ℕ) (s : Slot) (p : ℕ) {bytes : List ℕ} {q : Parameter} {v : Value} → BytesIn c (device_of c s.device) bytes → p < param_count →
    q ≡ described (get_or bytes p 0) → v ≡ value_of (kind_number q.kind) (bits_at s p) → v ≡ held_value c s p
held-is c s p h l e f = f ∙ ap (λ (x : Parameter). value_of (kind_number x.kind) (bits_at s p)) e ∙ ap (λ (k : ℕ). value_of k (bits_at s p)) (sym (kind-is h p l))

-- the parameters from p on: the first is held, or it is not
pub parameters-held :
    (c : List ℕ) (s : Slot) (p : ℕ) → p < param_count → present_at s p ≡ true →
    parameters_from (param_count - p) c s p ≡ list (pair p (element_of (held_value c s p))) (parameters_from (param_count - (p + 1)) c s (p + 1))
unfolding parameters_from
parameters-held c s p h e = let n : param_count - p ≡ suc (param_count - (p + 1)) = omega arith in rw (n, e)

pub parameters-absent :
    (c : List ℕ) (s : Slot) (p : ℕ) → p < param_count → present_at s p ≡ false →
    parameters_from (param_count - p) c s p ≡ parameters_from (param_count - (p + 1)) c s (p + 1)
unfolding parameters_from
parameters-absent c s p h e = let n : param_count - p ≡ suc (param_count - (p + 1)) = omega arith in rw (n, e)

pub parameters-end : (c : List ℕ) (s : Slot) (p : ℕ) → param_count ≤ p → parameters_from (param_count - p) c s p ≡ none
unfolding parameters_from
parameters-end c s p h = let n : param_count - p ≡ 0 = omega arith in rw n

-- the sockets from one on: it has a device, or it has none
pub devices-at :
    (sockets slots : ℕ) (c t : List ℕ) (socket : ℕ) (s : Slot) → socket < sockets → row_of slots t socket ≡ some s →
    devices_from (sockets - socket) slots c t socket ≡ list (device_row c s) (devices_from (sockets - (socket + 1)) slots c t (socket + 1))
unfolding devices_from row_before
devices-at sockets slots c t socket s h e = let n : sockets - socket ≡ suc (sockets - (socket + 1)) = omega arith in rw (n, e)

pub devices-nowhere :
    (sockets slots : ℕ) (c t : List ℕ) (socket : ℕ) → socket < sockets → row_of slots t socket ≡ option.none →
    devices_from (sockets - socket) slots c t socket ≡ devices_from (sockets - (socket + 1)) slots c t (socket + 1)
unfolding devices_from row_before
devices-nowhere sockets slots c t socket h e = let n : sockets - socket ≡ suc (sockets - (socket + 1)) = omega arith in rw (n, e)

pub devices-end : (sockets slots : ℕ) (c t : List ℕ) (socket : ℕ) → sockets ≤ socket → devices_from (sockets - socket) slots c t socket ≡ none
unfolding devices_from
devices-end sockets slots c t socket h = let n : sockets - socket ≡ 0 = omega arith in rw n

-- a list of lists carries no kind
lists-code : (inner rest : Elements) → list_code_of (list inner rest) ≡ list_code
lists-code inner rest = go (code_is (list inner rest))
  where
    go : CodeIs (list inner rest) → list_code_of (list inner rest) ≡ list_code
    go (mixed e) = e
    go (typed k e a) = absurd a

devices-code : (n slots : ℕ) (c t : List ℕ) (socket : ℕ) → list_code_of (devices_from n slots c t socket) ≡ list_code
unfolding devices_from row_before
devices-code zero slots c t socket = code-none
devices-code (suc n) slots c t socket = go (row_of slots t socket) (devices-code n slots c t (socket + 1))
  where
    go :
        (s : option.Option Slot) → list_code_of (devices_from n slots c t (socket + 1)) ≡ list_code →
        list_code_of (row_before c s (devices_from n slots c t (socket + 1))) ≡ list_code
    go option.none e = e
    go (some s) e = lists-code (device_row c s) (devices_from n slots c t (socket + 1))

pub published-bytes :
    (slots sockets : ℕ) (c t : List ℕ) →
    list_bytes (published slots sockets c t) ≡
    (number list_code ++ number (count (published slots sockets c t))) ++ element_bytes list_code (published slots sockets c t)
unfolding list_bytes
published-bytes slots sockets c t =
    let es = published slots sockets c t in
    ap (λ (code : ℕ). number code ++ (number (count es) ++ element_bytes code es)) (devices-code sockets slots c t 0)

pub published-length :
    (slots sockets : ℕ) (c t : List ℕ) →
    length (list_bytes (published slots sockets c t)) ≡ list_front + length (element_bytes list_code (published slots sockets c t))
published-length slots sockets c t = ap length (published-bytes slots sockets c t) ∙ omega arith

-- the rows are put first, and the front of the list before them
pub published-put :
    {l m n : List ℕ} {end rows : ℕ} (slots sockets : ℕ) (c t : List ℕ) → length (list_bytes (published slots sockets c t)) ≤ length l →
    Put l list_front (element_bytes list_code (published slots sockets c t)) m end → rows ≡ count (published slots sockets c t) →
    n ≡ sets m 0 (number list_code ++ number rows) →
    (n ≡ over (list_bytes (published slots sockets c t)) l) × (end ≡ length (list_bytes (published slots sockets c t)))
published-put {l} {m} {n} {end} {rows} slots sockets c t room p h e =
    let es = published slots sockets c t in
    let q : Put l 0 (list_bytes es) n end =
    put_as (sym (published-bytes slots sockets c t))
    (put-before l 0 list_front (number list_code ++ number (count es)) (element_bytes list_code es) refl p
    (e ∙ ap (λ (k : ℕ). sets m 0 (number list_code ++ number k)) h)) in
    (q.stored ∙ sets-front l (list_bytes es) room, q.behind ∙ zero-add (length (list_bytes es)))
