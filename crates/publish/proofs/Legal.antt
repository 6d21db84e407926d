-- The published list of any table of bytes is a legal list, and reading it back gives it whole.
use Prim.Native.Nat.{ℕ, zero, suc, ◌+◌, ◌-◌, ◌≤◌}
use mathlib.Core.Path.{◌≡◌}
use mathlib.Core.Bool.{Bool, true, false}
use mathlib.Core.List.{List, ◌++◌}
use native.Mathlib.Omega.{arith}
use lib.ListN.{length, drop}
use Rattle.std.specs.Prelude.{Option, Some, None}
use Rattle.wire.specs.Area.{over}
use Rattle.wire.specs.Number.{Bytes}
use Rattle.wire.proofs.Numbers.{le_bytes-bytes}
use Rattle.list.specs.Limits.{list_limit, depth_limit}
use Rattle.list.specs.Bytes.{list_bytes}
use Rattle.list.specs.Legal.{LegalElements, Legal}
use Rattle.list.specs.Parse.{parse, good}
use Rattle.list.proofs.Complete.{complete}
use Rattle.catalogue.specs.Lookup.{parameter_of, kind_in}
use Rattle.slot.specs.Slot.{param_count, present_at, bits_at, Fits}
use Rattle.slot.specs.Row.{uid_size}
use Rattle.slot.specs.Rows.{slot_at}
use Rattle.slot.specs.declared.Slot.{Slot}
use Rattle.slot.proofs.Rows.{slot-fits}
use Rattle.table.specs.Places.{slot_count, socket_count, place_of, row_at}
use Rattle.publish.specs.Published.{element_of, held_value, pair, list_if, parameters_from, device_row, row_before, devices_from, published}
use Rattle.publish.proofs.Values.{element-legal}
use Rattle.publish.proofs.Size.{published-size}

parameters-legal : (n : ℕ) (c : List ℕ) (s : Slot) (p : ℕ) → Fits s → p + n ≤ param_count → LegalElements (depth_limit - 2) (parameters_from n c s p)
unfolding parameters_from
parameters-legal zero c s p f h = tt
parameters-legal (suc n) c s p f h = go (present_at s p) (parameters-legal n c s (p + 1) f (omega arith))
  where
    go :
        (b : Bool) → LegalElements (depth_limit - 2) (parameters_from n c s (p + 1)) →
        LegalElements (depth_limit - 2) (list_if b (pair p (element_of (held_value c s p))) (parameters_from n c s (p + 1)))
    go false l = l
    go true l = ((omega arith, (element-legal (kind_in (parameter_of c s.device p)) (bits_at s p) (f.word_small p), tt)), l)

-- LAW: the row of a slot whose fields have their types is legal
pub row-legal : (c : List ℕ) (s : Slot) → Fits s → LegalElements (depth_limit - 2) (device_row c s)
unfolding device_row
row-legal c s f =
    (omega (arith, f.socket-byte), (omega (arith, f.device-byte), (le_bytes-bytes uid_size s.uid, parameters-legal param_count c s 0 f (omega arith))))

devices-legal : (n slots : ℕ) (c t : List ℕ) (socket : ℕ) → Bytes t → LegalElements (depth_limit - 1) (devices_from n slots c t socket)
unfolding devices_from row_before
devices-legal zero slots c t socket b = tt
devices-legal (suc n) slots c t socket b = go (place_of slots t socket) (devices-legal n slots c t (socket + 1) b)
  where
    go :
        (p : Option ℕ) → LegalElements (depth_limit - 1) (devices_from n slots c t (socket + 1)) →
        LegalElements (depth_limit - 1) (row_before c (row_at t p) (devices_from n slots c t (socket + 1)))
    go None l = l
    go (Some i) l = (row-legal c (slot_at t i) (slot-fits t b i), l)

-- LAW: so are the rows of any table of bytes, whatever its size
pub rows-legal : (slots sockets : ℕ) (c t : List ℕ) → Bytes t → LegalElements (depth_limit - 1) (published slots sockets c t)
rows-legal slots sockets c t b = devices-legal sockets slots c t 0 b

-- LAW: the published list is legal
pub published-legal : (c t : List ℕ) → Bytes t → Legal list_limit (published slot_count socket_count c t)
published-legal c t b = (rows-legal slot_count socket_count c t b, omega (arith, published-size c t))

-- LAW: what was published, with anything behind it, is read as exactly that list
pub read_back :
    (c t rest : List ℕ) → Bytes t →
    parse list_limit (list_bytes (published slot_count socket_count c t) ++ rest) ≡
    good (published slot_count socket_count c t) (length (list_bytes (published slot_count socket_count c t)))
read_back c t rest b = complete list_limit (published slot_count socket_count c t) rest (omega arith) (published-legal c t b)

-- LAW: so is the buffer, whatever it held
pub buffer-reads-back :
    (c t buffer : List ℕ) → Bytes t →
    parse list_limit (over (list_bytes (published slot_count socket_count c t)) buffer) ≡
    good (published slot_count socket_count c t) (length (list_bytes (published slot_count socket_count c t)))
buffer-reads-back c t buffer b = read_back c t (drop (length (list_bytes (published slot_count socket_count c t))) buffer) b
