-- `attach::assign` meets its contract, by the tests that lead to each answer.
use Prim.Native.Nat.{ℕ}
use mathlib.Core.Path.{◌≡◌, sym, ◌∙◌}
use mathlib.Core.Bool.{Bool}
use mathlib.Core.List.{List}
use Rattle.std.proofs.Common.{rules}
use Rattle.std.specs.Prelude.{Option}
use Rattle.std.specs.Option.{is_some}
use Rattle.catalogue.specs.Lookup.{device_of}
use Rattle.catalogue.specs.declared.Device.{Device}
use Rattle.attach.specs.Attach.{device_in, uid_in, uid_free}
use Rattle.attach.proofs.Facts.{uid-elsewhere}
use Rattle.attach.proofs.Acks.{unknown-ack, uid-taken-ack, no-slot-ack, ack-accepts}
use Rattle.attach.proofs.assign.Goals as goal

-- what is read of the payload leads to the two tests of the definition
known_is :
    (c payload : List ℕ) {device : ℕ} {d : Option Device} {b : Bool} → device ≡ device_in payload → d ≡ device_of c device → is_some d ≡ b →
    is_some (device_of c (device_in payload)) ≡ b
known_is c payload p q e = rw (← p, ← q) e

free-is :
    (slots : ℕ) (t : List ℕ) (socket : ℕ) (payload : List ℕ) {uid : ℕ} {b : Bool} → uid ≡ uid_in payload →
    b ≡ uid_free slots t socket uid → uid_free slots t socket (uid_in payload) ≡ b
free-is slots t socket payload p q = rw (← p, ← q)

pub returns-then-is_none : goal.returns-then-is_none
returns-then-is_none c =
    let a = c.args in
    let e = c.if-is_none.ensures in
    let k = known_is a.c.now a.payload.now c.byte_at-device.ensures c.find_device.ensures e in
    sym (unknown-ack a.slots a.c.now a.t.now a.socket a.payload.now k)

pub returns-then-not-is_uid_free : goal.returns-then-not-is_uid_free
returns-then-not-is_uid_free c =
    let a = c.args in
    let e = c.if-is_none.ensures in
    let u = c.if-not-is_uid_free.ensures in
    let k = known_is a.c.now a.payload.now c.byte_at-device.ensures c.find_device.ensures e in
    let f = free-is a.slots a.t.now a.socket a.payload.now c.u64_at-uid.ensures u in
    sym
    (uid-taken-ack a.slots a.c.now a.t.now a.socket a.payload.now k
    ((uid-elsewhere a.slots a.t.now a.socket (uid_in a.payload.now)).0 f))

pub returns : goal.returns
returns c =
    let a = c.args in
    let e = c.if-is_none.ensures in
    let u = c.if-not-is_uid_free.ensures in
    let k = known_is a.c.now a.payload.now c.byte_at-device.ensures c.find_device.ensures e in
    let f = free-is a.slots a.t.now a.socket a.payload.now c.u64_at-uid.ensures u in
    let place = c.in_ok-i.ensures in
    let accepts =
    ack-accepts a.slots a.c.now a.t.now a.socket a.payload.now k _ f (sym c.find_place.ensures ∙ place.ok_part) in
    rw (accepts, c.put_slot.ensures, c.new_slot.ensures, c.byte_at-device.ensures, c.byte_at-year.ensures, c.u64_at-uid.ensures)

pub returns-in_err-i : goal.returns-in_err-i
returns-in_err-i c =
    let a = c.args in
    let e = c.if-is_none.ensures in
    let u = c.if-not-is_uid_free.ensures in
    let k = known_is a.c.now a.payload.now c.byte_at-device.ensures c.find_device.ensures e in
    let f = free-is a.slots a.t.now a.socket a.payload.now c.u64_at-uid.ensures u in
    let place = c.in_err-i.ensures in
    rw
    (no-slot-ack a.slots a.c.now a.t.now a.socket a.payload.now k f
    (sym c.find_place.ensures ∙ place.ok_part))
    (search rules)
