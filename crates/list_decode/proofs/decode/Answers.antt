-- `list_decode::decode` meets its contract: 20, then what judging says, then the list's own bytes are filled in.
use mathlib.Core.Path.{sym, ap, ◌∙◌}
use native.Mathlib.Omega.{arith}
use Rattle.std.proofs.lemmas.Result.{err_from_is_err_and}
use Rattle.wire.proofs.ByteLists.{all-bytes}
use Rattle.list_decode.specs.Decode.{refused, outcome}
use Rattle.list_check.proofs.Promised.{was-bad}
use Rattle.list_decode.proofs.Answers.{few-rows, small-store, enough, decoding-short, decoding-fault, told-end, own-length, own-judged, own-answered}
use Rattle.list_decode.proofs.decode.Goals as goal

pub returns-then-rows-lt-ROW_BYTES : goal.returns-then-rows-lt-ROW_BYTES
returns-then-rows-lt-ROW_BYTES c =
    let a = c.args in
    ap (λ r. outcome (refused r) a.rows.now a.store.now) c.no_room.ensures
    ∙ sym (decoding-short a.bytes.now a.rows.now a.store.now (few-rows a.rows.now a.store.now c.if-rows-lt-ROW_BYTES.true))

pub returns-then-store-lt-STORE_ROOM : goal.returns-then-store-lt-STORE_ROOM
returns-then-store-lt-STORE_ROOM c =
    let a = c.args in
    ap (λ r. outcome (refused r) a.rows.now a.store.now) c.no_room-then-store-lt-STORE_ROOM.ensures
    ∙ sym (decoding-short a.bytes.now a.rows.now a.store.now (small-store a.rows.now a.store.now c.if-store-lt-STORE_ROOM.true))

pub slice_bounds-fill-end : goal.slice_bounds-fill-end
slice_bounds-fill-end c =
    let a = c.args in
    let told = told-end a.bytes.now _ c.in_ok-consumed.ensures in
    let all = all-bytes a.bytes.now (λ i. omega (arith, c.type_inv.bytes i)) in
    sym (own-length a.bytes.now _ all told)

pub fill-n-requires : goal.fill-n-requires
fill-n-requires c =
    let a = c.args in
    let told = told-end a.bytes.now _ c.in_ok-consumed.ensures in
    let all = all-bytes a.bytes.now (λ i. omega (arith, c.type_inv.bytes i)) in
    own-judged a.bytes.now _ all told a.rows.now a.store.now c.if-rows-lt-ROW_BYTES.false c.if-store-lt-STORE_ROOM.false

pub returns-in_err-consumed : goal.returns-in_err-consumed
returns-in_err-consumed c =
    let a = c.args in
    let p = err_from_is_err_and c.from_residual.result c.from_residual.ensures.1 in
    let told = was-bad _ _ (sym c.in_err-consumed.ensures) in
    let room = enough a.rows.now a.store.now c.if-rows-lt-ROW_BYTES.false c.if-store-lt-STORE_ROOM.false in
    rw (p.1, p.2) (sym (decoding-fault a.bytes.now a.rows.now a.store.now _ room told))

pub returns : goal.returns
returns c =
    let a = c.args in
    let told = told-end a.bytes.now _ c.in_ok-consumed.ensures in
    let all = all-bytes a.bytes.now (λ i. omega (arith, c.type_inv.bytes i)) in
    own-answered a.bytes.now _ all told a.rows.now a.store.now c.if-rows-lt-ROW_BYTES.false c.if-store-lt-STORE_ROOM.false _ _ _
    c.fill-n.ensures
