-- `setting::look_up` meets its contract, by the fault of each list.
use mathlib.Core.Path.{ap, ◌∙◌}
use native.Mathlib.Omega.{arith}
use Rattle.wire.proofs.ByteLists.{all-bytes}
use Rattle.errors.proofs.Numbers.{some-number}
use Rattle.list_check.proofs.Whole.{is_whole, is-bad}
use Rattle.setting.specs.Lookup.{numbers_of}
use Rattle.setting.proofs.Answers.{guest-refused, house-refused, both_read}
use Rattle.setting.proofs.Within.{looked-up}
use Rattle.setting.proofs.look_up.Goals as goal

-- both lists were read
pub choose-requires : goal.choose-requires
choose-requires c =
    let a = c.args in
    (is_whole a.guest.now _ c.in_default.ensures (omega arith), is_whole a.house.now _ c.in_default-fault.ensures (omega arith))

pub returns-in-Err : goal.returns-in-Err
returns-in-Err c =
    let a = c.args in
    let bg = all-bytes a.guest.now (λ i. omega (arith, c.type_inv.guest i)) in
    let bh = all-bytes a.house.now (λ i. omega (arith, c.type_inv.house i)) in
    let bad = is-bad a.guest.now _ c.in-Err.ensures (omega (arith, some-number c.in-Err.r.error)) in
    looked-up a.guest.now a.house.now a.key.now bg bh _ (c.of_list.ensures ∙ guest-refused a.guest.now a.house.now a.key.now _ bad)

pub returns-in-Err-fault : goal.returns-in-Err-fault
returns-in-Err-fault c =
    let a = c.args in
    let bg = all-bytes a.guest.now (λ j. omega (arith, c.type_inv.guest j)) in
    let bh = all-bytes a.house.now (λ j. omega (arith, c.type_inv.house j)) in
    let w = is_whole a.guest.now _ c.in_default.ensures (omega arith) in
    let bad = is-bad a.house.now _ c.in-Err-fault.ensures (omega (arith, some-number c.in-Err-fault.r.error)) in
    looked-up a.guest.now a.house.now a.key.now bg bh _ (c.of_list-in-Err-fault.ensures ∙ house-refused a.guest.now a.house.now a.key.now _ w bad)

pub returns : goal.returns
returns c =
    let a = c.args in
    let bg = all-bytes a.guest.now (λ i. omega (arith, c.type_inv.guest i)) in
    let bh = all-bytes a.house.now (λ i. omega (arith, c.type_inv.house i)) in
    let wg = is_whole a.guest.now _ c.in_default.ensures (omega arith) in
    let wh = is_whole a.house.now _ c.in_default-fault.ensures (omega arith) in
    looked-up a.guest.now a.house.now a.key.now bg bh _
    (c.choose.ensures ∙ ap numbers_of (both_read a.guest.now a.house.now a.key.now wg wh))
