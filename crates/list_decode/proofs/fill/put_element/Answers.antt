-- `list_decode::fill::put_element` meets its contract: the code's arm is its kind's, or a list's.
use Prim.Native.Nat.{◌+◌}
use mathlib.Core.Path.{◌≡◌, refl}
use native.Mathlib.Omega.{arith}
use Rattle.list.specs.declared.Kind.TheVariants.{Int, Float, Str, Blob, Vocab}
use Rattle.list.specs.Kind.{code_of}
use Rattle.list_decode.proofs.Writing.{length-read, no_bytes}
use Rattle.list.proofs.Codes.{not-kind, each-kind}
use Rattle.list_decode.proofs.Elements.{room_at, written_at, value-is, value-here, mixed-is, typed-is, typed-here}
use Rattle.list_decode.proofs.fill.put_element.Goals as goal

pub slice_bounds-u32_at-end-in-10 : goal.slice_bounds-u32_at-end-in-10
slice_bounds-u32_at-end-in-10 c =
    let a = c.args in
    let w = length-read a.s.now a.x.pos _ c.u32_at-code.ensures in
    omega (arith, value-here a.s.now a.x c.u32_at-code.result w Float c.in-10.is c.requires.here)

pub put_stored-requires : goal.put_stored-requires
put_stored-requires c =
    let a = c.args in
    let w = length-read a.s.now a.x.pos _ c.u32_at-code.ensures in
    let is = value-is a.s.now a.x c.u32_at-code.result w Str c.in-4.is in
    let h = value-here a.s.now a.x c.u32_at-code.result w Str c.in-4.is c.requires.here in
    (h.0, room_at a.x (a.x.pos + 4) (rw is at c.requires.room))

pub put_stored-requires-in-12 : goal.put_stored-requires-in-12
put_stored-requires-in-12 c =
    let a = c.args in
    let w = length-read a.s.now a.x.pos _ c.u32_at-code.ensures in
    let is = value-is a.s.now a.x c.u32_at-code.result w Blob c.in-12.is in
    let h = value-here a.s.now a.x c.u32_at-code.result w Blob c.in-12.is c.requires.here in
    (h.0, room_at a.x (a.x.pos + 4) (rw is at c.requires.room))

pub overflow_sub-code : goal.overflow_sub-code
overflow_sub-code c =
    let a = c.args in
    let w = length-read a.s.now a.x.pos _ c.u32_at-code.ensures in
    let v = length-read a.s.now (a.x.pos + 4) _ c.u32_at-second.ensures in
    let no = each-kind (λ k. c.u32_at-code.result ≡ code_of k → ⊥) (λ e. omega arith) (λ e. omega arith) (λ e. omega arith) (λ e. omega arith) (λ e. omega arith) in
    let t = not-kind c.u32_at-code.result no in
    let h = typed-here a.s.now a.x c.u32_at-code.result w c.u32_at-second.result v t c.requires.here in
    h.0

pub put_typed-requires : goal.put_typed-requires
put_typed-requires c =
    let a = c.args in
    let w = length-read a.s.now a.x.pos _ c.u32_at-code.ensures in
    let v = length-read a.s.now (a.x.pos + 4) _ c.u32_at-second.ensures in
    let no = each-kind (λ k. c.u32_at-code.result ≡ code_of k → ⊥) (λ e. omega arith) (λ e. omega arith) (λ e. omega arith) (λ e. omega arith) (λ e. omega arith) in
    let t = not-kind c.u32_at-code.result no in
    let h = typed-here a.s.now a.x c.u32_at-code.result w c.u32_at-second.result v t c.requires.here in
    let is = typed-is a.s.now a.x c.u32_at-code.result w c.u32_at-second.result v t in
    record { near = omega (arith, c.requires.some, c.requires.short); here = h.1 (λ e. omega arith); room = rw is at c.requires.room }

pub returns-in-1 : goal.returns-in-1
returns-in-1 c =
    let a = c.args in
    let w = length-read a.s.now a.x.pos _ c.u32_at-code.ensures in
    let v = length-read a.s.now (a.x.pos + 4) _ c.u32_at-second.ensures in
    let is = value-is a.s.now a.x c.u32_at-code.result w Int c.in-1.is in
    rw (is, ← v) (written_at a.x _ (no_bytes _ refl a.store.now c.put_plain.ensures))

pub returns-in-9 : goal.returns-in-9
returns-in-9 c =
    let a = c.args in
    let w = length-read a.s.now a.x.pos _ c.u32_at-code.ensures in
    let v = length-read a.s.now (a.x.pos + 4) _ c.u32_at-second.ensures in
    let is = value-is a.s.now a.x c.u32_at-code.result w Vocab c.in-9.is in
    rw (is, ← v) (written_at a.x _ (no_bytes _ refl a.store.now c.put_plain-in-9.ensures))

pub returns-in-10 : goal.returns-in-10
returns-in-10 c =
    let a = c.args in
    let w = length-read a.s.now a.x.pos _ c.u32_at-code.ensures in
    let v = length-read a.s.now (a.x.pos + 4) _ c.u32_at-second.ensures in
    let t = length-read a.s.now (a.x.pos + 4 + 4) _ c.u32_at.ensures in
    let is = value-is a.s.now a.x c.u32_at-code.result w Float c.in-10.is in
    rw (is, ← v, ← t)
    (written_at a.x _ (no_bytes _ refl a.store.now c.put_float.ensures))

pub returns-in-4 : goal.returns-in-4
returns-in-4 c =
    let a = c.args in
    let w = length-read a.s.now a.x.pos _ c.u32_at-code.ensures in
    let is = value-is a.s.now a.x c.u32_at-code.result w Str c.in-4.is in
    rw is (written_at a.x (a.x.pos + 4) c.put_stored.ensures)

pub returns-in-12 : goal.returns-in-12
returns-in-12 c =
    let a = c.args in
    let w = length-read a.s.now a.x.pos _ c.u32_at-code.ensures in
    let is = value-is a.s.now a.x c.u32_at-code.result w Blob c.in-12.is in
    rw is (written_at a.x (a.x.pos + 4) c.put_stored-in-12.ensures)

pub returns-in-256 : goal.returns-in-256
returns-in-256 c =
    let a = c.args in
    let w = length-read a.s.now a.x.pos _ c.u32_at-code.ensures in
    let v = length-read a.s.now (a.x.pos + 4) _ c.u32_at-second.ensures in
    let is = mixed-is a.s.now a.x c.u32_at-code.result w c.in-256.is in
    rw (is, ← v) (no_bytes _ refl a.store.now c.put_plain-in-256.ensures)

pub returns-in_default : goal.returns-in_default
returns-in_default c =
    let a = c.args in
    let w = length-read a.s.now a.x.pos _ c.u32_at-code.ensures in
    let v = length-read a.s.now (a.x.pos + 4) _ c.u32_at-second.ensures in
    let no = each-kind (λ k. c.u32_at-code.result ≡ code_of k → ⊥) (λ e. omega arith) (λ e. omega arith) (λ e. omega arith) (λ e. omega arith) (λ e. omega arith) in
    let t = not-kind c.u32_at-code.result no in
    let is = typed-is a.s.now a.x c.u32_at-code.result w c.u32_at-second.result v t in
    rw is c.put_typed.ensures
