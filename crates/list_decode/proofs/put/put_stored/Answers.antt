-- `list_decode::put::put_stored` meets its contract.
use Prim.Native.Nat.{◌+◌, ◌-◌}
use mathlib.Core.Path.{◌≡◌, ◌∙◌}
use native.Mathlib.Omega.{arith}
use lib.ListN.{length, take, drop}
use Rattle.list_decode.proofs.Writing.{length-read, stored-length, part-run}
use Rattle.list_decode.proofs.put.put_stored.Goals as goal

pub slice_bounds-u32_at-end : goal.slice_bounds-u32_at-end
slice_bounds-u32_at-end c = omega (arith, c.requires.0.there)

pub overflow_sub-stored : goal.overflow_sub-stored
overflow_sub-stored c =
    omega (arith, c.requires.0.long, length-read c.args.s.now c.args.x.pos _ c.u32_at-length.ensures)

pub slice_bounds-copy_short-end : goal.slice_bounds-copy_short-end
slice_bounds-copy_short-end c =
    let n = length-read c.args.s.now c.args.x.pos _ c.u32_at-length.ensures in
    omega (arith, c.requires.1.store_room, stored-length c.args.s.now c.args.tail c.args.x.pos c.requires.0, n)

pub slice_bounds-copy_short-end-2 : goal.slice_bounds-copy_short-end-2
slice_bounds-copy_short-end-2 c =
    omega (arith, c.requires.0.there, length-read c.args.s.now c.args.x.pos _ c.u32_at-length.ensures)

pub returns : goal.returns
returns c =
    let a = c.args in
    let w = length-read a.s.now a.x.pos _ c.u32_at-length.ensures in
    let n = stored-length a.s.now a.tail a.x.pos c.requires.0 in
    let m = c.u32_at-length.result - a.tail in
    let first = a.x.pos + 4 in
    let xs = take m (drop first a.s.now) in
    let e : first + m - first ≡ m = omega arith in
    let len : length xs ≡ m = rw w n in
    record {
      pos = omega (arith, w);
      row = record { holds = c.put_row.ensures ∙ rw w; behind = omega arith };
      used = record {
        holds = part-run a.store.now a.x.used (a.x.used + m) xs _ (omega arith) (omega (arith, c.requires.1.store_room, n, w))
            (omega (arith, c.requires.1.small, n, w)) (rw e at c.copy_short.ensures) ∙ rw w;
        behind = omega (arith, n, w);
      };
    }
