-- `wire::copy_ends` meets its contract: what the first move leaves out is in the second.
use Prim.Native.Nat.{ℕ, ◌*◌, ◌-◌, ◌≤◌}
use mathlib.Core.Path.{◌≡◌, ◌∙◌}
use mathlib.Core.List.{List, ◌++◌, append-nil}
use native.Mathlib.Omega.{arith}
use lib.ListN.{length, take, drop, take-append-drop, drop_of_length-le, length-drop}
use lib.Seq.{take-append-le, take-take, take_all, length-take-le}
use borrow.Rule.Slice.PartMut.{mid_of, put_mid, post_of, Post-is}
use borrow.Author.Rules.{rules}
use Rattle.wire.proofs.copy_ends.Goals as goal

ends : (src z x y : List ℕ) (n : ℕ) → n ≤ length src → length src ≤ 2 * n → length (x ++ z) ≡ length src → x ≡ mid_of 0 (n - 0) src
    → y ≡ mid_of (length src - n) (length src - (length src - n)) src
    → put_mid (length src - n) (length (x ++ z) - (length src - n)) (x ++ z) y ≡ src
ends src z x y n h k l p q =
    let last : ℕ = length src - n in
    let e : n - 0 ≡ n = omega arith in
    let a : take last (take n src ++ z) ≡ take last src = take-append-le last (take n src) z (omega (arith, length-take-le n src h)) ∙ take-take last n src (omega arith) in
    let b : post_of last (length (x ++ z) - last) (x ++ z) ≡ drop (length (x ++ z)) (x ++ z) = Post-is last (length (x ++ z)) (x ++ z) (omega arith) in
    let c : take (length src - last) (drop last src) ≡ drop last src = take_all (length src - last) (drop last src) (simp length-drop (omega arith)) in
    let d : length (x ++ z) ≤ length (x ++ z) = omega arith in
    rw (b, drop_of_length-le (x ++ z) d, append-nil, q, c, p, e, a) (take-append-drop last src)

pub returns : goal.returns
returns c =
    let first = c.copy_block.ensures in
    ends c.args.src.now _ _ _ c.args.n (search rules) (search rules) (search rules) first c.copy_block-2.ensures
