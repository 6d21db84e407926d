-- `list_skip::skip` meets its contract: the bytes are cut at the limit.
use Prim.Native.Nat.{ℕ, min}
use mathlib.Core.Path.{◌≡◌, refl, sym, ap, ◌∙◌}
use mathlib.Core.Bool.{Bool, true, false}
use mathlib.Core.List.{List}
use native.Mathlib.Omega.{arith}
use lib.Dec.{ltb}
use lib.ListN.{length, take, length-take}
use lib.Seq.{take_all}
use borrow.Author.Tests.{ltb-true, ltb-false}
use Rattle.list.specs.Limits.{list_limit}
use Rattle.list_skip.specs.Skip.{skip_from, elements_end}
use Rattle.list_skip.proofs.skip.Goals as goal

cut : (s : List ℕ) (end : ℕ) → end ≡ min (length s) list_limit → take end s ≡ take list_limit s
cut s end is = go (ltb list_limit (length s)) refl
  where
    go : (b : Bool) → ltb list_limit (length s) ≡ b → take end s ≡ take list_limit s
    go true e = let n : end ≡ list_limit = omega (arith, ltb-true list_limit (length s) e) in rw n
    go false e =
        let short = ltb-false list_limit (length s) e in
        take_all end s (omega (arith, short)) ∙ sym (take_all list_limit s short)

pub returns : goal.returns
unfolding elements_end
returns c = c.skip_in.ensures ∙ ap (λ (s : List ℕ). skip_from list_limit s c.args.n c.args.at) (cut c.args.s.now _ c.min.ensures)

pub skip_in-requires : goal.skip_in-requires
skip_in-requires c = omega (arith, c.min.ensures, length-take c.min.result c.args.s.now)
