-- Bytes that are stored one piece after the other, or a piece and then the piece before it, are stored as one piece.
use Prim.Native.Nat.{ℕ, suc, ◌+◌, ◌≤◌, ◌<◌}
use mathlib.Core.Path.{◌≡◌, refl, ap, ◌∙◌}
use mathlib.Core.List.{List, [], ◌∷◌, ◌++◌}
use native.Mathlib.Omega.{arith}
use lib.ListN.{length, set, length-append}
use lib.Seq.{sets, set_comm}
use Rattle.wire.proofs.Buffers.{sets_more}
use Rattle.publish.specs.Put.{Put}

set-sets : (l ys : List ℕ) (a b x : ℕ) → a < b → set (sets l b ys) a x ≡ sets (set l a x) b ys
set-sets l [] a b x h = refl
set-sets l (y ∷ ys) a b x h =
    set-sets (set l b y) ys a (suc b) x (omega arith)
    ∙ ap (λ (m : List ℕ). sets m (suc b) ys) (set_comm l b a y x (λ e. omega arith))

sets-comm : (l xs ys : List ℕ) (a b : ℕ) → a + length xs ≤ b → sets (sets l b ys) a xs ≡ sets (sets l a xs) b ys
sets-comm l [] ys a b h = refl
sets-comm l (x ∷ xs) ys a b h =
    ap (λ (m : List ℕ). sets m (suc a) xs) (set-sets l ys a b x (omega arith)) ∙ sets-comm (set l a x) xs ys (suc a) b (omega arith)

sets-before : (l xs ys : List ℕ) (at next : ℕ) → next ≡ at + length xs → sets (sets l next ys) at xs ≡ sets l at (xs ++ ys)
sets-before l xs ys at next e = sets-comm l xs ys at next (omega arith) ∙ sets_more l xs ys at next e

-- the same bytes under another name
pub put_as : {l m : List ℕ} {at end : ℕ} {xs ys : List ℕ} → xs ≡ ys → Put l at xs m end → Put l at ys m end
put_as e p = rw (← e) p

-- a piece, and then the piece before it
pub put-before :
    {m n : List ℕ} {end : ℕ} (l : List ℕ) (at next : ℕ) (xs ys : List ℕ) → next ≡ at + length xs → Put l next ys m end → n ≡ sets m at xs →
    Put l at (xs ++ ys) n end
put-before {m} {n} {end} l at next xs ys h p e =
    record {
      stored = e ∙ ap (λ (k : List ℕ). sets k at xs) p.stored ∙ sets-before l xs ys at next h;
      behind = omega (arith, p.behind, length-append xs ys);
    }
