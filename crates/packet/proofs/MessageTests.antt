-- The tests of a message, one after the other, by the exclusive or of all its bytes.
use Prim.Native.Nat.{ℕ, ◌-◌, ◌≤◌}
use mathlib.Core.Path.{◌≡◌}
use mathlib.Core.Bool.{not, cond}
use mathlib.Core.List.{List}
use lib.ListN.{length, get_or, take}
use borrow.Author.Tests.{eq-eqb, ne_eqb}
use Rattle.packet.specs.TypeTable.{allowed}
use Rattle.packet.specs.Message.{xor_from, message_error}
use Rattle.packet.proofs.Sums.{sum-zero, zero-sum}

module _ (m : List ℕ) (n : ℕ) (l : length m - 3 ≡ n) (h : 1 ≤ length m) where
  pub test-length : (get_or m 1 0 ≡ n → ⊥) → message_error m ≡ 6
  unfolding message_error
  test-length z = simp (l, ne_eqb (get_or m 1 0) n z)

  module _ (a : get_or m 1 0 ≡ n) where
    pub test_sum : (xor_from 0 m ≡ 0 → ⊥) → message_error m ≡ 7
    unfolding message_error
    test_sum z = simp (l, eq-eqb (get_or m 1 0) n a, ne_eqb (xor_from 0 (take (length m - 1) m)) (get_or m (length m - 1) 0) (λ e. z (sum-zero m h e)))

    pub test_type : xor_from 0 m ≡ 0 → message_error m ≡ cond (not (allowed (get_or m 0 0) n)) 8 0
    unfolding message_error
    test_type z = simp (l, eq-eqb (get_or m 1 0) n a, eq-eqb (xor_from 0 (take (length m - 1) m)) (get_or m (length m - 1) 0) (zero-sum m h z))
