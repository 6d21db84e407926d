-- Lengths: the payload lengths of the type table, a single one as a range and the greatest of all, and that of a message; and that a number of no type,
-- such as 0, allows none.
use Prim.Native.Nat.{ℕ, zero, suc, ◌+◌, ◌≤◌, ◌<◌}
use mathlib.Core.Path.{◌≡◌, refl, sym, ◌∙◌}
use mathlib.Core.Bool.{Bool, true, false, cond, ◌&&◌}
use mathlib.Core.List.{List, [], ◌∷◌}
use native.Mathlib.Omega.{arith}
use lib.Dec.{eqb, leb}
use lib.ListN.{length, length-append}
use borrow.Author.Tests.{eq-eqb, ne_eqb, le-leb, leb-true}
use Rattle.wire.proofs.Chains.{and_right}
use Rattle.packet.specs.declared.message.MessageType.{MessageType}
use Rattle.packet.specs.declared.message.MessageType.TheVariants as type
use Rattle.packet.specs.TypeTable.{Row, row, type_table, allows, allowed, type_number}
use Rattle.packet.specs.Message.{message_of}
use Rattle.packet.proofs.Zeros.{clash}

-- equal to k is from k to k
pub exactly : (n k : ℕ) → eqb n k ≡ (leb k n && leb n k)
exactly n k = by (leb k n) (leb n k) refl refl
  where
    by : (a b : Bool) → leb k n ≡ a → leb n k ≡ b → eqb n k ≡ (a && b)
    by true true p q = eq-eqb n k (omega (arith, leb-true k n p, leb-true n k q))
    by true false p q = ne_eqb n k (λ e. clash (sym (le-leb n k (omega arith)) ∙ q))
    by false b p q = ne_eqb n k (λ e. clash (sym (le-leb k n (omega arith)) ∙ p))

either : {P : Type 0} (b x y : Bool) → (x ≡ true → P) → (y ≡ true → P) → cond b x y ≡ true → P
either true x y f g h = f h
either false x y f g h = g h

-- every row of a table stays within a bound
unfoldable within : ℕ → List Row → Type 0
within top [] = Unit {0}
within top (row number least most ∷ rows) = (most ≤ top) × within top rows

allows-top : (top : ℕ) (rows : List Row) (kind n : ℕ) → within top rows → allows rows kind n ≡ true → n ≤ top
unfolding allows within
allows-top top [] kind n w h = clash (sym h)
allows-top top (row number least most ∷ rows) kind n w h =
    either (eqb kind number) _ _ (λ e. omega (arith, leb-true n most (and_right (leb least n) (leb n most) e), w.0)) (allows-top top rows kind n w.1) h

-- no type allows more than 251 bytes
pub allowed-top : (kind n : ℕ) → allowed kind n ≡ true → n ≤ 251
unfolding allowed within
allowed-top kind n h = allows-top 251 type_table kind n (omega arith, (omega arith, (omega arith, (omega arith, (omega arith, tt))))) h

-- a number of no type
pub unknown-none : (number n : ℕ) → ((kind : MessageType) → type_number kind ≡ number → ⊥) → allowed number n ≡ false
unfolding allowed allows
unknown-none number n u =
    simp (
      ne_eqb number 1 (λ e. u type.Ping (sym e)),
      ne_eqb number 2 (λ e. u type.Ack (sym e)),
      ne_eqb number 3 (λ e. u type.DeviceWrite (sym e)),
      ne_eqb number 4 (λ e. u type.DeviceData (sym e)),
      ne_eqb number 5 (λ e. u type.Log (sym e)),
    )

-- 0 is no type
pub zero-none : (n : ℕ) → allowed 0 n ≡ false
unfolding allowed allows
zero-none n = refl

pub allowed-kind : (kind n : ℕ) → allowed kind n ≡ true → 0 < kind
allowed-kind zero n h = clash (sym h ∙ zero-none n)
allowed-kind (suc kind) n h = omega arith

-- type, payload length and checksum stand beside the payload
pub length-message_of : (kind : ℕ) (payload : List ℕ) → length (message_of kind payload) ≡ length payload + 3
length-message_of kind payload = simp length-append (omega arith)
