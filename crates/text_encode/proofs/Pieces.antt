-- Laws of a string's characters and of a blob's numbers, one byte after the other.
use Prim.Native.Nat.{ℕ, ◌+◌, ◌≤◌, ◌<◌}
use mathlib.Core.Path.{◌≡◌}
use mathlib.Core.Bool.{Bool, false}
use mathlib.Core.List.{List, [], ◌++◌}
use native.Mathlib.Numerals.{add-one}
use lib.ListN.{length, drop, get_or, drop_of_length-le}
use lib.Seq.{drop-cons}
use Rattle.digits.specs.Decimal.{decimal}
use Rattle.text.specs.Text.{gap, char_text, chars_text, bytes_text}

module _ (bs : List ℕ) (i : ℕ) where
  -- the characters of byte i, and those behind them
  pub chars-more : i < length bs → chars_text (drop i bs) ≡ char_text (get_or bs i 0) ++ chars_text (drop (i + 1) bs)
  chars-more h = rw (add-one, drop-cons bs i 0 h)

  pub chars-none : length bs ≤ i → chars_text (drop i bs) ≡ []
  chars-none h = rw (drop_of_length-le bs h)

  -- the space before byte i, its number, and what stands behind
  pub bytes-more :
      (first : Bool) → i < length bs → bytes_text first (drop i bs) ≡ gap first ++ (decimal (get_or bs i 0) ++ bytes_text false (drop (i + 1) bs))
  bytes-more first h = rw (add-one, drop-cons bs i 0 h)

  pub bytes-none : (first : Bool) → length bs ≤ i → bytes_text first (drop i bs) ≡ []
  bytes-none first h = rw (drop_of_length-le bs h)
