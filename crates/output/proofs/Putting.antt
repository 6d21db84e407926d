-- Laws of pieces that are put into a buffer.
use Prim.Native.Nat.{ℕ, ◌+◌, ◌-◌, ◌/◌, ◌%◌, ◌≤◌, ◌<◌}
use mathlib.Core.Bool.{Bool, true, false, cond}
use mathlib.Core.Path.{◌≡◌, refl, sym, ◌∙◌}
use mathlib.Core.List.{List, [], ◌∷◌}
use native.Mathlib.Numerals.{add-one}
use native.Mathlib.Omega.{arith}
use lib.Dec.{leb}
use lib.ListN.{length, drop, get_or, set}
use lib.Seq.{drop-cons, sets, length-sets}
use borrow.Author.Tests.{le-leb, lt-leb, leb-true, leb-false}
use Rattle.io.specs.Digits.{hex_digit_ascii}
use Rattle.output.specs.Digits.{hex_byte}
use Rattle.output.specs.Output.{Output, output, put, puts, put_bytes}

-- a piece that fits
pub put-fits : (buffer : List ℕ) (used : ℕ) (piece : List ℕ) → used + length piece ≤ length buffer
    → put (output buffer used) piece ≡ output (sets buffer used piece) (used + length piece)
unfolding put
put-fits buffer used piece h = rw (le-leb (used + length piece) (length buffer) h)

-- a piece that does not fit
pub put-out : (buffer : List ℕ) (used : ℕ) (piece : List ℕ) → length buffer < used + length piece → output buffer used ≡ put (output buffer used) piece
unfolding put
put-out buffer used piece h = rw (lt-leb (used + length piece) (length buffer) h)

-- the two digits of a byte, stored one by one
pub put_two : (buffer : List ℕ) (used b x y : ℕ) → b < 256 → used + 2 ≤ length buffer → x ≡ hex_digit_ascii (b / 16) → y ≡ hex_digit_ascii (b % 16)
    → output (set (set buffer used x) (used + 1) y) (used + 2) ≡ put (output buffer used) (hex_byte b)
unfolding put hex_byte
put_two buffer used b x y small h p q =
    let high : b / 16 % 16 ≡ b / 16 = omega arith in
    rw (le-leb (used + 2) (length buffer) h, high, p, q, add-one used)

pub put-no-byte : (buffer : List ℕ) (used b : ℕ) → length buffer < used + 2 → output buffer used ≡ put (output buffer used) (hex_byte b)
unfolding put hex_byte
put-no-byte buffer used b h = rw (lt-leb (used + 2) (length buffer) h)

-- bytes from an index on: the first of them, then the others
pub put_next : (t : Output) (bytes : List ℕ) (i : ℕ) → i < length bytes
    → put_bytes t (drop i bytes) ≡ put_bytes (put t (hex_byte (get_or bytes i 0))) (drop (i + 1) bytes)
unfolding puts
put_next t bytes i h = rw (drop-cons bytes i 0 h, add-one i)

-- a test of room, as the code makes it without a sum that could pass 64 bits
pub room-left : (a b n : ℕ) → n ≤ b → leb a (b - n) ≡ leb (a + n) b
room-left a b n h = go (leb a (b - n)) refl
  where
    go : (e : Bool) → leb a (b - n) ≡ e → e ≡ leb (a + n) b
    go true e = sym (le-leb (a + n) b (omega (arith, leb-true a (b - n) e)))
    go false e = sym (lt-leb (a + n) b (omega (arith, leb-false a (b - n) e)))

length-put : (t : Output) (piece : List ℕ) → length (put t piece).buffer ≡ length t.buffer
unfolding put
length-put t piece = go (leb (t.used + length piece) (length t.buffer))
  where
    go : (e : Bool) → length (cond e (output (sets t.buffer t.used piece) (t.used + length piece)) t).buffer ≡ length t.buffer
    go true = length-sets t.buffer t.used piece
    go false = refl

-- a buffer keeps its length
pub length-puts : (t : Output) (pieces : List (List ℕ)) → length (puts t pieces).buffer ≡ length t.buffer
unfolding puts
length-puts t [] = refl
length-puts t (piece ∷ pieces) = length-puts (put t piece) pieces ∙ length-put t piece
