-- Bytes and numbers as hexadecimal digits.
use Rattle.std.specs.Prelude.{ℕ, List}
use Rattle.io.specs.Digits.{last_digits}

-- a byte as two hexadecimal digits, lower case
unfoldable pub hex_byte : ℕ → List ℕ
hex_byte b = last_digits 16 2 b

-- a number of 32 bits as eight hexadecimal digits, lower case
unfoldable pub hex_word : ℕ → List ℕ
hex_word n = last_digits 16 8 n
