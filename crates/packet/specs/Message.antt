-- "The message is type, payload length, payload, checksum; the checksum is the exclusive or of all bytes before it."
use Rattle.std.specs.Prelude.{ℕ, ◌-◌, ◌≡◌, true, not, cond, List, [], ◌∷◌, ◌++◌, eqb, length, get_or, take}
use Rattle.std.specs.Int.Bits.{bit_xor}
use Rattle.packet.specs.TypeTable.{allowed}

-- the exclusive or of a number and all bytes
unfoldable pub xor_from : ℕ → List ℕ → ℕ
xor_from x [] = x
xor_from x (b ∷ bytes) = xor_from (bit_xor x b) bytes

-- the bytes before the checksum
abbrev pub head_of : ℕ → List ℕ → List ℕ
head_of kind payload = kind ∷ length payload ∷ payload

-- the message of a type and a payload
abbrev pub message_of : ℕ → List ℕ → List ℕ
message_of kind payload = head_of kind payload ++ (xor_from 0 (head_of kind payload) ∷ [])

-- a good message: that of some type and a payload which the type allows
pub record GoodMessage (message : List ℕ) : Type 0 where
  pub kind : ℕ
  pub payload : List ℕ
  pub allows : allowed kind (length payload) ≡ true
  pub bytes : message ≡ message_of kind payload

-- the executable judgement of a message, in the order 6, 7, 8; 0 where nothing is refused
unfoldable pub message_error : List ℕ → ℕ
message_error m =
    cond (not (eqb (get_or m 1 0) (length m - 3))) 6
    (cond (not (eqb (xor_from 0 (take (length m - 1) m)) (get_or m (length m - 1) 0))) 7
    (cond (not (allowed (get_or m 0 0) (length m - 3))) 8
    0))
