-- The types of messages ("Ours:", the table of types, numbers and payload lengths).
use Rattle.std.specs.Prelude.{ℕ, Bool, false, cond, ◌&&◌, List, [], ◌∷◌, eqb, leb, ◌≡◌, ◌≢◌, Result, MatchResult}
use Rattle.errors.specs.declared.Error.{Error}
use Rattle.errors.specs.declared.Error.TheVariants as error
use Rattle.packet.specs.declared.message.MessageType.{MessageType}
use Rattle.packet.specs.declared.message.MessageType.TheVariants as type

-- the column "number"
abbrev pub PING : ℕ
PING = 1

abbrev pub ACK : ℕ
ACK = 2

abbrev pub DEVICE_WRITE : ℕ
DEVICE_WRITE = 3

abbrev pub DEVICE_DATA : ℕ
DEVICE_DATA = 4

abbrev pub LOG : ℕ
LOG = 5

-- a row of the table: the type's number, and its least and greatest payload length
pub data Row : Type 0 where
  row : (number least most : ℕ) → Row

-- the columns "type" and "payload length"
abbrev pub type_table : List Row
type_table =
    row PING 0 0
    ∷ row ACK 10 10
    ∷ row DEVICE_WRITE 4 132
    ∷ row DEVICE_DATA 4 132
    ∷ row LOG 0 251
    ∷ []

-- a row has that type, and the length is within its bounds
unfoldable pub allows : List Row → ℕ → ℕ → Bool
allows [] kind n = false
allows (row number least most ∷ rows) kind n = cond (eqb kind number) (leb least n && leb n most) (allows rows kind n)

-- the opposite of "type unknown, or its payload length not allowed"
unfoldable pub allowed : ℕ → ℕ → Bool
allowed kind n = allows type_table kind n

-- the number of each type
abbrev pub type_number : MessageType → ℕ
type_number type.Ping = PING
type_number type.Ack = ACK
type_number type.DeviceWrite = DEVICE_WRITE
type_number type.DeviceData = DEVICE_DATA
type_number type.Log = LOG

-- the type of a number, or 8 where no type has it
abbrev pub IsType : ℕ → Result MessageType Error → Type 0
IsType number r = MatchResult r (λ kind. type_number kind ≡ number) (λ e. (e ≡ error.MessageType) × ((kind : MessageType) → type_number kind ≢ number))
