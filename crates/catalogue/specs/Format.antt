-- The bytes of a catalogue, in the order of 01's "The catalogue".
use Rattle.std.specs.Prelude.{ℕ, zero, suc, ◌+◌, ◌*◌, ◌-◌, ◌/◌, ◌%◌, Bool, ◌&&◌, ◌||◌, cond, List, ltb, leb, eqb, length, get_or}
use Rattle.wire.specs.Every.{every}
use Rattle.wire.specs.Number.{number_at}
use Rattle.catalogue.specs.declared.Kind.{Kind}
use Rattle.catalogue.specs.declared.Kind.TheVariants as kind
use Rattle.catalogue.specs.declared.Parameter.{Parameter}

-- "(0 to 32) of device types"
abbrev pub max_types : ℕ
max_types = 32

-- "number of parameters (0 to 32)"
abbrev pub max_parameters : ℕ
max_parameters = 32

-- "First a one-byte count .. of device types"
abbrev pub type_count : List ℕ → ℕ
type_count s = get_or s 0 0

-- "each two bytes: type number, number of parameters"
abbrev pub type_number : List ℕ → ℕ → ℕ
type_number s i = get_or s (1 + 2 * i) 0

-- its second byte, "number of parameters"
abbrev pub parameter_count : List ℕ → ℕ → ℕ
parameter_count s i = get_or s (2 + 2 * i) 0

-- "(0 to 32); type numbers strictly rise"
unfoldable pub type_legal : List ℕ → ℕ → Bool
type_legal s i = leb (parameter_count s i) max_parameters && (eqb i 0 || ltb (type_number s (i - 1)) (type_number s i))

-- "the sum of those numbers", of the first n types
unfoldable pub parameters_before : List ℕ → ℕ → ℕ
parameters_before s zero = 0
parameters_before s (suc i) = parameters_before s i + parameter_count s i

-- "Then a two-byte count, low byte first"
abbrev pub total_count : List ℕ → ℕ
total_count s = number_at 2 s (1 + 2 * type_count s)

-- "and one byte for each parameter", counted over all types
abbrev pub parameter_byte : List ℕ → ℕ → ℕ
parameter_byte s k = get_or s (3 + 2 * type_count s + k) 0

-- "0 INT"
abbrev pub kind_int : ℕ
kind_int = 0

-- "1 FLOAT"
abbrev pub kind_float : ℕ
kind_float = 1

-- "2 BOOL"
abbrev pub kind_bool : ℕ
kind_bool = 2

-- the kind that two bits say; 3 is none of the three
abbrev pub kind_of : ℕ → Kind
kind_of bits = cond (eqb bits kind_int) kind.Int (cond (eqb bits kind_float) kind.Float (cond (eqb bits kind_bool) kind.Bool kind.Unknown))

-- the number of a kind, two bits
abbrev pub kind_number : Kind → ℕ
kind_number kind.Int = kind_int
kind_number kind.Float = kind_float
kind_number kind.Bool = kind_bool
kind_number kind.Unknown = 3

-- "kind in the low two bits .., 4 added if readable, 8 if writable, nothing else"
unfoldable pub parameter_legal : ℕ → Bool
parameter_legal b = ltb b 16 && leb (b % 4) kind_bool

-- the same byte taken apart
abbrev pub described : ℕ → Parameter
described b = record { kind = kind_of (b % 4); readable = eqb (b / 4 % 2) 1; writable = eqb (b / 8 % 2) 1 }

-- a legal catalogue, sentence by sentence; the length says "Nothing follows"
unfoldable pub legal : List ℕ → Bool
legal s =
    leb (type_count s) max_types &&
    (every (type_count s) (type_legal s) &&
    (eqb (total_count s) (parameters_before s (type_count s)) &&
    (every (parameters_before s (type_count s)) (λ k. parameter_legal (parameter_byte s k)) &&
    eqb (length s) (3 + 2 * type_count s + parameters_before s (type_count s)))))
