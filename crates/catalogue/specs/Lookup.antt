-- What the catalogue says of a device type and of its parameters ("each type is in the catalogue"; "a readable parameter of that kind").
use Rattle.std.specs.Prelude.{ℕ, zero, suc, ◌+◌, ◌<◌, ◌≡◌, Bool, false, cond, List, ltb, eqb, length, get_or, Option, Some, None}
use Rattle.catalogue.specs.Format.{max_parameters, type_count, type_number, parameter_count, parameters_before, parameter_byte, kind_int, kind_number, described}
use Rattle.catalogue.specs.declared.Device.{Device}
use Rattle.catalogue.specs.declared.Parameter.{Parameter}

-- the device type at index i
abbrev pub device_at : List ℕ → ℕ → Device
device_at s i = record { first = parameters_before s i; parameters = parameter_count s i }

-- the first of the n types from index i on that has the number
unfoldable pub device_from : ℕ → List ℕ → ℕ → ℕ → Option Device
device_from zero s number i = None
device_from (suc n) s number i = cond (eqb (type_number s i) number) (Some (device_at s i)) (device_from n s number (i + 1))

-- the device type of this number, if there is one
abbrev pub device_of : List ℕ → ℕ → Option Device
device_of s number = device_from (type_count s) s number 0

-- parameter `index` of a device type, if there is one; a type's parameters follow those of the types before it
unfoldable pub parameter_in : List ℕ → Option Device → ℕ → Option Parameter
parameter_in s (Some d) index = cond (ltb index d.parameters) (Some (described (parameter_byte s (d.first + index)))) None
parameter_in s None index = None

-- the same of the device type of this number
abbrev pub parameter_of : List ℕ → ℕ → ℕ → Option Parameter
parameter_of s number index = parameter_in s (device_of s number) index

-- a parameter is there and is readable
abbrev pub is_readable : Option Parameter → Bool
is_readable (Some q) = q.readable
is_readable None = false

-- the number of a parameter's kind, INT's where there is none
abbrev pub kind_in : Option Parameter → ℕ
kind_in (Some q) = kind_number q.kind
kind_in None = kind_int

-- the byte of a parameter; 0, which describes none that is readable, where there is no such parameter
unfoldable pub byte_in : List ℕ → Option Device → ℕ → ℕ
byte_in s (Some d) index = cond (ltb index d.parameters) (parameter_byte s (d.first + index)) 0
byte_in s None index = 0

-- the bytes of a device type's first 32 parameters
pub record BytesIn (s : List ℕ) (d : Option Device) (bytes : List ℕ) : Type 0 where
  pub all : length bytes ≡ max_parameters
  pub each : (p : ℕ) → p < max_parameters → get_or bytes p 0 ≡ byte_in s d p
