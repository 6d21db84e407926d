-- What the private writing functions leave in the buffer. Internal: no public contract names it.
use Rattle.std.specs.Prelude.{ℕ, ◌+◌, ◌≤◌, ◌≡◌, not, List, ◌++◌, T, length}
use Rattle.std.specs.Float.Ieee.{is_nan}
use Rattle.std.proofs.lemmas.List.Edits.{sets}
use Rattle.wire.specs.Number.{le_bytes}
use Rattle.list.specs.declared.Kind.TheVariants.{Int, Blob}
use Rattle.list.specs.Kind.{code_of, list_code}
use Rattle.list.specs.Bytes.{number}
use Rattle.value.specs.declared.Value.{Value}
use Rattle.value.specs.declared.Value.TheVariants as values
use Rattle.slot.specs.Row.{uid_size}
use Rattle.slot.specs.declared.Slot.{Slot}

-- the bytes fit from an offset on
abbrev pub Room : List ℕ → ℕ → List ℕ → Type 0
Room buffer at bytes = at + length bytes ≤ length buffer

-- the bytes stand from an offset on, nothing else has changed, and `end` is the offset behind them
pub record Put (old : List ℕ) (at : ℕ) (bytes : List ℕ) (new : List ℕ) (end : ℕ) : Type 0 where
  pub stored : new ≡ sets old at bytes
  pub behind : end ≡ at + length bytes

-- a device's row before its parameters, of which `held` follow
unfoldable pub front : Slot → ℕ → List ℕ
front s held =
    (number list_code ++ number (3 + held)) ++
    ((number (code_of Int) ++ number s.socket) ++
    ((number (code_of Int) ++ number s.device) ++
    (number (code_of Blob) ++ (number uid_size ++ le_bytes uid_size s.uid))))

-- a Float is a number or an infinity
unfoldable pub NoNan : Value → Type 0
NoNan (values.Int z) = Unit {0}
NoNan (values.Float x) = T (not (is_nan x))
NoNan (values.Bool b) = Unit {0}
NoNan (values.Nan bits) = Unit {0}
