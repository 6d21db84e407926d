-- `list_encode::emit::put_string` meets its contract: the terminator stands behind the bytes.
use Prim.Native.Nat.{◌+◌}
use mathlib.Core.Path.{refl}
use mathlib.Core.List.{◌++◌}
use native.Mathlib.Omega.{arith}
use Rattle.wire.proofs.Buffers.{joined}
use Rattle.list.specs.Strings.{terminator, string_length}
use Rattle.list.specs.Bytes.{number}
use Rattle.list_encode.proofs.emit.put_string.Goals as goal

pub returns : goal.returns
returns c =
    let a = c.args in
    rw c.requires.2
    (joined a.buffer.now a.at (a.at + 4 + a.size) (number (string_length a.size) ++ a.bytes.now) terminator (omega arith)
    c.put_counted.ensures refl)
