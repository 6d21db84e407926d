-- `list_encode::emit::put_kind` meets its contract, kind by kind.
use mathlib.Core.List.{◌++◌}
use native.Mathlib.Omega.{arith}
use Rattle.wire.proofs.Buffers.{put_is}
use Rattle.list.specs.Bytes.{number}
use Rattle.list_encode.proofs.emit.put_kind.Goals as goal

pub put_string-requires : goal.put_string-requires
put_string-requires c =
    (omega (arith, rw c.in-Str.is at c.requires.0), c.requires.1, rw c.in-Str.is at c.requires.2)

pub put_counted-requires : goal.put_counted-requires
put_counted-requires c =
    omega (arith, rw c.in-Blob.is at c.requires.0, rw c.in-Blob.is at c.requires.2, c.requires.1)

pub returns-in-Int : goal.returns-in-Int
returns-in-Int c =
    let a = c.args in
    rw c.in-Int.is (put_is a.buffer.now a.at (number a.row.second) c.put_u32.ensures
    (omega (arith, rw c.in-Int.is at c.requires.0, c.requires.1)))

pub returns-in-Float : goal.returns-in-Float
returns-in-Float c =
    let a = c.args in
    rw c.in-Float.is (put_is a.buffer.now a.at (number a.row.second ++ number a.row.third) c.put_two_u32.ensures
    (omega (arith, rw c.in-Float.is at c.requires.0, c.requires.1)))

pub returns-in-Str : goal.returns-in-Str
returns-in-Str c = rw c.in-Str.is c.put_string.ensures

pub returns-in-Blob : goal.returns-in-Blob
returns-in-Blob c =
    rw (c.in-Blob.is, rw c.in-Blob.is at c.requires.2) c.put_counted.ensures

pub returns-in-Vocab : goal.returns-in-Vocab
returns-in-Vocab c =
    let a = c.args in
    rw c.in-Vocab.is (put_is a.buffer.now a.at (number a.row.second) c.put_u32-in-Vocab.ensures
    (omega (arith, rw c.in-Vocab.is at c.requires.0, c.requires.1)))
