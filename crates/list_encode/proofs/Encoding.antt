-- What the call answers, case by case, is what is promised.
use Prim.Native.Nat.{ℕ, ◌≤◌, ◌<◌}
use mathlib.Core.Path.{◌≡◌, sym, ap, ◌∙◌}
use mathlib.Core.List.{List}
use native.Mathlib.Omega.{arith}
use lib.ListN.{length}
use lib.Seq.{sets}
use borrow.Author.Tests.{lt-ltb, le-ltb}
use Rattle.wire.proofs.Buffers.{sets-front}
use Rattle.list.specs.Limits.{list_limit}
use Rattle.list.specs.Bytes.{list_bytes}
use Rattle.list.specs.RowBytes.{unpacked}
use Rattle.list_rows.specs.Judge.{accepted, judging_of, to_write}
use Rattle.list_rows.specs.Judge as judge
use Rattle.list_rows.specs.Emit.{emit}
use Rattle.list_rows.proofs.Judging.{to_write_lem, no_write}
use Rattle.list_encode.specs.Encode.{written, refused, outcome, emitted, encoding_of}

module _ (rows store buffer : List ℕ) where
  pub answer-room : length buffer < list_limit → outcome (refused 20) buffer ≡ encoding_of rows store buffer
  unfolding encoding_of
  answer-room h = sym (rw (lt-ltb (length buffer) list_limit h))

  module _ (room : list_limit ≤ length buffer) where
    pub after-room : encoding_of rows store buffer ≡ emitted buffer (to_write rows store)
    unfolding encoding_of
    after-room = rw (le-ltb (length buffer) list_limit room)

    pub answer-refused : (number : ℕ) → judge.refused number ≡ judging_of rows store → outcome (refused number) buffer ≡ encoding_of rows store buffer
    answer-refused number h = sym (after-room ∙ ap (emitted buffer) (no_write rows store number h))

    pub answer-written : (n : ℕ) (next : List ℕ) → accepted n ≡ judging_of rows store → next ≡ sets buffer 0 (emit store (unpacked rows) 0 0)
        → outcome (written n) next ≡ encoding_of rows store buffer
    answer-written n next h is-next =
        let x = to_write_lem rows store n h in
        let bs : List ℕ = list_bytes x.es in
        rw (x.size, is-next, x.passed.bytes, sets-front buffer bs (omega (arith, x.short))) (sym (after-room ∙ ap (emitted buffer) x.verdict))
