use Prim.Native.Nat.{ℕ, ◌+◌, ◌-◌}
use mathlib.Core.Path.{◌≡◌, sym, ap, ◌∙◌}
use mathlib.Core.List.{List}
use native.Mathlib.Omega.{arith}
use lib.ListN.{length, take, drop, take-append-drop, length-drop}
use lib.Seq.{drop-drop, take_all, length-take-le}
use Rattle.packet.specs.Message.{xor_from}
use Rattle.packet.proofs.Sums.{xor-append}
use Rattle.packet_encode.specs.Word.{word_size}
use Rattle.packet_encode.proofs.xor_of.Goals as goal

-- the bytes from i on, by the next k and those behind them
xor-part : (m : List ℕ) (i k x : ℕ) → xor_from x (drop i m) ≡ xor_from (xor_from x (take k (drop i m))) (drop (i + k) m)
xor-part m i k x =
    ap (xor_from x) (sym (take-append-drop k (drop i m)))
    ∙ xor-append (take k (drop i m)) (drop k (drop i m)) x
    ∙ ap (xor_from (xor_from x (take k (drop i m)))) (drop-drop k i m)

pub xor_word-x-requires : goal.xor_word-x-requires
xor_word-x-requires c =
    let m = c.args.bytes.now in
    let i = c.loop-i.i in
    length-take-le (i + word_size - i) (drop i m) (omega (arith, length-drop i m, c.loop-i-test.true)) ∙ (omega arith)

pub loop-i-preserved : goal.loop-i-preserved
loop-i-preserved c =
    let m = c.args.bytes.now in
    let i = c.loop-i.i in
    let x = c.loop-i.x in
    let e : i + word_size - i ≡ word_size = omega arith in
    let w = c.xor_word-x.ensures ∙ ap (λ (k : ℕ). xor_from x (take k (drop i m))) e in
    (omega (arith, c.loop-i-test.true), ap (λ (y : ℕ). xor_from y (drop (i + word_size) m)) w ∙ sym (xor-part m i word_size x) ∙ c.loop-i.invariant.1)

pub returns : goal.returns
returns c =
    let m = c.args.bytes.now in
    let i = c.loop-i.i in
    c.xor_from-2.ensures ∙ ap (xor_from c.loop-i.x) (take_all (length m - i) (drop i m) (omega (arith, length-drop i m))) ∙ c.loop-i.invariant.1
