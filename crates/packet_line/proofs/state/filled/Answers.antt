use Rattle.std.proofs.Common.{◌≡◌, ℕ, ◌+◌, ◌%◌, cond, eqb, List, get_or, take, sym, refl, ap, ◌∙◌, take_all}
use Rattle.packet_line.specs.Steps.{one_if, filled_of}
use Rattle.packet_line.proofs.Marks.{filled_more, counted-more}
use Rattle.packet_line.proofs.state.filled.Goals as goal

pub loop-byte-init : goal.loop-byte-init
unfolding filled_of
loop-byte-init c = refl

pub loop-byte-preserved : goal.loop-byte-preserved
loop-byte-preserved c =
    let s = c.args.s.now in
    let i = c.loop-byte.byte-index in
    let b = get_or s i 0 in
    let f = filled_of (take i s) in
    let e : cond (eqb b 0) c.loop-byte.n ((c.loop-byte.n + 1) % 256) ≡ (f + one_if b) % 256 = rw c.loop-byte.invariant (counted-more f b) in
    c.counted-n.ensures ∙ e ∙ ap (λ (k : ℕ). k % 256) (sym (filled_more s i c.loop-byte-test.true))

pub returns : goal.returns
returns c = c.loop-byte.invariant ∙ ap (λ (t : List ℕ). filled_of t % 256) (take_all c.loop-byte.byte-index c.args.s.now c.loop-byte-test.false)
