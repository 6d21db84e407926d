-- `through` completes the part, unless a 00 is among the bytes.
use Rattle.std.proofs.Common.{sym, ap, ◌∙◌, arith}
use Rattle.packet_line.proofs.Taking.{inside-all}
use Rattle.packet_line.specs.State.{size_in, held_in}
use Rattle.packet_line.proofs.Areas.{inside-area}
use Rattle.packet_line.specs.Push.{Taken, outcome_of}
use Rattle.packet_line.proofs.part.through.Goals as goal

pub cut-requires : goal.cut-requires
cut-requires c =
    (c.requires.0, omega (arith, c.requires.1), sym c.has_zero.ensures ∙ c.if-has_zero.true)

pub returns-then-has_zero : goal.returns-then-has_zero
returns-then-has_zero c = λ rest.
    c.cut.ensures rest c.args.packet.now

pub returns : goal.returns
returns c = λ rest.
    let line = c.args.line.now in
    let none = sym c.has_zero.ensures ∙ c.if-has_zero.false in
    let some = (inside-area line c.requires.0).part.fewer in
    let all = inside-all (size_in line) (held_in line) c.args.bytes.now rest none c.requires.1 (omega (arith, c.requires.1)) in
    c.complete.ensures ∙ ap (λ (t : Taken). outcome_of t c.args.packet.now) (sym all)
