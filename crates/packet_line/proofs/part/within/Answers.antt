-- `within` keeps the bytes, unless a 00 is among them.
use Rattle.std.proofs.Common.{ℕ, List, [], sym, ap, ◌∙◌, append-nil, arith}
use Rattle.packet_line.specs.State.{inside, size_in, held_in}
use Rattle.packet_line.specs.Push.{outcome_of, taken_from}
use Rattle.packet_line.proofs.Taking.{inside-more}
use Rattle.packet_line.proofs.part.within.Goals as goal

pub cut-requires : goal.cut-requires
cut-requires c = (c.requires.0, omega (arith, c.requires.1), sym c.has_zero.ensures ∙ c.if-has_zero.true)

pub returns-then-has_zero : goal.returns-then-has_zero
returns-then-has_zero c = λ area.
    let line = c.args.line.now in
    c.cut.ensures [] area
    ∙ ap (λ (l : List ℕ). outcome_of (taken_from (inside (size_in line) (held_in line)) l) area) (append-nil c.args.bytes.now)

pub returns : goal.returns
returns c = λ area.
    let line = c.args.line.now in
    let none = sym c.has_zero.ensures ∙ c.if-has_zero.false in
    rw (c.more.ensures, c.keep.ensures, inside-more (size_in line) (held_in line) c.args.bytes.now none c.requires.1)
