use Prim.Native.Nat.{◌+◌, ◌≤◌}
use mathlib.Core.Path.{sym, ap, refl, ◌∙◌}
use lib.ListN.{length, drop, drop_of_length-le}
use borrow.Author.Rules.{rules}
use Rattle.output.specs.Output.{output, puts, put_bytes}
use Rattle.output.proofs.Putting.{put_next}
use Rattle.output.proofs.put_bytes.Goals as goal

pub loop-b-init : goal.loop-b-init
loop-b-init c = (refl, refl)

pub loop-b-preserved : goal.loop-b-preserved
loop-b-preserved c =
    let bytes = c.args.bytes.now in
    let l = c.loop-b in (
      search rules,
      ap (λ t. put_bytes t (drop (l.b-index + 1) bytes)) c.put_byte-at.ensures ∙ sym (put_next (output l.out l.at) bytes l.b-index (search rules)) ∙ l.invariant.1,
    )

pub returns : goal.returns
unfolding puts
returns c =
    let bytes = c.args.bytes.now in
    let l = c.loop-b in
    let all : length bytes ≤ l.b-index = search rules in
    rw (drop_of_length-le bytes all) at l.invariant.1
