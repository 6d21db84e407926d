-- `line::put_packet_at` meets its contract: its pieces in a row.
use mathlib.Core.Path.{ap, ◌∙◌}
use lib.ListN.{length, take, drop}
use borrow.Author.Rules.{rules}
use Rattle.output.specs.Output.{puts}
use Rattle.output.proofs.Putting.{length-puts}
use Rattle.report.proofs.Adding.{pieces-added}
use Rattle.line.specs.Text.{packet_pieces, packet_line}
use Rattle.line.proofs.Texts.{packet-short}
use Rattle.line.proofs.put_packet_at.Goals as goal

pub returns : goal.returns
unfolding packet_line puts
returns c =
    let packet = c.args.packet.now in
    let pieces = packet_pieces c.args.at packet in
    let last = rw c.type_of.ensures at c.put_line.ensures in
    let all = last ∙ ap (λ t. puts t (drop 4 pieces)) (c.put_number-2.ensures ∙ ap (λ t. puts t (take 2 (drop 2 pieces))) c.put_number.ensures) in
    let short = packet-short c.args.at packet in
    let added = pieces-added pieces all (search rules) in
    (added, search rules, ap (λ t. length t.buffer) all ∙ length-puts _ pieces)
