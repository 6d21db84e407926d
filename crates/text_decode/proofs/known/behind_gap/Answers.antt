-- `text_decode::known::behind_gap` meets its contract.
use Rattle.text_decode.proofs.known.behind_gap.Goals as goal

pub returns-then-first : goal.returns-then-first
returns-then-first c = rw c.if-first.true

pub returns : goal.returns
returns c = rw c.if-first.false
