-- What a call takes lies within the rest, and is a byte or more where the loop goes on.
use borrow.Author.Rules.{rules}
use Rattle.replay.proofs.Scraps.{call-within}
use Rattle.replay.proofs.stand.feed_line.Goals as goal

pub slice_bounds-rest-count : goal.slice_bounds-rest-count
slice_bounds-rest-count c = let l = c.loop-rest in call-within l.line l.rest.now l.packet _ c.push-p.ensures

pub slice_bounds-rest-start : goal.slice_bounds-rest-start
slice_bounds-rest-start c = let l = c.loop-rest in let within = call-within l.line l.rest.now l.packet _ c.push-p.ensures in search rules

pub loop-rest-smaller-in-Nothing : goal.loop-rest-smaller-in-Nothing
loop-rest-smaller-in-Nothing c = let l = c.loop-rest in let within = call-within l.line l.rest.now l.packet _ c.push-p.ensures in search rules

pub loop-rest-smaller-in-Packet : goal.loop-rest-smaller-in-Packet
loop-rest-smaller-in-Packet c = let l = c.loop-rest in let within = call-within l.line l.rest.now l.packet _ c.push-p.ensures in search rules

pub loop-rest-smaller : goal.loop-rest-smaller
loop-rest-smaller c = let l = c.loop-rest in let within = call-within l.line l.rest.now l.packet _ c.push-p.ensures in search rules
