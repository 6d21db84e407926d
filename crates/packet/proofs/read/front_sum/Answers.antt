-- `front_sum` is `front_error`, one test after the other, and the exclusive or of the part where none refuses.
use mathlib.Core.Path.{sym, ap, ◌∙◌}
use Rattle.wire.specs.Zero.{has_zero}
use Rattle.packet.specs.Message.{xor_from}
use Rattle.packet.proofs.FrontTests.{front-none, front-mark, front-one, front-size, front-zero, front-short, front-good, part-short, part-whole}
use Rattle.packet.proofs.read.front_sum.Goals as goal

pub returns-then-bytes-eq0-clause-error : goal.returns-then-bytes-eq0-clause-error
returns-then-bytes-eq0-clause-error c = sym (front-none c.args.bytes.now c.if-bytes-eq0.true)

pub returns-then-bytes-ne0-clause-error : goal.returns-then-bytes-ne0-clause-error
returns-then-bytes-ne0-clause-error c = sym (front-mark c.args.bytes.now c.if-bytes-eq0.false c.if-bytes-ne0.true)

pub returns-then-bytes-eq1-clause-error : goal.returns-then-bytes-eq1-clause-error
returns-then-bytes-eq1-clause-error c = sym (front-one c.args.bytes.now c.if-bytes-eq0.false c.if-bytes-ne0.false c.if-bytes-eq1.true)

pub returns-then-n-lt-PART_LEAST-clause-error : goal.returns-then-n-lt-PART_LEAST-clause-error
returns-then-n-lt-PART_LEAST-clause-error c =
    sym (front-size c.args.bytes.now c.if-bytes-eq0.false c.if-bytes-ne0.false c.if-bytes-eq1.false c.if-n-lt-PART_LEAST.true)

pub returns-then-has_zero-clause-error : goal.returns-then-has_zero-clause-error
returns-then-has_zero-clause-error c = let s = c.args.bytes.now in
    let z = sym (ap has_zero (part-short s c.if-bytes-n.true)) ∙ sym c.if-has_zero.ensures in
    sym (front-zero s c.if-bytes-eq0.false c.if-bytes-ne0.false c.if-bytes-eq1.false c.if-n-lt-PART_LEAST.false z)

pub returns-then-bytes-n-clause-error : goal.returns-then-bytes-n-clause-error
returns-then-bytes-n-clause-error c = let s = c.args.bytes.now in
    let z = sym (ap has_zero (part-short s c.if-bytes-n.true)) ∙ sym c.if-has_zero.ensures in
    sym (front-short s c.if-bytes-eq0.false c.if-bytes-ne0.false c.if-bytes-eq1.false c.if-n-lt-PART_LEAST.false z c.if-bytes-n.true)

pub returns-then-s-clause-error : goal.returns-then-s-clause-error
returns-then-s-clause-error c = let s = c.args.bytes.now in
    let z = sym (ap has_zero (part-whole s)) ∙ sym c.scan-s.ensures.0 ∙ c.if-s.true in
    sym (front-zero s c.if-bytes-eq0.false c.if-bytes-ne0.false c.if-bytes-eq1.false c.if-n-lt-PART_LEAST.false z)

pub returns-clause-error : goal.returns-clause-error
returns-clause-error c = let s = c.args.bytes.now in
    let z = sym (ap has_zero (part-whole s)) ∙ sym c.scan-s.ensures.0 ∙ c.if-s.false in
    sym (front-good s c.if-bytes-eq0.false c.if-bytes-ne0.false c.if-bytes-eq1.false c.if-n-lt-PART_LEAST.false z c.if-bytes-n.false)

pub returns-clause-sum : goal.returns-clause-sum
returns-clause-sum c = c.scan-s.ensures.1 ∙ ap (xor_from 0) (part-whole c.args.bytes.now)
