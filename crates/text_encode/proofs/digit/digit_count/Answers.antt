-- `text_encode::digit::digit_count` meets its contract.
use native.Mathlib.Omega.{arith}
use Rattle.text_encode.proofs.Writing.{counted, counted-one}
use Rattle.text_encode.proofs.digit.digit_count.Goals as goal

pub returns-then-n-lt10 : goal.returns-then-n-lt10
returns-then-n-lt10 c = counted-one c.args.n c.if-n-lt10.true

pub returns-then-n-lt100 : goal.returns-then-n-lt100
returns-then-n-lt100 c = counted 2 c.args.n (omega arith) (omega arith) (omega arith) (omega arith)

pub returns-then-n-lt1000 : goal.returns-then-n-lt1000
returns-then-n-lt1000 c = counted 3 c.args.n (omega arith) (omega arith) (omega arith) (omega arith)

pub returns-then-n-lt10000 : goal.returns-then-n-lt10000
returns-then-n-lt10000 c = counted 4 c.args.n (omega arith) (omega arith) (omega arith) (omega arith)

pub returns-then-n-lt100000 : goal.returns-then-n-lt100000
returns-then-n-lt100000 c = counted 5 c.args.n (omega arith) (omega arith) (omega arith) (omega arith)

pub returns-then-n-lt1000000 : goal.returns-then-n-lt1000000
returns-then-n-lt1000000 c = counted 6 c.args.n (omega arith) (omega arith) (omega arith) (omega arith)
