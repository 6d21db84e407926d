-- `text_encode::digit::large_count` meets its contract.
use native.Mathlib.Omega.{arith}
use Rattle.text_encode.proofs.Writing.{counted}
use Rattle.text_encode.proofs.digit.large_count.Goals as goal

pub returns-then-n-lt10000000 : goal.returns-then-n-lt10000000
returns-then-n-lt10000000 c = counted 7 c.args.n (omega arith) (omega arith) (omega arith) (omega arith)

pub returns-then-n-lt100000000 : goal.returns-then-n-lt100000000
returns-then-n-lt100000000 c = counted 8 c.args.n (omega arith) (omega arith) (omega arith) (omega arith)

pub returns-then-n-lt1000000000 : goal.returns-then-n-lt1000000000
returns-then-n-lt1000000000 c = counted 9 c.args.n (omega arith) (omega arith) (omega arith) (omega arith)

pub returns : goal.returns
returns c = counted 10 c.args.n (omega arith) (omega arith) (omega arith) (omega arith)
