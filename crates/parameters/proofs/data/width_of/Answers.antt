-- `parameters::data::width_of` meets its contract, by the kind and the year.
use mathlib.Core.Logic.{⊎_elim}
use native.Mathlib.Omega.{arith}
use borrow.Author.Tests.{lt-ltb, le-ltb}
use Rattle.parameters.specs.Data.{long_int_year, width}
use Rattle.parameters.proofs.data.width_of.Goals as goal

pub returns-in-Int : goal.returns-in-Int
unfolding width
returns-in-Int c = (rw (c.in-Int.is, lt-ltb c.args.year long_int_year (omega arith)), omega arith)

pub returns-in-Int-2 : goal.returns-in-Int-2
unfolding width
returns-in-Int-2 c = (rw (c.in-Int.is, le-ltb c.args.year long_int_year (omega arith)), omega arith)

pub returns-in-Float : goal.returns-in-Float
unfolding width
returns-in-Float c = (rw c.in-Float.is, omega arith)

pub returns-in-Bool : goal.returns-in-Bool
unfolding width
returns-in-Bool c = (⊎_elim (λ e. rw e) (λ e. rw e) c.in-Bool.is, omega arith)
