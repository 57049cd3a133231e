-- Each way says which sub-function it is. Assumes nothing.
use borrow.Author.Tests.{ne_eqb}
use Rattle.modbus_counters.specs.Diagnosis as dg
use Rattle.modbus_counters.proofs.diagnosis.count_of.Goals as goal

pub returns-in-11 : goal.returns-in-11
unfolding dg.count_at
returns-in-11 c = rw c.in-11.is

pub returns-in-12 : goal.returns-in-12
unfolding dg.count_at
returns-in-12 c = rw c.in-12.is

pub returns-in-13 : goal.returns-in-13
unfolding dg.count_at
returns-in-13 c = rw c.in-13.is

pub returns-in-14 : goal.returns-in-14
unfolding dg.count_at
returns-in-14 c = rw c.in-14.is

pub returns-in_default : goal.returns-in_default
unfolding dg.count_at
returns-in_default c = let r = c.in_default.in_default-own.rest in rw (ne_eqb _ _ r.0.0.0.1, ne_eqb _ _ r.0.0.1, ne_eqb _ _ r.0.1, ne_eqb _ _ r.1)
