-- The test is that of the definition, and a passed test keeps the difference above 0. Assumes nothing.
use native.Mathlib.Omega.{arith}
use Rattle.rules.proofs.Choose.{via, in-range}
use Rattle.mewtocol_frame.specs.Text.{bit}
use Rattle.mewtocol_frame.proofs.text.bit.Goals as goal

pub overflow_sub-result : goal.overflow_sub-result
overflow_sub-result c = omega (arith, in-range 48 49 _ (via c.is_between.ensures c.if-is_between.true))

pub returns-then-is_between : goal.returns-then-is_between
unfolding bit
returns-then-is_between c = rw (← c.byte_at-b.ensures, via c.is_between.ensures c.if-is_between.true)

pub returns : goal.returns
unfolding bit
returns c = rw (← c.byte_at-b.ensures, via c.is_between.ensures c.if-is_between.false)
