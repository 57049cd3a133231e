-- Each way rewrites with the tests that led there. Assumes nothing.
use native.Mathlib.Omega.{arith}
use Rattle.rules.proofs.Choose.{via, in-range}
use Rattle.tools_typed.specs.Typed.{digit_value}
use Rattle.tools_typed.proofs.digit_value.Goals as goal

pub overflow_sub-result : goal.overflow_sub-result
overflow_sub-result c = omega (arith, in-range _ _ _ (via c.is_between.ensures c.if-is_between.true))

pub returns-then-is_between-clause-value : goal.returns-then-is_between-clause-value
unfolding digit_value
returns-then-is_between-clause-value c = rw (via c.is_between.ensures c.if-is_between.true)

pub returns-then-is_between-clause-upper_bound : goal.returns-then-is_between-clause-upper_bound
returns-then-is_between-clause-upper_bound c = omega (arith, in-range _ _ _ (via c.is_between.ensures c.if-is_between.true))

pub overflow_sub-result-then-is_between-2 : goal.overflow_sub-result-then-is_between-2
overflow_sub-result-then-is_between-2 c = omega (arith, in-range _ _ _ (via c.is_between-2.ensures c.if-is_between-2.true))

pub returns-then-is_between-2-clause-value : goal.returns-then-is_between-2-clause-value
unfolding digit_value
returns-then-is_between-2-clause-value c = rw (via c.is_between.ensures c.if-is_between.false, via c.is_between-2.ensures c.if-is_between-2.true)
    (omega (arith, in-range _ _ _ (via c.is_between-2.ensures c.if-is_between-2.true)))

pub returns-then-is_between-2-clause-upper_bound : goal.returns-then-is_between-2-clause-upper_bound
returns-then-is_between-2-clause-upper_bound c = omega (arith, in-range _ _ _ (via c.is_between-2.ensures c.if-is_between-2.true))

pub overflow_sub-result-then-is_between-3 : goal.overflow_sub-result-then-is_between-3
overflow_sub-result-then-is_between-3 c = omega (arith, in-range _ _ _ (via c.is_between-3.ensures c.if-is_between-3.true))

pub returns-then-is_between-3-clause-value : goal.returns-then-is_between-3-clause-value
unfolding digit_value
returns-then-is_between-3-clause-value c =
    rw (via c.is_between.ensures c.if-is_between.false, via c.is_between-2.ensures c.if-is_between-2.false, via c.is_between-3.ensures c.if-is_between-3.true)
    (omega (arith, in-range _ _ _ (via c.is_between-3.ensures c.if-is_between-3.true)))

pub returns-then-is_between-3-clause-upper_bound : goal.returns-then-is_between-3-clause-upper_bound
returns-then-is_between-3-clause-upper_bound c = omega (arith, in-range _ _ _ (via c.is_between-3.ensures c.if-is_between-3.true))

pub returns-clause-value : goal.returns-clause-value
unfolding digit_value
returns-clause-value c =
    rw (via c.is_between.ensures c.if-is_between.false, via c.is_between-2.ensures c.if-is_between-2.false, via c.is_between-3.ensures c.if-is_between-3.false)
