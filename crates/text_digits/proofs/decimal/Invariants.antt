-- The invariant: the first i characters say v. Fewer than nine are read when a digit follows, so that nothing wraps. Assumes nothing.
use mathlib.Core.Path.{◌≡◌}
use Prim.Native.Nat.{◌-◌, ◌≤◌}
use Rattle.text_digits.specs.Digits.{decimal}
use Rattle.text_digits.proofs.decimal.Given as goal
use Rattle.text_digits.specs.declared.Number.TheVariants.{Value}

abbrev pub invariant-loop-i : goal.invariant-loop-i
invariant-loop-i l = (l.i ≤ l.k) × (decimal l.i l.s ≡ Value l.v)

abbrev pub decreases-loop-i : goal.decreases-loop-i
decreases-loop-i l = l.k - l.i
