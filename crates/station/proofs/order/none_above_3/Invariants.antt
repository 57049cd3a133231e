-- The invariant: what was seen, by the or of it, and what is left make the answer for the whole. Assumes nothing.
use mathlib.Core.Path.{◌≡◌}
use lib.Dec.{leb}
use lib.ListN.{drop}
use Rattle.rules.specs.Choice.{both, all_between}
use Rattle.station.proofs.order.none_above_3.Given as goal

abbrev pub invariant-loop-attribute : goal.invariant-loop-attribute
invariant-loop-attribute l = (both (leb l.acc 3) (all_between 0 3 (drop l.attribute-index l.s)) ≡ all_between 0 3 l.s)
