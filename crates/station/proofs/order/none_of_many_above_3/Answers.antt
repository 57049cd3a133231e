-- The invariant of both loops: lanes and what is left make one answer for the whole. Assumes nothing.
use mathlib.Core.Path.{refl}
use Rattle.rules.specs.Choice.{between, all_between}
use Rattle.station.proofs.order.none_of_many_above_3.Goals as goal

pub loop-i-init : goal.loop-i-init
unfolding all_between between
loop-i-init c = (refl, refl)
