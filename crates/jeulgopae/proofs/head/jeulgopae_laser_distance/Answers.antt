-- A distance is below 100,000, and a place within the frame; a refusal is its number. Assumes nothing.
use mathlib.Core.Path.{sym, ap, ◌∙◌}
use native.Mathlib.Omega.{arith}
use Rattle.laser.specs.Frame.{given_distance}
use Rattle.laser.proofs.Distances.{small-distance}
use Rattle.jeulgopae.proofs.Bounds.{distance-short}
use Rattle.jeulgopae.proofs.head.jeulgopae_laser_distance.Goals as goal

pub number-requires : goal.number-requires
number-requires c = omega (arith, small-distance _ _ (sym c.read_distance.ensures ∙ ap given_distance c.in-Hundredths.is))

pub place_code-requires : goal.place_code-requires
place_code-requires c = omega (arith, distance-short _ _ (sym c.read_distance.ensures ∙ ap given_distance c.in-NotAsked.is))
