-- Each case is its number. Assumes nothing.
use mathlib.Core.Path.{ap}
use Rattle.laser.specs.Frame.{given_written}
use Rattle.jeulgopae.proofs.head.frame_code.Goals as goal

pub number-requires : goal.number-requires
number-requires c = c.requires _ (ap given_written c.in-Frame.is)
