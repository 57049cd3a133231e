-- Each case is its number. Assumes nothing.
use mathlib.Core.Path.{ap}
use Rattle.station.specs.Outcome.{given}
use Rattle.jeulgopae_codes.proofs.codes.answer_code.Goals as goal

pub number-requires : goal.number-requires
number-requires c = c.requires _ (ap given c.in-Reply.is)
