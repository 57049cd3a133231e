-- Each case is its number. Assumes nothing.
use mathlib.Core.Path.{ap}
use Rattle.mewtocol_writer.specs.Writing.{given}
use Rattle.jeulgopae_codes.proofs.codes.request_code.Goals as goal

pub number-requires : goal.number-requires
number-requires c = c.requires _ (ap given c.in-Frame.is)
