-- The station's answer as a number; its words, its room and the counters. Assumes nothing.
use mathlib.Core.Path.{sym, ◌∙◌}
use Rattle.jeulgopae_codes.proofs.Signed.{out}
use Rattle.jeulgopae.proofs.Bounds.{ascii-small}
use Rattle.jeulgopae.proofs.Standing.{stands}
use Rattle.jeulgopae.proofs.stations.jeulgopae_ascii_station.Goals as goal

pub answer_code-requires : goal.answer_code-requires
answer_code-requires c = λ n e. ascii-small _ _ _ _ _ n (sym c.ascii_station-call.ensures.outcome.answer-is ∙ e)

pub returns : goal.returns
returns c =
    rw (← c.profile_of.ensures, c.in-Named.is)
    (record { stands = stands c.ascii_station-call.ensures.outcome (out (record { sfits = c.answer_code.type_inv }) c.answer_code.ensures); counters-are = c.ascii_station-call.ensures.counters-are })
