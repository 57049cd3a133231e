-- The station's answer as a number; its words and its room. Assumes nothing.
use mathlib.Core.Path.{refl, sym, ◌∙◌}
use Rattle.jeulgopae_codes.proofs.Signed.{out}
use Rattle.jeulgopae.proofs.Bounds.{mewtocol-small}
use Rattle.jeulgopae.proofs.Standing.{stands}
use Rattle.jeulgopae.proofs.stations.jeulgopae_mewtocol_station.Goals as goal

pub answer_code-requires : goal.answer_code-requires
answer_code-requires c = λ n e. mewtocol-small _ _ _ _ n (sym c.station.ensures.answer-is ∙ e)

pub returns : goal.returns
returns c =
    rw (← c.profile_of.ensures, c.in-Named.is)
    (stands c.station.ensures (out (record { sfits = c.answer_code.type_inv }) c.answer_code.ensures))

pub returns-in_default : goal.returns-in_default
returns-in_default c = rw (← c.profile_of.ensures, c.in_default.is) (record { number_is = refl; words-stay = refl; room-stays = refl })
