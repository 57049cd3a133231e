-- The conversion's answer as a number. Assumes nothing.
use mathlib.Core.Path.{sym, ap, ◌∙◌}
use Rattle.rules.specs.Given.{gives}
use Rattle.table_addresses.specs.Catalogue.{coil_number, given_coil_is}
use Rattle.jeulgopae.proofs.Bounds.{coil-number-small}
use Rattle.jeulgopae.proofs.numbers.jeulgopae_coil_number.Goals as goal

pub number-requires-in-Number : goal.number-requires-in-Number
number-requires-in-Number c = coil-number-small _ _ (sym (c.number.ensures ∙ ap coil_number c.asked.ensures) ∙ ap given_coil_is c.in-Number.is ∙ ap gives (sym c.as_printed.ensures))
