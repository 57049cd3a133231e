-- The conversion's answer as a number. Assumes nothing.
use mathlib.Core.Path.{sym, ap, ◌∙◌}
use Rattle.rules.specs.Given.{gives}
use Rattle.table_addresses.specs.Catalogue.{register_number, given_is}
use Rattle.jeulgopae.proofs.Bounds.{register-number-small}
use Rattle.jeulgopae.proofs.numbers.jeulgopae_register_number.Goals as goal

pub number-requires-in-Number : goal.number-requires-in-Number
number-requires-in-Number c = register-number-small _ _ (sym (c.number.ensures ∙ ap register_number c.asked.ensures) ∙ ap given_is c.in-Number.is ∙ ap gives (sym c.as_printed.ensures))
