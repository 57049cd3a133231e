-- The conversion's answer as a number. Assumes nothing.
use mathlib.Core.Path.{sym, ap, ◌∙◌}
use Rattle.rules.specs.Given.{gives}
use Rattle.table_addresses.specs.Catalogue.{register_address, given_at}
use Rattle.jeulgopae.proofs.Bounds.{register-address-small}
use Rattle.jeulgopae.proofs.numbers.jeulgopae_register_address.Goals as goal

pub number-requires : goal.number-requires
number-requires c = register-address-small _ _ (sym (c.address.ensures ∙ ap register_address c.printed.ensures) ∙ ap given_at c.in-Address.is ∙ ap gives (sym c.word.ensures))
