-- The conversion's answer as a number. Assumes nothing.
use mathlib.Core.Path.{sym, ap, ◌∙◌}
use Rattle.rules.specs.Given.{gives}
use Rattle.table_addresses.specs.Catalogue.{coil_address, given_coil_at}
use Rattle.jeulgopae.proofs.Bounds.{coil-address-small}
use Rattle.jeulgopae.proofs.numbers.jeulgopae_coil_address.Goals as goal

pub number-requires : goal.number-requires
number-requires c = coil-address-small _ _ (sym (c.address.ensures ∙ ap coil_address c.printed.ensures) ∙ ap given_coil_at c.in-Address.is ∙ ap gives (sym c.value.ensures))
