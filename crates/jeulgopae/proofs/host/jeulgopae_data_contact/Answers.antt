-- A contact is 0 or 1. Assumes nothing.
use mathlib.Core.Path.{sym, ◌∙◌}
use Rattle.jeulgopae.proofs.Bounds.{bit-small}
use Rattle.jeulgopae.proofs.host.jeulgopae_data_contact.Goals as goal

pub data_code-requires : goal.data_code-requires
data_code-requires c = λ v e. bit-small _ v (sym c.data_contact.ensures ∙ e)
