-- A word is below 65,536. Assumes nothing.
use mathlib.Core.Path.{sym, ◌∙◌}
use Rattle.jeulgopae.proofs.Bounds.{word_small}
use Rattle.jeulgopae.proofs.host.jeulgopae_data_word.Goals as goal

pub data_code-requires : goal.data_code-requires
data_code-requires c = λ v e. word_small _ v (sym c.data_word.ensures ∙ e)
