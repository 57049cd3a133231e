-- A word has room for what four characters say. Assumes nothing.
use native.Mathlib.Omega.{arith}
use Rattle.rules.proofs.Choose.{via}
use Rattle.text_hex_words.proofs.Small.{low-first-small}
use Rattle.table_profiles.proofs.word_in.Goals as goal

pub overflow_cast-result : goal.overflow_cast-result
overflow_cast-result c = omega (arith, low-first-small _ _ (via c.word_low_first.ensures c.in-Value.is))
