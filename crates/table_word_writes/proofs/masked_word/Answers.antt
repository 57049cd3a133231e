-- The code is the definition. Assumes nothing.
use mathlib.Core.Path.{ap}
use Prim.Native.Nat.{ℕ}
use Rattle.table_registers.specs.Bits.{masked}
use Rattle.table_word_writes.proofs.masked_word.Goals as goal

pub returns : goal.returns
unfolding masked
returns c = let a = c.args in ap (λ (w : ℕ). masked w a.and_mask a.or_mask) c.word_or_0-w.ensures
