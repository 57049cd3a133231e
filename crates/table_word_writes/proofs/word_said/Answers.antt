-- Two pairs of hex digits say the word. Assumes nothing.
use mathlib.Core.Path.{ap₂, ◌∙◌}
use Prim.Native.Nat.{ℕ, ◌+◌, ◌*◌}
use Rattle.table_word_writes.proofs.HexWords.{word-says}
use Rattle.table_word_writes.proofs.word_said.Goals as goal

pub returns : goal.returns
returns c =
    let start = c in
    let a = start.args in
    ap₂ (λ (x y : ℕ). x + 256 * y) c.pair_of.ensures c.pair_of-2.ensures
    ∙ word-says a.text.now a.o _ _ start.requires.1 start.requires.0 c.low_first.ensures c.low_first-2.ensures
