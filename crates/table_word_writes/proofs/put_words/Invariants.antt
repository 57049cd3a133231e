-- The invariant: the words so far are written. Assumes nothing.
use Rattle.std.proofs.Common.{◌≡◌, List, ℕ, ◌<◌, length, get_or}
use Rattle.table_registers.proofs.Runs.{Upto}
use Rattle.table_word_writes.proofs.put_words.Given as goal

abbrev pub invariant-loop-i : goal.invariant-loop-i
invariant-loop-i g l = (vs : List ℕ) → length vs ≡ l.n → ((i w : ℕ) → i < l.n → goal.F-post g l.word i w → w ≡ get_or vs i 0) → Upto vs l.initial.words l.start l.words l.i
