-- Which cells an operation may read and which it may write (RULES T1 to T3): a cell is a bit of a word. Assumes nothing.
use Rattle.std.specs.Prelude.{ℕ, zero, suc, ◌*◌, Bool, replicate}
use Rattle.rules.specs.Choice.{pick, both, either, some}
use Rattle.table_registers.specs.Table.{grants, up_from}
use Rattle.table_registers.specs.Bits.{word_of}
use Rattle.table_registers.specs.Operation.{Operation, read_words, read_bits, write_words, fill_words, write_bits, mask_word, names, need, is_granted, Judge}
use Rattle.table_registers.specs.Profile.{member}
use Rattle.table_cells.specs.declared.Meeting.{Meeting}
use Rattle.table_cells.specs.declared.Meeting.TheVariants.{Never, At}

-- the cells that it is about: the bits that it names, or all 16 of each word that it names
unfoldable pub has : Operation → ℕ → Bool
has (read_words r k n) c = member (word_of c) (names (read_words r k n))
has (read_bits cs) c = member c cs
has (write_words r k vs) c = member (word_of c) (names (write_words r k vs))
has (fill_words k n v) c = member (word_of c) (names (fill_words k n v))
has (write_bits cs vs) c = member c cs
has (mask_word k a o) c = member (word_of c) (names (mask_word k a o))

-- what is done with a cell, in the numbers of an attribute: 1 read, 2 write
abbrev pub reading : ℕ
reading = 1

abbrev pub writing : ℕ
writing = 2

-- it reads a cell, or writes it; a mask write, which needs both, reads and writes all 16
abbrev pub touches : Operation → ℕ → ℕ → Bool
touches o way c = both (grants way (need o)) (has o c)

-- some words let it be done: what is refused whatever the words hold touches nothing. (Only a mask write looks at words, and at its own one:
-- so tables with one word throughout are enough, proved in theorems_masters.)
unfoldable pub may_pass : Judge → ℕ → Operation → Bool
may_pass judge n o = some (λ v. is_granted (judge (replicate n v) o)) (up_from 0 65536)

-- what is done with which cell
abbrev pub Cells : Type 0
Cells = ℕ → ℕ → Bool

-- a cell that the one writes and the other reads or writes
abbrev pub meets_at : Cells → Cells → ℕ → Bool
meets_at one other c = either (both (one writing c) (either (other reading c) (other writing c))) (both (one reading c) (other writing c))

-- the lowest number from k on, of n numbers, that a test holds of
unfoldable pub lowest : (ℕ → Bool) → ℕ → ℕ → Meeting
lowest p k zero = Never
lowest p k (suc n) = pick (p k) (At k) (lowest p (suc k) n)

-- the first cell of a table of n words at which they meet
abbrev pub meeting : ℕ → Cells → Cells → Meeting
meeting n one other = lowest (meets_at one other) 0 (16 * n)
