-- The two areas of the table that MEWTOCOL names, and the one fact that ties relay words, contacts and coils to words (RULES N6 to
-- N9): WR0100 is word 130, and its first bit is coil address 160. Assumes nothing.
use Rattle.std.specs.Prelude.{ℕ, ◌+◌, ◌-◌, ◌*◌}
use Rattle.table_addresses.specs.declared.Area.{Area}
use Rattle.table_addresses.specs.declared.Area.TheVariants.{Relays, Registers}

-- the first relay word and the first coil, as they are numbered
abbrev pub first_wr : ℕ
first_wr = 100

abbrev pub first_coil : ℕ
first_coil = 160

-- the relay words are words 130 to 135
abbrev pub first_relay : ℕ
first_relay = 130

abbrev pub last_relay : ℕ
last_relay = 135

-- how many words further on a relay word lies: 30
abbrev pub relay_shift : ℕ
relay_shift = first_relay - first_wr

abbrev pub relay_word : ℕ → ℕ
relay_word wr = wr + relay_shift

-- the word that a number of an area names
abbrev pub word_in : Area → ℕ → ℕ
word_in Relays wr = relay_word wr
word_in Registers dt = dt

-- a bit of a word is a cell
abbrev pub cell : ℕ → ℕ → ℕ
cell word bit = 16 * word + bit

-- contact 16 × relay word + bit: 480 cells further on
abbrev pub contact_cell : ℕ → ℕ
contact_cell contact = contact + 16 * relay_shift

-- coils: 1920 cells further on
abbrev pub coil_cell : ℕ → ℕ
coil_cell coil = coil + (16 * first_relay - first_coil)
