-- What any request of any protocol comes down to: an operation on the table. Which words it names, what it needs of them, whether it
-- may be done, the words after it, what it shows. Assumes nothing.
use Rattle.std.specs.Prelude.{ℕ, zero, suc, ◌+◌, ◌*◌, ◌≡◌, List, [], ◌∷◌, map, Bool, true, false, length, get_or, set, take, drop, replicate}
use Rattle.text_rooms.specs.Room.{overwrite}
use Rattle.text_digits.specs.Digits.{with_number}
use Rattle.text_hex_words.specs.Words.{low_first_word}
use Rattle.table_addresses.specs.declared.Area.{Area}
use Rattle.table_addresses.specs.declared.Area.TheVariants.{Relays, Registers}
use Rattle.table_registers.specs.declared.Verdict.{Verdict}
use Rattle.table_registers.specs.declared.Verdict.TheVariants.{Granted, Lacking, Unfit}
use Rattle.table_registers.specs.Table.{allows, up_from, checked}
use Rattle.table_registers.specs.Bits.{words_of, cell_at, put_cells, masked}

pub data Operation : Type 0 where
  -- `count` words from `first` on; in the relay words only, or anywhere in the table (`Registers`)
  read_words : (area : Area) (first count : ℕ) → Operation
  read_bits : (cells : List ℕ) → Operation
  write_words : (area : Area) (first : ℕ) (values : List ℕ) → Operation
  fill_words : (first count value : ℕ) → Operation
  write_bits : (cells : List ℕ) (values : List Bool) → Operation
  mask_word : (word and_mask or_mask : ℕ) → Operation

-- the words that it names, in its order
abbrev pub names : Operation → List ℕ
names (read_words r k n) = up_from k n
names (read_bits cs) = words_of cs
names (write_words r k vs) = up_from k (length vs)
names (fill_words k n v) = up_from k n
names (write_bits cs vs) = words_of cs
names (mask_word k a o) = k ∷ []

-- what it needs of each: 1 read, 2 write, 3 both
abbrev pub need : Operation → ℕ
need (read_words r k n) = 1
need (read_bits cs) = 1
need (write_words r k vs) = 2
need (fill_words k n v) = 2
need (write_bits cs vs) = 2
need (mask_word k a o) = 3

-- the area in which it may name words
abbrev pub area_of : Operation → Area
area_of (read_words r k n) = r
area_of (read_bits cs) = Relays
area_of (write_words r k vs) = r
area_of (fill_words k n v) = Registers
area_of (write_bits cs vs) = Relays
area_of (mask_word k a o) = Registers

-- the address check at a table of n words: granted, or lacking at the first named place whose word is not there or lacks what is needed
unfoldable pub address_check : List ℕ → ℕ → Operation → Verdict
address_check attributes n o = checked (allows n attributes (area_of o) (need o)) 0 (names o)

-- the words after it
unfoldable pub after : Operation → List ℕ → List ℕ
after (read_words r k n) words = words
after (read_bits cs) words = words
after (write_words r k vs) words = overwrite words k vs
after (fill_words k n v) words = overwrite words k (replicate n v)
after (write_bits cs vs) words = put_cells words cs vs
after (mask_word k a o) words = set words k (masked (get_or words k 0) a o)

-- what it shows: words, or bits as 0 and 1
unfoldable pub shows : Operation → List ℕ → List ℕ
shows (read_words r k n) words = take n (drop k words)
shows (read_bits cs) words = map (cell_at words) cs
shows (write_words r k vs) words = []
shows (fill_words k n v) words = []
shows (write_bits cs vs) words = []
shows (mask_word k a o) words = []

-- the words after an operation on which this is the verdict: all of it is done, or nothing
unfoldable pub words_after : Verdict → Operation → List ℕ → List ℕ
words_after Granted o words = after o words
words_after (Lacking i) o words = words
words_after Unfit o words = words

abbrev pub is_granted : Verdict → Bool
is_granted Granted = true
is_granted (Lacking i) = false
is_granted Unfit = false

-- all that decides whether an operation may be done on some words
abbrev pub Judge : Type 0
Judge = List ℕ → Operation → Verdict

-- what a function that carries an operation out promises
pub record Carried (o : Operation) (words : List ℕ) (judge : Judge) (v : Verdict) (words' : List ℕ) : Type 0 where
  pub verdict-is : v ≡ judge words o
  pub words-is : words' ≡ words_after (judge words o) o words

-- a run of bytes as words, high byte first (Modbus)
unfoldable pub words_of_bytes : ℕ → List ℕ → List ℕ
words_of_bytes zero s = []
words_of_bytes (suc n) s = (get_or s 0 0 * 256 + get_or s 1 0) ∷ words_of_bytes n (drop 2 s)

-- a text of words, four hex characters each, low byte first (MEWTOCOL); where a word's characters are not right it is 0
unfoldable pub words_of_text : ℕ → List ℕ → List ℕ
words_of_text zero s = []
words_of_text (suc n) s = with_number (low_first_word s) (λ w. w) 0 ∷ words_of_text n (drop 4 s)
