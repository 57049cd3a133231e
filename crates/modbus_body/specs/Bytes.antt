-- Words and bits as the bytes of a Modbus body: words high byte first, bits eight to a byte, the lowest first (RULES B13). Assumes nothing.
use Rattle.std.specs.Prelude.{ℕ, zero, suc, ◌+◌, ◌*◌, ◌/◌, ◌%◌, List, [], ◌∷◌, length, get_or, take, drop}
use Rattle.text_rooms.specs.Room.{each}

-- the word of the two bytes from index i on
unfoldable pub word_at : List ℕ → ℕ → ℕ
word_at s i = get_or s i 0 * 256 + get_or s (i + 1) 0

-- a word, high byte first
abbrev pub word_bytes : ℕ → List ℕ
word_bytes w = w / 256 ∷ w % 256 ∷ []

abbrev pub bytes_of_words : List ℕ → List ℕ
bytes_of_words ws = each word_bytes ws

-- how many bytes n bits take
abbrev pub bytes_for : ℕ → ℕ
bytes_for n = (n + 7) / 8

-- a byte of at most eight bits, the lowest first; unused bits are 0
unfoldable pub byte_of : List ℕ → ℕ
byte_of [] = 0
byte_of (b ∷ bs) = b + 2 * byte_of bs

-- bits, eight to a byte, n bytes
unfoldable pub packed : ℕ → List ℕ → List ℕ
packed zero bs = []
packed (suc n) bs = byte_of (take 8 bs) ∷ packed n (drop 8 bs)

-- bytes, with their count before them
abbrev pub counted : List ℕ → List ℕ
counted bs = length bs ∷ bs
