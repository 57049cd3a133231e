-- What the texts of requests and replies are made of (RULES M6, M8, M15, M21). Assumes nothing.
use Rattle.std.specs.Prelude.{ℕ, ◌+◌, ◌-◌, List, [], ◌∷◌, Bool, true, eqb, leb, drop, get_or}
use Rattle.rules.specs.Choice.{pick, both, between}
use Rattle.rules.specs.Characters.{digit0}
use Rattle.text_rooms.specs.Room.{each}
use Rattle.text_digits.specs.declared.Number.{Number}
use Rattle.text_digits.specs.declared.Number.TheVariants as number
use Rattle.text_hex_words.specs.Words.{low_first}

-- the text begins with these letters
unfoldable pub starts : List ℕ → List ℕ → Bool
starts [] s = true
starts (x ∷ xs) s = both (eqb (get_or s 0 0) x) (starts xs (drop 1 s))

-- contact data is `0` or `1`
unfoldable pub bit : ℕ → Number
bit c = pick (between digit0 (digit0 + 1) c) (number.Value (c - digit0)) (number.NoDigitAt 0)

-- how many words there are from start to end
abbrev pub span : ℕ → ℕ → ℕ
span start end = end + 1 - start

-- a range: start ≤ end, and so many words at most
abbrev pub up_to : ℕ → ℕ → ℕ → Bool
up_to most start end = both (leb start end) (leb (span start end) most)

-- a word is four hex characters, low byte first
abbrev pub words_text : List ℕ → List ℕ
words_text ws = each low_first ws
