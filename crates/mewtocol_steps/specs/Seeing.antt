-- What one look at a text tells: steps 3, 4 and 7 over the part whose length is known, and the first two numbers of its row. Assumes nothing.
use Rattle.std.specs.Prelude.{ℕ, Bool, List, ◌≡◌, take, drop}
use Rattle.rules.specs.Choice.{both}
use Rattle.text_hex.specs.Hex.{all_hex}
use Rattle.mewtocol_commands.specs.declared.Field.{Field}
use Rattle.mewtocol_commands.specs.declared.Seen.{Seen}
use Rattle.mewtocol_commands.specs.Rows.{times, widths, every, numbers}
use Rattle.mewtocol_commands.specs.Commands.{Layout, once, counted, with_words, row_in}
use Rattle.mewtocol_commands.specs.Code.{found_of}

-- all fields but the words that follow a range
abbrev pub known_part : Layout → ℕ → List Field
known_part (once r) n = r
known_part (counted r) n = times n r
known_part (with_words r) n = r

pub record Seeing (y : Layout) (n : ℕ) (t : List ℕ) (r : Seen) : Type 0 where
  pub letters : r.letters ≡ every 3 (known_part y n) t
  pub digits : r.digits ≡ every 4 (known_part y n) t
  pub values : r.values ≡ every 7 (known_part y n) t
  pub found : found_of r.found ≡ take 2 (numbers (row_in y) t)

-- step 7, from what was seen: the words behind a range are hex throughout
abbrev pub right_data : Layout → Bool → List ℕ → Bool
right_data (once r) seen t = seen
right_data (counted r) seen t = seen
right_data (with_words r) seen t = both seen (all_hex (drop (widths r) t))
