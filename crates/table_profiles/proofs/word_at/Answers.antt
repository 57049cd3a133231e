-- Past the end of the text stand no digits. Assumes nothing.
use mathlib.Core.Path.{◌≡◌, refl, sym, ap, ◌∙◌}
use mathlib.Core.List.{List, []}
use Prim.Native.Nat.{ℕ, ◌*◌, ◌≤◌}
use native.Mathlib.Omega.{arith}
use lib.ListN.{length, drop_of_length-le}
use Rattle.rules.specs.Choice.{between}
use Rattle.text_digits.specs.Digits.{with_number, running}
use Rattle.text_hex.specs.Hex.{hex_value}
use Rattle.text_hex_words.specs.Words.{low_first_word}
use Rattle.table_profiles.proofs.word_at.Goals as goal

abbrev said : List ℕ → ℕ
said t = with_number (low_first_word t) (λ w. w) 0

none : said [] ≡ 0
unfolding low_first_word running hex_value between
none = refl

pub returns-then-i-text : goal.returns-then-i-text
returns-then-i-text c = let t = c.args.text.now in
    let past : length t ≤ 4 * c.args.i = omega arith in
    sym (ap said (drop_of_length-le t past) ∙ none)
