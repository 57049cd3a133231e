-- Each word is the one that the text says at its place, read by arithmetic or digit by digit. Assumes nothing.
use borrow.Author.Rules.{rules}
use mathlib.Core.Path.{◌≡◌, sym, ◌∙◌}
use Prim.Native.Nat.{◌*◌}
use lib.ListN.{drop}
use Rattle.text_digits.specs.Digits.{with_number}
use Rattle.text_hex_words.specs.Words.{low_first_word}
use Rattle.table_registers.specs.Operation.{words_of_text}
use Rattle.table_registers.proofs.Runs.{words_of_text-length, words_of_text-at}
use Rattle.table_word_writes.proofs.put_data.Goals as goal

pub returns-then-all_hex : goal.returns-then-all_hex
returns-then-all_hex c = let a = c.args in
    c.put_words.ensures (words_of_text a.n a.text.now) (words_of_text-length a.n a.text.now) (λ i w h post.
    let is : w ≡ with_number (low_first_word (drop (4 * i) a.text.now)) (λ v. v) 0 = search rules in
    is ∙ sym (words_of_text-at a.n a.text.now i h))

pub returns-else-text-n : goal.returns-else-text-n
returns-else-text-n c = let a = c.args in
    c.put_words-else-text-n.ensures (words_of_text a.n a.text.now) (words_of_text-length a.n a.text.now) (λ i w h post.
    let is : w ≡ with_number (low_first_word (drop (4 * i) a.text.now)) (λ v. v) 0 = search rules in
    is ∙ sym (words_of_text-at a.n a.text.now i h))
