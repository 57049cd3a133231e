-- What was granted lies in the table. Assumes nothing.
use borrow.Author.Rules.{rules}
use mathlib.Core.Path.{◌≡◌, refl, sym, ap, ◌∙◌}
use Prim.Native.Nat.{ℕ, ◌+◌, ◌*◌, ◌/◌}
use lib.ListN.{length, get_or}
use Rattle.rules.proofs.Choose.{via}
use Rattle.text_rooms.specs.Room.{overwrite}
use Rattle.table_addresses.specs.Catalogue.{address_of}
use Rattle.table_addresses.specs.declared.Area.TheVariants.{Registers}
use Rattle.table_registers.specs.Operation.{after, words_of_bytes}
use Rattle.table_registers.proofs.Runs.{words_of_bytes-length, words_of_bytes-at}
use Rattle.table_registers.proofs.Done.{Carried-done, Carried-refused}
use Rattle.table_profiles.proofs.Judged.{bytes-judged, granted-in}
use Rattle.table_word_writes.proofs.write_bytes.Goals as goal

pub put_words-requires : goal.put_words-requires
put_words-requires c = (λ some. rw c.word-start.ensures (granted-in _ _ _ _ _ _ c.first_lacking-lacking.result c.taken.result c.fitting-judged.ensures (via c.is_granted.ensures c.if-is_granted.true) c.first_lacking-lacking.ensures some), search rules)

pub returns-then-is_granted : goal.returns-then-is_granted
unfolding after
returns-then-is_granted c = let a = c.args in
    let n = length a.bytes.now / 2 in
    Carried-done
    (bytes-judged a.profile a.attributes.now a.words.now a.bytes.now (address_of a.first) n c.fitting-judged.ensures c.word-start.ensures Registers c.taken.ensures c.first_lacking-lacking.ensures)
    (via c.is_granted.ensures c.if-is_granted.true)
    (c.put_words.ensures (words_of_bytes n a.bytes.now) (words_of_bytes-length n a.bytes.now) (λ i w h post.
    let is : w ≡ get_or a.bytes.now (2 * i) 0 * 256 + get_or a.bytes.now (2 * i + 1) 0 = search rules in
    is ∙ sym (words_of_bytes-at n a.bytes.now i h))
    ∙ ap (λ (k : ℕ). overwrite a.words.now k (words_of_bytes n a.bytes.now)) c.word-start.ensures)

pub returns-else-is_granted : goal.returns-else-is_granted
returns-else-is_granted c = let a = c.args in
    Carried-refused
    (bytes-judged a.profile a.attributes.now a.words.now a.bytes.now (address_of a.first) (length a.bytes.now / 2) c.fitting-judged.ensures c.word-start.ensures Registers c.taken.ensures c.first_lacking-lacking.ensures)
    (via c.is_granted.ensures c.if-is_granted.false) refl
