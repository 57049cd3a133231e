-- What was granted lies in the table. Assumes nothing.
use mathlib.Core.Path.{refl, ap, ◌∙◌}
use Prim.Native.Nat.{ℕ}
use Rattle.rules.proofs.Choose.{via}
use Rattle.text_rooms.specs.Room.{overwrite}
use Rattle.table_addresses.specs.Catalogue.{address_of}
use Rattle.table_registers.specs.Operation.{after, words_of_text}
use Rattle.table_registers.proofs.Done.{Carried-done, Carried-refused}
use Rattle.table_profiles.proofs.Judged.{text-judged, granted-in}
use Rattle.table_word_writes.proofs.write_text.Goals as goal

pub put_data-requires : goal.put_data-requires
put_data-requires c = λ some. rw c.word-start.ensures (granted-in _ _ _ _ _ _ c.first_lacking-lacking.result c.taken.result c.fitting-found.ensures (via c.is_granted.ensures c.if-is_granted.true) c.first_lacking-lacking.ensures some)

pub returns-then-is_granted : goal.returns-then-is_granted
unfolding after
returns-then-is_granted c = let a = c.args in
    Carried-done
    (text-judged a.profile a.attributes.now a.words.now a.text.now (address_of a.first) a.count c.fitting-found.ensures c.word-start.ensures a.area c.taken.ensures c.first_lacking-lacking.ensures)
    (via c.is_granted.ensures c.if-is_granted.true)
    (c.put_data.ensures ∙ ap (λ (k : ℕ). overwrite a.words.now k (words_of_text a.count a.text.now)) c.word-start.ensures)

pub returns-else-is_granted : goal.returns-else-is_granted
returns-else-is_granted c = let a = c.args in
    Carried-refused
    (text-judged a.profile a.attributes.now a.words.now a.text.now (address_of a.first) a.count c.fitting-found.ensures c.word-start.ensures a.area c.taken.ensures c.first_lacking-lacking.ensures)
    (via c.is_granted.ensures c.if-is_granted.false) refl
