-- What was granted lies in the table. Assumes nothing.
use borrow.Author.Rules.{rules}
use mathlib.Core.Path.{◌≡◌, refl, sym, ap, ◌∙◌}
use Prim.Native.Nat.{ℕ}
use lib.ListN.{replicate, length-replicate, get_or-replicate}
use Rattle.rules.proofs.Choose.{via}
use Rattle.text_rooms.specs.Room.{overwrite}
use Rattle.table_addresses.specs.Catalogue.{address_of}
use Rattle.table_registers.specs.Operation.{after}
use Rattle.table_registers.proofs.Done.{Carried-done, Carried-refused}
use Rattle.table_profiles.proofs.Judged.{fill-judged, granted-in}
use Rattle.table_word_writes.proofs.fill_words.Goals as goal

pub put_words-requires : goal.put_words-requires
put_words-requires c = (λ some. rw c.word-start.ensures (granted-in _ _ _ _ _ _ c.first_lacking-lacking.result c.taken.result c.fitting-found.ensures (via c.is_granted.ensures c.if-is_granted.true) c.first_lacking-lacking.ensures some), search rules)

pub returns-then-is_granted : goal.returns-then-is_granted
unfolding after
returns-then-is_granted c = let a = c.args in
    Carried-done
    (fill-judged a.profile a.attributes.now a.words.now a.attributes.now (address_of a.first) a.count c.fitting-found.ensures c.word-start.ensures a.value c.taken.ensures c.first_lacking-lacking.ensures)
    (via c.is_granted.ensures c.if-is_granted.true)
    (c.put_words.ensures (replicate a.count a.value) (length-replicate _ _) (λ i w h post. let is : w ≡ a.value = search rules in is ∙ sym (get_or-replicate a.count i a.value 0 h)) ∙ ap (λ (k : ℕ). overwrite a.words.now k (replicate a.count a.value)) c.word-start.ensures)

pub returns-else-is_granted : goal.returns-else-is_granted
returns-else-is_granted c = let a = c.args in
    Carried-refused
    (fill-judged a.profile a.attributes.now a.words.now a.attributes.now (address_of a.first) a.count c.fitting-found.ensures c.word-start.ensures a.value c.taken.ensures c.first_lacking-lacking.ensures)
    (via c.is_granted.ensures c.if-is_granted.false) refl
