-- What was granted lies in the table, and what is written there is what was looked at. Assumes nothing.
use borrow.Author.Rules.{rules}
use mathlib.Core.Path.{◌≡◌, refl, sym, ap, ◌∙◌}
use mathlib.Core.List.{[], ◌∷◌}
use Prim.Native.Nat.{ℕ}
use lib.Dec.{lit<}
use lib.ListN.{get_or, set, get_or-replicate}
use Rattle.rules.proofs.Choose.{via}
use Rattle.text_rooms.specs.Room.{overwrite}
use Rattle.text_rooms.proofs.Overwrite.{overwrite-run}
use Rattle.table_addresses.specs.Catalogue.{address_of}
use Rattle.table_registers.specs.Bits.{masked}
use Rattle.table_registers.specs.Operation.{after}
use Rattle.table_registers.proofs.Done.{Carried-done, Carried-refused}
use Rattle.table_profiles.proofs.Judged.{mask-judged, granted-in}
use Rattle.table_word_writes.proofs.mask_word.Goals as goal

pub put_words-requires : goal.put_words-requires
put_words-requires c = (λ some. rw c.word-k.ensures (granted-in _ _ _ _ _ 1 c.first_lacking-lacking.result c.taken.result c.fitting-found.ensures (via c.is_granted.ensures c.if-is_granted.true) c.first_lacking-lacking.ensures some), search rules)

pub returns-then-is_granted : goal.returns-then-is_granted
unfolding after
returns-then-is_granted c = let a = c.args in
    let k = address_of a.word in
    let left = c.masked_word-left.ensures ∙ ap (λ (x : ℕ). masked (get_or a.words.now x 0) a.and_mask a.or_mask) c.word-k.ensures in
    Carried-done
    (mask-judged a.profile a.attributes.now a.words.now a.attributes.now k a.and_mask a.or_mask c.masked_word-left.result c.fitting-found.ensures c.word-k.ensures left c.taken.ensures c.first_lacking-lacking.ensures)
    (via c.is_granted.ensures c.if-is_granted.true)
    (c.put_words.ensures (c.masked_word-left.result ∷ []) refl (λ i w h post. let is : w ≡ c.masked_word-left.result = search rules in is ∙ sym (get_or-replicate 1 i c.masked_word-left.result 0 h)) ∙ ap (λ (x : ℕ). overwrite a.words.now x (c.masked_word-left.result ∷ [])) c.word-k.ensures
    ∙ sym (overwrite-run a.words.now (c.masked_word-left.result ∷ []) k (granted-in _ _ _ _ k 1 c.first_lacking-lacking.result c.taken.result c.fitting-found.ensures (via c.is_granted.ensures c.if-is_granted.true) c.first_lacking-lacking.ensures (lit< tt)))
    ∙ ap (set a.words.now k) left)

pub returns-else-is_granted : goal.returns-else-is_granted
returns-else-is_granted c = let a = c.args in
    let left = c.masked_word-left.ensures ∙ ap (λ (x : ℕ). masked (get_or a.words.now x 0) a.and_mask a.or_mask) c.word-k.ensures in
    Carried-refused
    (mask-judged a.profile a.attributes.now a.words.now a.attributes.now (address_of a.word) a.and_mask a.or_mask c.masked_word-left.result c.fitting-found.ensures c.word-k.ensures left c.taken.ensures c.first_lacking-lacking.ensures)
    (via c.is_granted.ensures c.if-is_granted.false) refl
