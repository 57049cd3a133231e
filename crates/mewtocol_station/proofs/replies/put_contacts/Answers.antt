-- The contacts so far are written. Assumes nothing.
use mathlib.Core.Path.{refl, ap, ◌∙◌}
use Prim.Native.Nat.{ℕ, ◌+◌}
use native.Mathlib.Omega.{arith}
use mathlib.Core.List.{[], ◌∷◌}
use Rattle.rules.specs.Characters.{digit0}
use Rattle.text_rooms.specs.Room.{overwrite}
use Rattle.text_rooms.proofs.Each.{upto-none, upto-more, upto_all}
use Rattle.table_registers.specs.Bits.{cell_at}
use Rattle.mewtocol_station.proofs.Texts.{contact_text, contacts-each}
use Rattle.mewtocol_station.proofs.replies.put_contacts.Goals as goal

pub loop-i-init : goal.loop-i-init
loop-i-init c = let a = c.args in
    let none = upto-none (contact_text a.words.now) 1 a.contacts.now a.room.now a.at in
    (none.0, omega arith, refl, none.3)

pub loop-i-preserved : goal.loop-i-preserved
loop-i-preserved c = let a = c.args in
    let more =
    upto-more (contact_text a.words.now) 1 a.contacts.now a.room.now a.at (λ x. refl) (omega (arith, c.requires)) c.loop-i-test.true c.loop-i.invariant
    (c.put_byte.ensures ∙ ap (λ (b : ℕ). overwrite c.loop-i.room (a.at + c.loop-i.i) ((digit0 + b) ∷ [])) (c.cell_at.ensures ∙ ap (cell_at a.words.now) c.contact_cell.ensures)) in
    (more.0, omega arith, more.2, more.3)

pub returns : goal.returns
returns c = let a = c.args in
    upto_all (contact_text a.words.now) 1 a.contacts.now a.room.now a.at c.loop-i-test.false c.loop-i.invariant
    ∙ ap (overwrite a.room.now a.at) (contacts-each a.words.now a.contacts.now)
