-- A heading and contacts, closed. Assumes nothing.
use mathlib.Core.Path.{sym, ap}
use mathlib.Core.List.{map}
use Prim.Native.Nat.{ℕ, ◌+◌}
use Rattle.rules.specs.Characters.{letter_c, letter_r}
use Rattle.table_addresses.specs.Areas.{contact_cell}
use Rattle.table_registers.specs.Bits.{cell_at}
use Rattle.mewtocol_station.specs.Replies.{contacts_text}
use Rattle.mewtocol_station.proofs.Texts.{good-put, contacts-length}
use Rattle.mewtocol_station.proofs.replies.show_contacts.Goals as goal

pub returns : goal.returns
returns c = let a = c.args in
    good-put a.room.now a.sender.header a.sender.own letter_r letter_c (contacts_text (map (cell_at a.words.now) (map contact_cell a.contacts.now))) c.put_heading.ensures c.put_contacts.ensures (ap (λ (k : ℕ). 6 + k) (sym (contacts-length a.words.now a.contacts.now))) c.put_xor.ensures
