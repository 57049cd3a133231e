-- The contacts so far are written. Assumes nothing.
use Prim.Native.Nat.{◌+◌}
use Rattle.text_rooms.proofs.Each.{Upto}
use Rattle.mewtocol_station.proofs.Texts.{contact_text}
use Rattle.mewtocol_station.proofs.replies.put_contacts.Given as goal

abbrev pub invariant-loop-i : goal.invariant-loop-i
invariant-loop-i l = Upto (contact_text l.words) 1 l.contacts l.initial.room l.at l.room l.i (l.at + l.i)
