-- The outer invariant: the answer for the whole list is the answer for what is left. The inner: no relay word passed is the contact's.
-- Assumes nothing.
use mathlib.Core.Path.{◌≡◌}
use Prim.Native.Nat.{ℕ, ◌≤◌}
use Rattle.table_addresses.specs.declared.Area.TheVariants.{Relays}
use Rattle.table_addresses.specs.Areas.{contact_cell}
use Rattle.table_registers.specs.Table.{allows, checked}
use Rattle.table_registers.specs.Bits.{word_of}
use Rattle.table_registers.proofs.check.first_lacking_contact.Given as goal

abbrev pub invariant-loop-relay : goal.invariant-loop-relay
invariant-loop-relay l = 130 ≤ l.word → l.relay ≤ l.word

abbrev pub invariant-contacts : goal.invariant-contacts
invariant-contacts l = checked (λ (k : ℕ). allows l.words l.attributes Relays l.need (word_of (contact_cell k))) 0 l.contacts ≡ checked (λ (k : ℕ). allows l.words l.attributes Relays l.need (word_of (contact_cell k))) l.rest.count l.rest.iter.rest.now
