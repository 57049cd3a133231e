-- The invariant: writing what is left leaves what writing all of it leaves. Assumes nothing.
use mathlib.Core.Path.{◌≡◌}
use mathlib.Core.List.{map}
use lib.ListN.{length, drop}
use Rattle.table_addresses.specs.Areas.{contact_cell}
use Rattle.table_registers.specs.Bits.{on_of, put_cells}
use Rattle.table_bit_writes.proofs.put_contacts.Given as goal

abbrev pub invariant-loop-i : goal.invariant-loop-i
invariant-loop-i l = (length l.words ≡ length l.initial.words) × (put_cells l.words (map contact_cell (drop l.i l.contacts)) (map on_of (drop l.i l.values)) ≡ put_cells l.initial.words (map contact_cell l.contacts) (map on_of l.values))
