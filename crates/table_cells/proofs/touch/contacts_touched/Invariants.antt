-- The invariant: the first i contacts' cells stand at the start. Assumes nothing.
use mathlib.Core.List.{map}
use mathlib.Core.Path.{◌≡◌}
use lib.ListN.{length, take}
use Rattle.table_addresses.specs.Areas.{contact_cell}
use Rattle.table_cells.proofs.touch.contacts_touched.Given as goal

abbrev pub invariant-loop-i : goal.invariant-loop-i
invariant-loop-i l = (length l.firsts ≡ 8) × (take l.i l.firsts ≡ map contact_cell (take l.i l.contacts))
