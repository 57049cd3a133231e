-- The invariant: what is left, written from here on, makes the whole. Assumes nothing.
use Prim.Native.Nat.{◌+◌, ◌≤◌}
use Rattle.mewtocol_commands.specs.Code.{row_of}
use Rattle.mewtocol_asking.specs.Code.{numbers_for}
use Rattle.mewtocol_writer.proofs.Filled.{Row}
use Rattle.mewtocol_writer.proofs.fields.put_row.Given as goal

abbrev pub invariant-loop-i : goal.invariant-loop-i
invariant-loop-i l = (l.k ≤ l.j + l.i) × Row (row_of l.row) (numbers_for l.asking) l.at l.j l.initial.room l.room l.i l.o l.k
