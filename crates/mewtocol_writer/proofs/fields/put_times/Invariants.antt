-- The invariant: the rows that are left, written from here on, make the whole. Assumes nothing.
use Prim.Native.Nat.{◌+◌, ◌*◌, ◌≤◌}
use Rattle.mewtocol_commands.specs.Code.{row_of}
use Rattle.mewtocol_asking.specs.Code.{numbers_for}
use Rattle.mewtocol_writer.proofs.Filled.{Times}
use Rattle.mewtocol_writer.proofs.fields.put_times.Given as goal

abbrev pub invariant-loop-i : goal.invariant-loop-i
invariant-loop-i l = (l.k ≤ l.j + 4 * l._i) × Times (row_of l.row) l.n (numbers_for l.asking) l.at l.j l.initial.room l.room l._i l.o l.k
