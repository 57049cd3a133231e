-- The invariant: writing what is left leaves what writing all of it leaves. Assumes nothing.
use mathlib.Core.Path.{◌≡◌}
use Prim.Native.Nat.{◌+◌, ◌-◌}
use lib.ListN.{length}
use Rattle.table_registers.specs.Table.{up_from}
use Rattle.table_registers.specs.Bits.{put_cells, bits_from}
use Rattle.table_bit_writes.proofs.put_coils.Given as goal

abbrev pub invariant-loop-i : goal.invariant-loop-i
invariant-loop-i l = (length l.words ≡ length l.initial.words) × (put_cells l.words (up_from (l.cell + l.i) (l.n - l.i)) (bits_from l.bytes l.i (l.n - l.i)) ≡ put_cells l.initial.words (up_from l.cell l.n) (bits_from l.bytes 0 l.n))
