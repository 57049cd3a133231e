-- The invariant: the value is that of the cells passed, from the last on. Assumes nothing.
use mathlib.Core.Path.{◌≡◌}
use Prim.Native.Nat.{◌+◌, ◌-◌, ◌^◌, ◌<◌}
use Rattle.modbus_body.specs.Bytes.{byte_of}
use Rattle.modbus_body.proofs.Packed.{cells}
use Rattle.modbus_body.proofs.coils.byte_of.Given as goal

abbrev pub invariant-loop-i : goal.invariant-loop-i
invariant-loop-i l = (l.v ≡ byte_of (cells l.words (l.cell + l.i) (l.count - l.i))) × (l.v < 2 ^ (l.count - l.i))
