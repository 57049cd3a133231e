-- Two stores are one write. Assumes nothing.
use mathlib.Core.List.{[], ◌∷◌}
use Prim.Native.Nat.{◌/◌, ◌%◌}
use native.Mathlib.Numerals.{add-one}
use native.Mathlib.Omega.{arith}
use Rattle.text_rooms.proofs.Overwrite.{overwrite-run}
use Rattle.modbus_body.proofs.replies.put_low_first.Goals as goal

pub returns : goal.returns
returns c = let a = c.args in rw add-one (overwrite-run a.out.now (a.w % 256 ∷ a.w / 256 ∷ []) a.o (omega (arith, c.requires)))
