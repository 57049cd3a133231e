-- Two tests of the range, and the distance from its start. Assumes nothing.
use mathlib.Core.Path.{sym}
use native.Mathlib.Omega.{arith}
use Rattle.table_addresses.specs.Catalogue.{coil_number}
use Rattle.table_addresses.proofs.Moved.{moved-below, moved-above, moved_in}
use Rattle.table_addresses.proofs.CoilAddress.number.Goals as goal

pub returns-then-a-lt-FIRST_COIL_ADDRESS : goal.returns-then-a-lt-FIRST_COIL_ADDRESS
unfolding coil_number
returns-then-a-lt-FIRST_COIL_ADDRESS c = sym (moved-below 160 96 161 _ c.if-a-lt-FIRST_COIL_ADDRESS.true)

pub returns-then-a : goal.returns-then-a
unfolding coil_number
returns-then-a c = sym (moved-above 160 96 161 _ c.if-a.true)

pub returns : goal.returns
unfolding coil_number
returns c = let x = c.args.self.0 in sym (moved_in 160 96 161 x _ (omega arith) (omega arith) (omega arith))
