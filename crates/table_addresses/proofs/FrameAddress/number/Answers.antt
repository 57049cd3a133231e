-- A test of the range, and the distance from its start. Assumes nothing.
use mathlib.Core.Path.{sym}
use native.Mathlib.Omega.{arith}
use Rattle.table_addresses.specs.Catalogue.{table_limit, register_number}
use Rattle.table_addresses.proofs.Moved.{moved-above, moved_in}
use Rattle.table_addresses.proofs.FrameAddress.number.Goals as goal

pub returns-then-a : goal.returns-then-a
unfolding register_number
returns-then-a c = sym (moved-above 0 table_limit 400001 _ c.if-a.true)

pub returns : goal.returns
unfolding register_number
returns c = let x = c.args.self.0 in sym (moved_in 0 table_limit 400001 x _ (omega arith) (omega arith) (omega arith))
