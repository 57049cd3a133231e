-- Within the range, the distance from its start; what lies outside is in proofs/Coils. Assumes nothing.
use mathlib.Core.Path.{sym}
use native.Mathlib.Omega.{arith}
use Rattle.table_addresses.specs.Catalogue.{coil_address}
use Rattle.table_addresses.proofs.Moved.{moved_in}
use Rattle.table_addresses.proofs.CoilNumber.address.Goals as goal

pub returns : goal.returns
unfolding coil_address
returns c = let x = c.args.self.0 in sym (moved_in 161 96 160 x _ (omega arith) (omega arith) (omega arith))
