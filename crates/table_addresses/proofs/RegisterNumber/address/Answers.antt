-- Two tests of the range, and the distance from its start. Assumes nothing.
use mathlib.Core.Path.{sym}
use native.Mathlib.Omega.{arith}
use Rattle.table_addresses.specs.Catalogue.{table_limit, register_address}
use Rattle.table_addresses.proofs.Moved.{moved-below, moved-above, moved_in}
use Rattle.table_addresses.proofs.RegisterNumber.address.Goals as goal

pub returns-then-n-lt-FIRST_REGISTER : goal.returns-then-n-lt-FIRST_REGISTER
unfolding register_address
returns-then-n-lt-FIRST_REGISTER c = sym (moved-below 400001 table_limit 0 _ c.if-n-lt-FIRST_REGISTER.true)

pub returns-then-n : goal.returns-then-n
unfolding register_address
returns-then-n c = sym (moved-above 400001 table_limit 0 _ c.if-n.true)

pub returns : goal.returns
unfolding register_address
returns c = let x = c.args.self.0 in sym (moved_in 400001 table_limit 0 x _ (omega arith) (omega arith) (omega arith))
