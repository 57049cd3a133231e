-- By two runs or by one. Assumes nothing.
use Prim.Native.Nat.{◌≤◌}
use native.Mathlib.Omega.{arith}
use lib.Dec.{lit<}
use lib.ListN.{length}
use Rattle.checks_crc.proofs.Entries.{rule}
use Rattle.checks_crc.proofs.crc_by_table.Goals as goal

pub crc_by_two_runs-requires : goal.crc_by_two_runs-requires
crc_by_two_runs-requires c =
    let f = c.args.frame.now in
    let least : 128 ≤ length f = omega arith in
    let most : length f ≤ 256 = omega arith in
    (rule, least, most)

pub take_all-requires : goal.take_all-requires
take_all-requires c = (rule, lit< tt)
