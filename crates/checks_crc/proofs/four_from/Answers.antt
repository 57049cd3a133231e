-- Two numbers of two bytes. Assumes nothing.
use native.Mathlib.Omega.{arith}
use Rattle.checks_crc.proofs.Runs.{low-four}
use Rattle.checks_crc.proofs.four_from.Goals as goal

pub returns : goal.returns
returns c =
    let a = c.args in
    omega (arith, c.low_first.ensures, c.low_first-2.ensures, low-four a.s.now a.i)
