-- `noise_report::report_on` meets its contract: one piece, from the start to the end. Assumes nothing.
use mathlib.Core.List.{[]}
use native.Mathlib.Omega.{arith}
use Prim.Native.Nat.{ℕ}
use lib.ListN.{length-replicate}
use Rattle.noise_report.proofs.report_on.Goals as goal

pub returns : goal.returns
returns c = c.finish.ensures _ _ (c.hear.ensures.heard (omega (arith, length-replicate {A = ℕ} 514 0)) [] (c.start.ensures _))
