-- 0B and 0E count the frame, and the others don't. Assumes nothing.
use mathlib.Core.Path.{◌≡◌}
use native.Mathlib.Omega.{arith}
use borrow.Author.Tests.{ne_eqb}
use Rattle.rules.proofs.Choose.{pick_same}
use Rattle.modbus_counters.specs.Counters as cs
use Rattle.modbus_counters.specs.Diagnosis as dg
use Rattle.tools_modbus_frames.proofs.counts_itself.Goals as goal

pub returns-in-11 : goal.returns-in-11
unfolding dg.count_at cs.counted cs.more
returns-in-11 c = rw c.in-11.is

pub returns-in-14 : goal.returns-in-14
unfolding dg.count_at cs.counted cs.more
returns-in-14 c = rw c.in-14.is

pub returns-in_default : goal.returns-in_default
unfolding dg.count_at cs.counted cs.more
returns-in_default c =
    let eleven : c.args.sub ≡ 11 → ⊥ = omega arith in
    let fourteen : c.args.sub ≡ 14 → ⊥ = omega arith in
    rw (ne_eqb _ _ eleven, ne_eqb _ _ fourteen, pick_same, pick_same)
