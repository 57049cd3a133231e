-- Each way by whom it is for. Assumes nothing.
use mathlib.Core.Path.{sym, ap}
use Rattle.table_registers.specs.Table.{grants}
use Rattle.station.specs.declared.Whom.{Whom}
use Rattle.masters.specs.Asking.{carried_out}
use Rattle.masters.proofs.whom.is_carried_out.Goals as goal

pub returns-in-All : goal.returns-in-All
unfolding grants
returns-in-All c = sym (ap (λ (w : Whom). carried_out w c.args.way) c.in-All.is)
