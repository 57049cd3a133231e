-- What is carried out touches as it would at this station, and else nothing is touched. Assumes nothing.
use Rattle.rules.proofs.Choose.{via}
use Rattle.masters.proofs.ForWhom.{carried, not_carried}
use Rattle.masters.proofs.whom.for_whom.Goals as goal

pub returns-then-is_carried_out : goal.returns-then-is_carried_out
returns-then-is_carried_out c =
    let a = c.args in
    carried a.whom a.own (via c.is_carried_out.ensures c.if-is_carried_out.true)

pub returns : goal.returns
returns c =
    let a = c.args in
    not_carried a.whom a.own _ (via c.is_carried_out.ensures c.if-is_carried_out.false) c.nothing.ensures
