-- Where the ways can't meet nothing does; else the first cell that runs share. Assumes nothing.
use Rattle.rules.proofs.Choose.{via}
use Rattle.table_cells.proofs.Shared.{never-meet, first-met}
use Rattle.table_cells.proofs.meet.first_meeting.Goals as goal

pub returns-then-not-ways_meet : goal.returns-then-not-ways_meet
returns-then-not-ways_meet c = never-meet c.args.one c.args.other (via c.ways_meet.ensures c.if-not-ways_meet.true)

pub returns : goal.returns
returns c =
    let at = c in
    let a = at.args in
    first-met a.one a.other (via at.ways_meet.ensures c.if-not-ways_meet.false) c.front-2.ensures c.front.ensures c.shared_by_any.ensures
