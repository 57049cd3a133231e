-- The meeting of two frames in the formats that were named. Assumes nothing.
use mathlib.Core.Path.{sym, subst}
use Rattle.jeulgopae_masters.specs.Codes.{SmallMeeting}
use Rattle.jeulgopae_masters.proofs.Small.{meeting-small}
use Rattle.jeulgopae_masters.proofs.meeting_number.Goals as goal

pub meeting_code-requires : goal.meeting_code-requires
meeting_code-requires c =
    let a = c.args in
    subst SmallMeeting (sym c.meeting.ensures)
    (meeting-small c.in-Some.one c.in-Some.other a.attributes.now c.in-Named.p a.one_own a.other_own a.one_frame.now a.other_frame.now)
