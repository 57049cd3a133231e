-- The number has a left inverse on what the definition gives. Assumes nothing.
use mathlib.Core.Path.{◌≡◌, refl}
use lib.ListN.{length}
use Rattle.table_cells.specs.Cells.{meeting}
use Rattle.table_cells.specs.declared.Meeting.{Meeting}
use Rattle.table_cells.specs.declared.Meeting.TheVariants.{Never, At}
use Rattle.station.specs.Site.{site_of}
use Rattle.masters.specs.Frames.{line_cells}
use Rattle.jeulgopae_codes.specs.declared.asks.Chosen.TheVariants.{Named, Unknown}
use Rattle.jeulgopae_masters.specs.Codes.{meeting_code}
use Rattle.jeulgopae_masters.specs.Statements.{met, told_meeting, MeetingTold}
use Rattle.std.proofs.Common.{Some, None}

told : (m : Meeting) → told_meeting (meeting_code m) ≡ met m
told Never = refl
told (At c) = refl

pub meeting-told : MeetingTold
meeting-told Unknown formats attributes one frame other frame' = refl
meeting-told (Named p) None attributes one frame other frame' = refl
meeting-told (Named p) (Some (a, b)) attributes one frame other frame' =
    told (meeting (length attributes) (line_cells a (site_of attributes p one) frame) (line_cells b (site_of attributes p other) frame'))
