-- The number says which answer it is (RULES F5, F8): the first cell at which two frames meet, that there is none, a number that names no profile, or one
-- that names no format. Proved in proofs/Layouts. Assumes nothing.
use Rattle.std.specs.Prelude.{ℕ, List, ◌≡◌, eqb, ℤ, pos, negsuc, length, Option, Some, None}
use Rattle.rules.specs.Choice.{pick}
use Rattle.table_cells.specs.Cells.{meeting}
use Rattle.table_cells.specs.declared.Meeting.{Meeting}
use Rattle.table_cells.specs.declared.Meeting.TheVariants.{Never, At}
use Rattle.station.specs.Site.{site_of}
use Rattle.masters.specs.Frames.{line_cells}
use Rattle.masters.specs.declared.Line.{Line}
use Rattle.jeulgopae_codes.specs.declared.asks.Chosen.{Chosen}
use Rattle.jeulgopae_codes.specs.declared.asks.Chosen.TheVariants.{Named, Unknown}
use Rattle.jeulgopae_masters.specs.Codes.{meeting_by}

pub data Met : Type 0 where
  at_cell : ℕ → Met
  apart : Met
  no_profile : Met
  no_format : Met

abbrev pub met : Meeting → Met
met (At c) = at_cell c
met Never = apart

abbrev pub met_by : Chosen → Option (Line × Line) → List ℕ → ℕ → List ℕ → ℕ → List ℕ → Met
met_by Unknown formats attributes one frame other frame' = no_profile
met_by (Named p) None attributes one frame other frame' = no_format
met_by (Named p) (Some (a, b)) attributes one frame other frame' =
    met (meeting (length attributes) (line_cells a (site_of attributes p one) frame) (line_cells b (site_of attributes p other) frame'))

-- what a number says
abbrev pub told_meeting : ℤ → Met
told_meeting (pos c) = at_cell c
told_meeting (negsuc k) = pick (eqb k 1000) apart (pick (eqb k 1999) no_profile no_format)

abbrev pub MeetingTold : Type 0
MeetingTold = (p : Chosen) (formats : Option (Line × Line)) (attributes : List ℕ) (one : ℕ) (frame : List ℕ) (other : ℕ) (frame' : List ℕ)
    → told_meeting (meeting_by p formats attributes one frame other frame') ≡ met_by p formats attributes one frame other frame'
