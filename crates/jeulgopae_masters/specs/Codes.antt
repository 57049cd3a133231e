-- The meeting of two frames as one number for C (include/jeulgopae.h, "two masters on one table"; RULES F8). Assumes nothing.
use Rattle.std.specs.Prelude.{ℕ, ◌<◌, List, ◌≡◌, eqb, leb, ℤ, pos, length, Option, Some, None}
use Rattle.rules.specs.Choice.{pick, both}
use Rattle.table_cells.specs.Cells.{meeting}
use Rattle.table_cells.specs.declared.Meeting.{Meeting}
use Rattle.table_cells.specs.declared.Meeting.TheVariants.{Never, At}
use Rattle.station.specs.Site.{site_of}
use Rattle.masters.specs.Frames.{line_cells}
use Rattle.masters.specs.declared.Line.{Line}
use Rattle.masters.specs.declared.Line.TheVariants.{Mewtocol, Rtu, Ascii}
use Rattle.jeulgopae_codes.specs.Codes.{minus}
use Rattle.jeulgopae_codes.specs.declared.asks.Chosen.{Chosen}
use Rattle.jeulgopae_codes.specs.declared.asks.Chosen.TheVariants.{Named, Unknown}

-- the format of a number: 0 MEWTOCOL, 1 RTU, 2 ASCII
unfoldable pub line_of : ℕ → Line
line_of n = pick (eqb n 0) Mewtocol (pick (eqb n 1) Rtu Ascii)

-- and no other number names one
unfoldable pub formats_of : ℕ → ℕ → Option (Line × Line)
formats_of one other = pick (both (leb one 2) (leb other 2)) (Some (line_of one, line_of other)) None

-- the first cell, or that there is none
abbrev pub meeting_code : Meeting → ℤ
meeting_code Never = minus 1001
meeting_code (At c) = pos c

-- a cell has room below the sign
abbrev pub SmallMeeting : Meeting → Type 0
SmallMeeting m = (c : ℕ) → m ≡ At c → c < 2147483648

-- a profile's number that names none, then a format's, and then the first cell
abbrev pub meeting_by : Chosen → Option (Line × Line) → List ℕ → ℕ → List ℕ → ℕ → List ℕ → ℤ
meeting_by Unknown formats attributes one frame other frame' = minus 2000
meeting_by (Named p) None attributes one frame other frame' = minus 2001
meeting_by (Named p) (Some (a, b)) attributes one frame other frame' =
    meeting_code (meeting (length attributes) (line_cells a (site_of attributes p one) frame) (line_cells b (site_of attributes p other) frame'))
