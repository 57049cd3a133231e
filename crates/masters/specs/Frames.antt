-- Which cells a frame may read and write, from the frame, the attributes, the own station and the profile alone (RULES T2 to T5). Assumes nothing.
use Rattle.std.specs.Prelude.{ℕ, Bool, true, false, List, ◌++◌, ltb, length}
use Rattle.rules.specs.Choice.{both}
use Rattle.rules.specs.Tests.{first}
use Rattle.table_registers.specs.Operation.{Operation, need}
use Rattle.table_cells.specs.Cells.{touches, may_pass, Cells}
use Rattle.station.specs.Site.{Site, Asked, wrong, asks, tells}
use Rattle.station.specs.Station.{Format, call_tests}
use Rattle.station.specs.declared.Whom.{Whom}
use Rattle.station.specs.declared.Whom.TheVariants.{This, All, Other}
use Rattle.modbus_counters.specs.Counters.{cleared}
use Rattle.modbus_counters.specs.declared.Counters.{Counters}
use Rattle.modbus_line.specs.Framing.{modbus}
use Rattle.modbus_rtu.specs.Rtu.{rtu}
use Rattle.modbus_ascii.specs.Ascii.{ascii}
use Rattle.mewtocol_station.specs.Station.{mewtocol}
use Rattle.masters.specs.declared.Line.{Line}
use Rattle.masters.specs.declared.Line.TheVariants.{Mewtocol, Rtu, Ascii}

-- whom a frame is for: of one to all only writes are done
abbrev pub is_for : Whom → Operation → Bool
is_for This o = true
is_for All o = ltb 1 (need o)
is_for Other o = false

-- an error before the words matter touches nothing, and function 08 nothing of the table
abbrev pub asked_cells : Site → Whom → Asked → Cells
asked_cells site whom (wrong e) way c = false
asked_cells site whom (asks o reply) way c = both (both (is_for whom o) (may_pass site.judge (length site.attributes) o)) (touches o way c)
asked_cells site whom (tells t) way c = false

-- where 1 or 2 refuses the call, or 10 or 11 the frame, there are none; a room is taken to be large enough
unfoldable pub frame_cells : Format → Site → List ℕ → Cells
frame_cells m site frame way c =
    first (λ k. false) (call_tests m.highest m.room site (length site.attributes) m.room ++ m.tests frame)
    (asked_cells site (m.whom site.own frame) (m.asked frame) way c)

-- ---- lines

-- the format of a line's frames; only function 08 looks at counters
abbrev pub format_of : Line → Counters → Format
format_of Mewtocol counters = mewtocol
format_of Rtu counters = modbus rtu counters
format_of Ascii counters = modbus ascii counters

abbrev pub line_cells : Line → Site → List ℕ → Cells
line_cells line = frame_cells (format_of line cleared)
