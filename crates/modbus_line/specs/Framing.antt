-- One framed body, told by its framing, and what it asks (RULES B1 to B6, B8, B15, C7). Assumes nothing.
use Rattle.std.specs.Prelude.{ℕ, Bool, List, [], ◌∷◌, eqb}
use Rattle.rules.specs.Choice.{pick}
use Rattle.rules.specs.Tests.{Test, ◌unless◌}
use Rattle.table_registers.specs.Operation.{Judge}
use Rattle.station.specs.Site.{Asked, Done, done}
use Rattle.station.specs.Station.{Format}
use Rattle.station.specs.declared.Whom.{Whom}
use Rattle.station.specs.declared.Whom.TheVariants.{This, All, Other}
use Rattle.modbus_body.specs.Body.{function, functions, body_asks, exceptions, reply_to}
use Rattle.modbus_counters.specs.Diagnosis.{diagnosed}
use Rattle.modbus_counters.specs.declared.Counters.{Counters}

-- ---- what a body asks

-- function 08 asks the counters and nothing of the table, and stands beside the seven
unfoldable pub line_asks : Counters → List ℕ → Asked
line_asks c body = pick (eqb (function body) 0x08) (diagnosed c body) (body_asks functions body)

-- exception 01, then 03, then 02, then what the profile refuses, 03
abbrev pub answered : Counters → Judge → List ℕ → List ℕ → Done
answered c judge words body = done exceptions judge words (line_asks c body)

-- ---- a frame around it

-- a body between its station and its check: shape, 10; check, 11; the station it is to; the body; and a body framed
pub record Framing : Type 0 where
  pub shape : List ℕ → Bool
  pub check : List ℕ → Bool
  pub to : List ℕ → ℕ
  pub body : List ℕ → List ℕ
  pub framed : ℕ → List ℕ → List ℕ

-- whom a frame to a station is for, where the own one hears it: station 0 is all
unfoldable pub whom_at : ℕ → ℕ → Whom
whom_at to own = pick (eqb to own) This (pick (eqb to 0) All Other)

-- 10, then 11
abbrev pub frame_tests : Framing → List ℕ → List Test
frame_tests m f = (10 unless m.shape f) ∷ (11 unless m.check f) ∷ []

-- stations are 1 to 247; a reply may take 513 bytes; function 08 shows these counters
abbrev pub modbus : Framing → Counters → Format
modbus m c = record {
  highest = 247;
  room = 513;
  errors = exceptions;
  tests = frame_tests m;
  whom = λ own f. whom_at (m.to f) own;
  asked = λ f. line_asks c (m.body f);
  reply = λ own f says. m.framed own (reply_to (m.body f) says);
}
