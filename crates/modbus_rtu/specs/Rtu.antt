-- The RTU station (RULES B1 to B3, B15, B16). Assumes nothing.
use Rattle.std.specs.Prelude.{ℕ, ◌-◌, List, ◌∷◌, ◌++◌, length, get_or, take, drop}
use Rattle.rules.specs.Choice.{between}
use Rattle.checks_crc.specs.Crc.{crc_bytes, right_crc}
use Rattle.station.specs.Site.{Site}
use Rattle.station.specs.Outcome.{Outcome}
use Rattle.modbus_counters.specs.declared.Counters.{Counters}
use Rattle.modbus_line.specs.Framing.{Framing}
use Rattle.modbus_line.specs.Calls.{line_station}

-- all between the station and the CRC
abbrev pub body_of : List ℕ → List ℕ
body_of f = take (length f - 3) (drop 1 f)

-- the station, the body, the CRC
abbrev pub rtu_frame : ℕ → List ℕ → List ℕ
rtu_frame own body = (own ∷ body) ++ crc_bytes (own ∷ body)

-- length 10, check 11, station 12; then the body
abbrev pub rtu : Framing
rtu = record { shape = λ f. between 4 256 (length f); check = right_crc; to = λ f. get_or f 0 0; body = body_of; framed = rtu_frame }

abbrev pub rtu_station : Counters → Site → List ℕ → List ℕ → List ℕ → Outcome
rtu_station = line_station rtu
