-- A Modbus call: a frame counts, is answered, and leaves the counters that its reply leaves (RULES B18 to B20, C3). Assumes nothing.
use Rattle.std.specs.Prelude.{ℕ, List, ◌≡◌, length}
use Rattle.rules.specs.Tests.{first}
use Rattle.table_registers.specs.Operation.{Judge}
use Rattle.station.specs.Site.{Site, is_good}
use Rattle.station.specs.Outcome.{Outcome, Is, Served}
use Rattle.station.specs.Station.{call_tests, leaves, received, station}
use Rattle.modbus_body.specs.Body.{reply_to}
use Rattle.modbus_counters.specs.Counters.{Fate, stopped, came, counted}
use Rattle.modbus_counters.specs.Diagnosis.{replied, after}
use Rattle.modbus_counters.specs.declared.Counters.{Counters}
use Rattle.modbus_line.specs.Framing.{answered, Framing, whom_at, frame_tests, modbus}
use Rattle.modbus_line.specs.declared.Call.{Call}
use Rattle.modbus_line.specs.declared.Replied.{Replied}

-- how far a frame comes at a call that none of 1, 2 and 3 stops
unfoldable pub fate : Framing → ℕ → List ℕ → Fate
fate m own frame = first stopped (frame_tests m frame) (came (whom_at (m.to frame) own))

-- the counters that function 08 shows: a frame counts before it is answered
abbrev pub shown : Framing → ℕ → List ℕ → Counters → Counters
shown m own frame c = counted (fate m own frame) c

-- what a call gives and leaves, given the host's counters
abbrev pub line_station : Framing → Counters → Site → List ℕ → List ℕ → List ℕ → Outcome
line_station m c site words frame room = station (modbus m (shown m site.own frame c)) site words frame room

-- the counters that a frame leaves
unfoldable pub left : Framing → Counters → Site → List ℕ → List ℕ → Counters
left m c site words frame =
    let heard : Counters = shown m site.own frame c in
    after (fate m site.own frame) (is_good (leaves (modbus m heard) site words frame).says) (m.body frame) heard

-- and that a call leaves: 1, 2 and 3 count nothing
unfoldable pub counters_after : Framing → Counters → Site → List ℕ → List ℕ → List ℕ → Counters
counters_after m c site words frame room = first (λ k. c) (call_tests 247 513 site (length words) (length room)) (left m c site words frame)

-- ---- promises

-- a call's answer, words and room, and the counters after it, are those of the definitions
pub record Counts (o : Outcome) (c : Counters) (call : Call) (words room : List ℕ) : Type 0 where
  pub outcome : Is o call.answer words room
  pub counters-are : call.counters ≡ c

abbrev pub Called : Framing → Counters → Site → List ℕ → List ℕ → List ℕ → Call → List ℕ → List ℕ → Type 0
Called m c site words frame room = Counts (line_station m c site words frame room) (counters_after m c site words frame room)

-- a frame at a call that none of 1, 2 and 3 stops
abbrev pub Heard : Framing → Counters → Site → List ℕ → List ℕ → List ℕ → Call → List ℕ → List ℕ → Type 0
Heard m c site words frame room = Counts (received (modbus m (shown m site.own frame c)) site words frame room) (left m c site words frame)

-- the reply to a body, framed by a message, over counters in which its frame has counted, and what it leaves of them
pub record Answers (message : List ℕ → List ℕ) (c : Counters) (judge : Judge) (words body room : List ℕ) (at : ℕ) (r : Replied) (words' room' : List ℕ) : Type 0 where
  pub served : Served (λ says. message (reply_to body says)) (answered c judge words body) room at r.size words' room'
  pub counters-are : r.counters ≡ replied (is_good (answered c judge words body).says) body c
