-- What a frame counts, and what its reply leaves of the counts (RULES B18 to B20). Assumes nothing.
use Rattle.std.specs.Prelude.{ℕ, ◌+◌, min, eqb}
use Rattle.rules.specs.Choice.{pick}
use Rattle.station.specs.declared.Whom.{Whom}
use Rattle.station.specs.declared.Whom.TheVariants.{This, All, Other}
use Rattle.modbus_counters.specs.declared.Counters.{Counters}

-- one more, up to FFFFh
unfoldable pub more : ℕ → ℕ
more n = min (n + 1) 0xFFFF

abbrev pub counters : (bus damaged exceptions own unanswered : ℕ) → Counters
counters b d e o u = record { bus = b; damaged = d; exceptions = e; own = o; unanswered = u }

abbrev pub cleared : Counters
cleared = counters 0 0 0 0 0

-- how far a frame came: a number of RULES C3 stopped it, or its check is right, and it is for someone
pub data Fate : Type 0 where
  stopped : ℕ → Fate
  came : Whom → Fate

-- the counters once a frame has counted, before it is answered: 11 alone of the numbers counts
unfoldable pub counted : Fate → Counters → Counters
counted (stopped k) c = pick (eqb k 11) (counters c.bus (more c.damaged) c.exceptions c.own c.unanswered) c
counted (came This) c = counters (more c.bus) c.damaged c.exceptions (more c.own) c.unanswered
counted (came All) c = counters (more c.bus) c.damaged c.exceptions (more c.own) (more c.unanswered)
counted (came Other) c = counters (more c.bus) c.damaged c.exceptions c.own c.unanswered

-- an exception went out
unfoldable pub excepted : Counters → Counters
excepted c = counters c.bus c.damaged (more c.exceptions) c.own c.unanswered
