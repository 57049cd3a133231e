-- Function 08, over the counters that a frame has counted in (RULES B17, B20). Assumes nothing.
use Rattle.std.specs.Prelude.{ℕ, Bool, List, [], ◌∷◌, ◌++◌, eqb, leb, length, take, Option, Some, None}
use Rattle.rules.specs.Choice.{pick, both, either, between}
use Rattle.rules.specs.Tests.{Test, ◌unless◌, first}
use Rattle.rules.specs.Given.{Given, gives, refused}
use Rattle.station.specs.Site.{Asked, wrong, tells}
use Rattle.modbus_body.specs.Bytes.{word_at, word_bytes}
use Rattle.modbus_body.specs.Body.{function}
use Rattle.modbus_body.specs.Said.{number_of}
use Rattle.modbus_body.specs.declared.Exception.{Exception}
use Rattle.modbus_counters.specs.Counters.{cleared, Fate, stopped, came, excepted}
use Rattle.modbus_counters.specs.declared.Counters.{Counters}
use Rattle.station.specs.declared.Whom.TheVariants.{This, All, Other}

-- all 16 bits of the sub-function count; a word of data follows
abbrev pub sub : List ℕ → ℕ
sub body = word_at body 1

abbrev pub datum : List ℕ → ℕ
datum body = word_at body 3

-- 00 is the echo, 0A the clear, 0B to 0F are counts
unfoldable pub is_sub : ℕ → Bool
is_sub s = either (eqb s 0x00) (between 0x0A 0x0F s)

-- too short for a sub-function, 03; none of 00 and 0A to 0F, 01; not one word of data, 03; a word other than 0, but for the echo, 03
abbrev pub diagnosis_tests : List ℕ → List Test
diagnosis_tests body =
    (3 unless leb 3 (length body))
    ∷ (1 unless is_sub (sub body))
    ∷ (3 unless eqb (length body) 5)
    ∷ (3 unless either (eqb (sub body) 0x00) (eqb (datum body) 0))
    ∷ []

-- what the code says of that
abbrev pub fault_given : Option Exception → Given
fault_given (Some e) = refused (number_of e)
fault_given None = gives 0

-- 0B to 0F; the last stands for whatever else there is, which no reply shows
unfoldable pub count_at : ℕ → Counters → ℕ
count_at s c = pick (eqb s 0x0B) c.bus (pick (eqb s 0x0C) c.damaged (pick (eqb s 0x0D) c.exceptions (pick (eqb s 0x0E) c.own c.unanswered)))

-- echo and clear repeat the request, the others show a count
unfoldable pub diagnosed : Counters → List ℕ → Asked
diagnosed c body = first wrong (diagnosis_tests body) (tells (pick (leb (sub body) 0x0A) body (take 3 body ++ word_bytes (count_at (sub body) c))))

-- ---- what a reply leaves of the counters

abbrev pub asks_clear : List ℕ → Bool
asks_clear body = both (eqb (function body) 0x08) (eqb (sub body) 0x0A)

-- a good reply to a clear leaves none; an exception is one more
unfoldable pub replied : Bool → List ℕ → Counters → Counters
replied good body c = pick good (pick (asks_clear body) cleared c) (excepted c)

-- only what is for this station gets a reply
unfoldable pub after : Fate → Bool → List ℕ → Counters → Counters
after (stopped k) good body c = c
after (came This) good body c = replied good body c
after (came All) good body c = c
after (came Other) good body c = c
