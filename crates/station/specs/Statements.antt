-- What holds of every station, whatever its format; proved in proofs/Held. Assumes nothing.
use Rattle.std.specs.Prelude.{ℕ, true, ◌≡◌, List, length}
use Rattle.rules.specs.Tests.{Test, first}
use Rattle.rules.specs.Given.{Once, gives, refused}
use Rattle.table_registers.specs.Operation.{Judge}
use Rattle.station.specs.Site.{Site, Asked, writes, Errors, is_good, error, done}
use Rattle.station.specs.Outcome.{carried_out, numbered, Outcome, sent, carried, Is}
use Rattle.station.specs.Station.{Format, call_tests, leaves, ready_given, station}
use Rattle.station.specs.declared.Answer.{Answer}
use Rattle.station.specs.declared.Whom.TheVariants.{This, All}

-- an error leaves every word as it was: one law for all formats
abbrev pub ErrorKeeps : Type 0
ErrorKeeps = (e : Errors) (judge : Judge) (words : List ℕ) (a : Asked) (n : ℕ) → (done e judge words a).says ≡ error n → (done e judge words a).words ≡ words

-- a number other than 15 returns itself only: words and room stay as before
abbrev pub RefusalsLeave : Type 0
RefusalsLeave = (m : Format) (site : Site) (words frame room : List ℕ) (k : ℕ)
    → (station m site words frame room).result ≡ numbered k
    → ((station m site words frame room).words ≡ words) × ((station m site words frame room).room ≡ room)

-- 15 leaves the room as it was
abbrev pub CarriedLeaves : Type 0
CarriedLeaves = (m : Format) (site : Site) (words frame room : List ℕ)
    → (station m site words frame room).result ≡ carried_out → (station m site words frame room).room ≡ room

-- ---- frames to all

abbrev pub Passes : List Test → Type 0
Passes ts = first refused ts (gives 0) ≡ gives 0

-- a frame to all and one to the own station that ask the same; none of 1, 2, 3, 10 and 11 stops either
pub record SameAsked (m : Format) (site : Site) (words to_all to_own room : List ℕ) : Type 0 where
  pub fit : Passes (call_tests m.highest m.room site (length words) (length room))
  pub right : Passes (m.tests to_all) × Passes (m.tests to_own)
  pub whom : (m.whom site.own to_all ≡ All) × (m.whom site.own to_own ≡ This)
  pub asked : m.asked to_all ≡ m.asked to_own

-- a write that gets a good reply
abbrev pub Written : Format → Site → List ℕ → List ℕ → Type 0
Written m site words frame = (writes (m.asked frame) ≡ true) × (is_good (leaves m site words frame).says ≡ true)

-- the one to all gives 15 exactly where the other is a write that gets a good reply; the words are then the words there, and the room stays
pub record AsOwn (m : Format) (site : Site) (words to_all to_own room : List ℕ) : Type 0 where
  pub own : station m site words to_own room ≡ sent room (m.reply site.own to_own (leaves m site words to_own).says) (leaves m site words to_own).words
  pub only : (station m site words to_all room).result ≡ carried_out → Written m site words to_own
  pub such : Written m site words to_own → station m site words to_all room ≡ carried room (station m site words to_own room).words

abbrev pub ToAll : Type 0
ToAll = (m : Format) (site : Site) (words to_all to_own room : List ℕ) → SameAsked m site words to_all to_own room → AsOwn m site words to_all to_own room

-- ---- one answer only

-- no second answer, words or room meets the promise of a station
abbrev pub OneAnswer : Type 0
OneAnswer = (o : Outcome) (a b : Answer) (w v r s : List ℕ) → Is o a w r → Is o b v s → (a ≡ b) × (w ≡ v) × (r ≡ s)

abbrev pub OneReady : Type 0
OneReady = Once ready_given
