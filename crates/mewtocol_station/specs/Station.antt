-- The MEWTOCOL station: a frame's first character says its form, and the reply has it too (RULES M2 to M5, M18, M19, C3, C7). Assumes nothing.
use Rattle.std.specs.Prelude.{ℕ, List, [], ◌∷◌, eqb, get_or}
use Rattle.rules.specs.Choice.{pick, both}
use Rattle.rules.specs.Characters.{letter_f}
use Rattle.rules.specs.Tests.{◌unless◌}
use Rattle.station.specs.Site.{Site, Asked, wrong, asks, Errors}
use Rattle.station.specs.Outcome.{Outcome}
use Rattle.station.specs.Station.{Format, station}
use Rattle.station.specs.declared.Whom.{Whom}
use Rattle.station.specs.declared.Whom.TheVariants.{This, All, Other}
use Rattle.mewtocol_frame.specs.Frame.{limits_in, longest_of_all, highest, good_shape, for_station}
use Rattle.mewtocol_requests.specs.Reading.{Reading, faulty, request}
use Rattle.mewtocol_requests.specs.Hearing.{read_frame}
use Rattle.mewtocol_station.specs.Replies.{operation_of, reply_of, reply_frame}

-- what a reading asks: an error, or an operation and its reply
abbrev pub reading_asks : Reading → Asked
reading_asks (faulty e) = wrong e
reading_asks (request q) = asks (operation_of q) (reply_of q)

-- error 66: a word that is not there, or lacks what is needed; 61: a write that the profile doesn't take
abbrev pub errors : Errors
errors = record { address = 0x66; value = 0x61 }

-- whom a frame is for: exactly the characters `FF` name all stations
unfoldable pub whom_in : ℕ → List ℕ → Whom
whom_in own f = pick (for_station own f) This (pick (both (eqb (get_or f 1 0) letter_f) (eqb (get_or f 2 0) letter_f)) All Other)

-- the shape, 10; another station, 12; all else is answered, in the form of the request. The room is that of a reply in either form: 3 is given before
-- the frame is looked at
abbrev pub mewtocol : Format
mewtocol = record {
  highest = highest;
  room = longest_of_all;
  errors = errors;
  tests = λ f. (10 unless good_shape (limits_in f) 8 f) ∷ [];
  whom = whom_in;
  asked = λ f. reading_asks (read_frame (limits_in f) f);
  reply = λ own f says. reply_frame (limits_in f).header own says;
}

abbrev pub mewtocol_station : Site → List ℕ → List ℕ → List ℕ → Outcome
mewtocol_station = station mewtocol
