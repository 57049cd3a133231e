-- The station, once for every format: 1, 2, 3, then the frame (RULES C2 to C8). Assumes nothing.
use Rattle.std.specs.Prelude.{ℕ, ◌≤◌, Bool, true, false, List, [], ◌∷◌, ◌++◌, eqb, leb, length}
use Rattle.rules.specs.Choice.{pick, both, between, all_between}
use Rattle.rules.specs.Tests.{Test, ◌unless◌, first}
use Rattle.rules.specs.Given.{Given, gives, refusal}
use Rattle.table_addresses.specs.Catalogue.{table_limit}
use Rattle.station.specs.declared.Ready.{Ready}
use Rattle.station.specs.declared.Ready.TheVariants.{Fine, Refused}
use Rattle.station.specs.declared.Whom.{Whom}
use Rattle.station.specs.declared.Whom.TheVariants.{This, All, Other}
use Rattle.station.specs.Site.{Site, Asked, writes, Says, is_good, Done, Errors, done}
use Rattle.station.specs.Outcome.{Outcome, silent, sent, carried}

-- what tells one format from another
pub record Format : Type 0 where
  -- stations are 1 to `highest`; a call is lent this much room at least
  pub highest : ℕ
  pub room : ℕ
  pub errors : Errors
  -- what is looked at before the station's number, and whom that says a frame is for, where the own one is this
  pub tests : List ℕ → List Test
  pub whom : ℕ → List ℕ → Whom
  -- what a frame asks, and the frame that replies to it
  pub asked : List ℕ → Asked
  pub reply : ℕ → List ℕ → Says → List ℕ

-- 1, 2 and 3, of a table of n words and a room of so many bytes
abbrev pub call_tests : ℕ → ℕ → Site → ℕ → ℕ → List Test
call_tests highest least site n size =
    (1 unless leb n table_limit)
    ∷ (1 unless eqb (length site.attributes) n)
    ∷ (1 unless all_between 0 3 site.attributes)
    ∷ (2 unless between 1 highest site.own)
    ∷ (3 unless leb least size)
    ∷ []

-- whether a call goes on to its frame, as a number that is given: 0 where it does
abbrev pub ready_given : Ready → Given
ready_given Fine = gives 0
ready_given (Refused r) = refusal r

-- what a frame's request leaves at the own station
abbrev pub leaves : Format → Site → List ℕ → List ℕ → Done
leaves m site words frame = done m.errors site.judge words (m.asked frame)

-- a frame to this station is heeded; one to all where it writes, and would have got a good reply; one to another is not
abbrev pub heeded : Whom → Asked → Says → Bool
heeded This a says = true
heeded All a says = both (writes a) (is_good says)
heeded Other a says = false

-- 10, 11 and 12, as far as the format gives them
abbrev pub frame_tests : Format → Site → List ℕ → List ℕ → List Test
frame_tests m site words frame =
    m.tests frame ++ ((12 unless heeded (m.whom site.own frame) (m.asked frame) (leaves m site words frame).says) ∷ [])

abbrev pub is_all : Whom → Bool
is_all This = false
is_all All = true
is_all Other = false

-- what a request leaves goes out as a frame, but not to all
abbrev pub answer : Whom → List ℕ → List ℕ → List ℕ → Outcome
answer whom room message words = pick (is_all whom) (carried room words) (sent room message words)

-- a frame at a call that none of 1, 2 and 3 stops: a number returns itself only; else the frame is answered
unfoldable pub received : Format → Site → List ℕ → List ℕ → List ℕ → Outcome
received m site words frame room =
    let d : Done = leaves m site words frame in
    first (silent words room) (frame_tests m site words frame)
    (answer (m.whom site.own frame) room (m.reply site.own frame d.says) d.words)

-- what a request to all gives and leaves
unfoldable pub to_all : List ℕ → List ℕ → Asked → Done → Outcome
to_all words room a d = first (silent words room) ((12 unless heeded All a d.says) ∷ []) (carried room d.words)

unfoldable pub station : Format → Site → List ℕ → List ℕ → List ℕ → Outcome
station m site words frame room =
    first (silent words room) (call_tests m.highest m.room site (length words) (length room)) (received m site words frame room)

-- what a call that goes on to its frame has been tested for
pub record Fit (m : Format) (own : ℕ) (room : List ℕ) : Type 0 where
  pub small : own ≤ m.highest
  pub big : m.room ≤ length room
