-- What a profile keeps, whatever is called, and that without one nothing changes (RULES N12 to N14); proved in proofs/Kept. Assumes nothing.
use Rattle.std.specs.Prelude.{ℕ, ◌+◌, Bool, true, false, List, [], ◌∷◌, ◌⊎◌, ◌≡◌, length, get_or}
use Rattle.rules.specs.Choice.{both, either, between}
use Rattle.rules.specs.Tests.{first}
use Rattle.table_registers.specs.declared.Profile.{Profile}
use Rattle.table_registers.specs.declared.Profile.TheVariants.{Free}
use Rattle.table_registers.specs.Operation.{Operation, is_granted, Judge}
use Rattle.table_registers.specs.Profile.{Row, single, pair, joined, within, rows_of, writes_word}
use Rattle.station.specs.Site.{Site, site_of, plain_site, Asked, wrong, asks, tells}
use Rattle.station.specs.Outcome.{Outcome}
use Rattle.station.specs.Station.{Format, call_tests, frame_tests, station}

-- ---- without a profile

-- every entry, in every format, gives and leaves what it gave and left when the attributes alone decided
abbrev pub NothingChanges : Type 0
NothingChanges = (m : Format) (attributes : List ℕ) (own : ℕ) (words frame room : List ℕ)
    → station m (site_of attributes Free own) words frame room ≡ station m (plain_site attributes own) words frame room

-- ---- with one

-- a register of a profile holds what it may
abbrev pub in_range : Row → List ℕ → Bool
in_range (single k low high) words = between low high (get_or words k 0)
in_range (pair k most) words = within most (joined (get_or words k 0) (get_or words (k + 1) 0))

-- an operation writes it, or a half of it
abbrev pub writes_row : Operation → Row → Bool
writes_row o (single k low high) = writes_word o k
writes_row o (pair k most) = either (writes_word o k) (writes_word o (k + 1))

-- a call: a format, a table's attributes, a station, a frame and a room, each its own
pub record Call : Type 0 where
  pub format : Format
  pub attributes : List ℕ
  pub own : ℕ
  pub frame : List ℕ
  pub room : List ℕ

abbrev pub site_in : Profile → Call → Site
site_in p c = site_of c.attributes p c.own

abbrev pub called : Profile → Call → List ℕ → Outcome
called p c words = station c.format (site_in p c) words c.frame c.room

-- a request that is done writes a register
abbrev pub done_to : Judge → List ℕ → Row → Asked → Bool
done_to judge words r (wrong n) = false
done_to judge words r (asks o reply) = both (is_granted (judge words o)) (writes_row o r)
done_to judge words r (tells t) = false

-- a call writes a register: no number stops it, and its request does
unfoldable pub wrote : Profile → Call → List ℕ → Row → Bool
wrote p c words r =
    first (λ k. false) (call_tests c.format.highest c.format.room (site_in p c) (length words) (length c.room))
    (first (λ k. false) (frame_tests c.format (site_in p c) words c.frame) (done_to (site_in p c).judge words r (c.format.asked c.frame)))

-- the words after some calls, and whether one of them wrote a register
unfoldable pub words_after : Profile → List ℕ → List Call → List ℕ
words_after p words [] = words
words_after p words (c ∷ cs) = words_after p (called p c words).words cs

unfoldable pub some_wrote : Profile → List ℕ → List Call → Row → Bool
some_wrote p words [] r = false
some_wrote p words (c ∷ cs) r = either (wrote p c words r) (some_wrote p (called p c words).words cs r)

-- one of a list
abbrev pub Of : Row → List Row → Type 0
Of r [] = ⊥
Of r (q ∷ rs) = (r ≡ q) ⊎ Of r rs

-- a register that any of them wrote is within its range: no frame can write a limit that is out of range
abbrev pub StaysInRange : Type 0
StaysInRange = (p : Profile) (words : List ℕ) (cs : List Call) (r : Row) → Of r (rows_of p)
    → some_wrote p words cs r ≡ true → in_range r (words_after p words cs) ≡ true

-- and one that was in its range stays so
abbrev pub NeverLeaves : Type 0
NeverLeaves = (p : Profile) (words : List ℕ) (cs : List Call) (r : Row) → Of r (rows_of p)
    → in_range r words ≡ true → in_range r (words_after p words cs) ≡ true
