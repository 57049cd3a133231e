-- Two masters on one table: when their order can't matter (RULES T1 to T6); proved in proofs/. Assumes nothing.
use Rattle.std.specs.Prelude.{ℕ, ◌<◌, Bool, true, false, List, ◌≡◌, eqb, length, get_or}
use Rattle.checks_shared.specs.Line.{Bytes}
use Rattle.table_registers.specs.declared.Profile.{Profile}
use Rattle.table_registers.specs.Operation.{Operation, is_granted}
use Rattle.table_registers.specs.Profile.{verdict}
use Rattle.table_cells.specs.Cells.{may_pass, Cells, meets_at, meeting}
use Rattle.table_cells.specs.declared.Meeting.TheVariants.{Never}
use Rattle.station.specs.Site.{Site, site_of}
use Rattle.station.specs.Outcome.{Outcome}
use Rattle.station.specs.Station.{station}
use Rattle.modbus_counters.specs.declared.Counters.{Counters}
use Rattle.modbus_body.specs.Body.{function}
use Rattle.modbus_rtu.specs.Rtu.{rtu}
use Rattle.modbus_ascii.specs.Ascii.{ascii}
use Rattle.masters.specs.declared.Line.{Line}
use Rattle.masters.specs.declared.Line.TheVariants.{Mewtocol, Rtu, Ascii}
use Rattle.masters.specs.Frames.{format_of, line_cells}

-- every word has 16 bits
abbrev pub Words : List ℕ → Type 0
Words w = (i : ℕ) → get_or w i 0 < 65536

-- no cell that the one writes is read or written by the other
abbrev pub Apart : Cells → Cells → Type 0
Apart one other = (c : ℕ) → meets_at one other c ≡ false

-- function 08, whose replies tell of the line and not of the table
abbrev pub diagnoses : Line → List ℕ → Bool
diagnoses Mewtocol frame = false
diagnoses Rtu frame = eqb (function (rtu.body frame)) 0x08
diagnoses Ascii frame = eqb (function (ascii.body frame)) 0x08

-- a master: its line, its station, its frame and its room
pub record Master : Type 0 where
  pub line : Line
  pub own : ℕ
  pub frame : List ℕ
  pub room : List ℕ

abbrev pub site_of_master : List ℕ → Profile → Master → Site
site_of_master attributes p m = site_of attributes p m.own

abbrev pub cells_of : List ℕ → Profile → Master → Cells
cells_of attributes p m = line_cells m.line (site_of_master attributes p m) m.frame

-- its call, over any counters
abbrev pub calls : List ℕ → Profile → Master → Counters → List ℕ → Outcome
calls attributes p m counters words = station (format_of m.line counters) (site_of_master attributes p m) words m.frame m.room

-- a frame of bytes that asks for something of the table
pub record Asks (m : Master) : Type 0 where
  pub bytes : Bytes m.frame
  pub table : diagnoses m.line m.frame ≡ false

-- both orders leave the same words, and give each the same number or reply, whatever the counters are at each call
pub record SameEitherWay (one other : Counters → List ℕ → Outcome) (words : List ℕ) : Type 0 where
  pub words_same : (a b c d : Counters) → (other b (one a words).words).words ≡ (one d (other c words).words).words
  pub one_same : (a b c : Counters) → ((one b (other c words).words).result ≡ (one a words).result) × ((one b (other c words).words).room ≡ (one a words).room)
  pub other-same : (a b c : Counters) → ((other b (one c words).words).result ≡ (other a words).result) × ((other b (one c words).words).room ≡ (other a words).room)

-- two masters in any two formats, each with a station and a room of its own; one attribute table, one profile
abbrev pub OrderIsFree : Type 0
OrderIsFree = (attributes words : List ℕ) (p : Profile) (one other : Master) → Words words → Asks one → Asks other
    → Apart (cells_of attributes p one) (cells_of attributes p other)
    → SameEitherWay (calls attributes p one) (calls attributes p other) words

-- and that they are apart can be asked: `meeting` looks at every cell of the table, and no cell past it is touched
abbrev pub NeverIsApart : Type 0
NeverIsApart = (attributes : List ℕ) (p : Profile) (one other : Master)
    → meeting (length attributes) (cells_of attributes p one) (cells_of attributes p other) ≡ Never
    → Apart (cells_of attributes p one) (cells_of attributes p other)

-- an operation may pass exactly where some words let it: so what touches nothing is refused whatever the words hold
pub record Exactly (attributes : List ℕ) (p : Profile) (o : Operation) : Type 0 where
  pub some_words : may_pass (verdict p attributes) (length attributes) o ≡ true
      → (words : List ℕ) × (length words ≡ length attributes) × Words words × (is_granted (verdict p attributes words o) ≡ true)
  pub no_words : may_pass (verdict p attributes) (length attributes) o ≡ false
      → (words : List ℕ) → length words ≡ length attributes → Words words → is_granted (verdict p attributes words o) ≡ false

abbrev pub MayPass : Type 0
MayPass = (attributes : List ℕ) (p : Profile) (o : Operation) → Exactly attributes p o
