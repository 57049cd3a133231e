-- What a frame touches, part by part: what it asks, where it is for this station; then whom it is for; then its tests. Assumes nothing.
use Rattle.std.specs.Prelude.{ℕ, Bool, true, false, List}
use Rattle.rules.specs.Tests.{first}
use Rattle.table_registers.specs.Table.{grants}
use Rattle.table_registers.specs.declared.Profile.{Profile}
use Rattle.table_cells.specs.Cells.{Cells}
use Rattle.table_cells.specs.Touched.{Touches}
use Rattle.table_cells.specs.declared.Touched.{Touched}
use Rattle.station.specs.Site.{Site, site_of, Asked}
use Rattle.station.specs.Station.{Format}
use Rattle.station.specs.declared.Whom.{Whom}
use Rattle.station.specs.declared.Whom.TheVariants.{This, All, Other}
use Rattle.masters.specs.Frames.{asked_cells}

-- of what is asked, attributes and profile decide; no number of a station is looked at
abbrev pub own_cells : List ℕ → Profile → Asked → Cells
own_cells attributes p a = asked_cells (site_of attributes p 1) This a

-- whether a request that touches in these ways is carried out: of what is for all the writes are, of what is for another station nothing
abbrev pub carried_out : Whom → ℕ → Bool
carried_out This ways = true
carried_out All ways = grants 2 ways
carried_out Other ways = false

-- what is touched of a request for this station says what is touched where it is for another one, or for all
abbrev pub TouchesFor : Whom → Touched → Touched → Type 0
TouchesFor whom own r = (site : Site) (a : Asked) → Touches own (asked_cells site This a) → Touches r (asked_cells site whom a)

-- a frame at a call that neither 1 nor 2 stops
abbrev pub heard_cells : Format → Site → List ℕ → Cells
heard_cells m site frame way c = first (λ k. false) (m.tests frame) (asked_cells site (m.whom site.own frame) (m.asked frame) way c)
