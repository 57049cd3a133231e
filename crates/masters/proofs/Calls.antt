-- 1 and 2 first, then a frame's tests, then whom it is for. Assumes nothing.
use Prim.Native.Nat.{ℕ, ◌≤◌}
use mathlib.Core.Bool.{false}
use mathlib.Core.List.{List}
use mathlib.Core.Path.{◌≡◌, sym, ap, ◌∙◌}
use borrow.Author.Tests.{leb-true}
use lib.Dec.{leb}
use lib.ListN.{length, drop}
use Rattle.rules.specs.Tests.{Test, first}
use Rattle.rules.specs.Given.{gives, refused}
use Rattle.rules.specs.declared.Refusal.{Refusal}
use Rattle.rules.proofs.Tests.{first-append, first-refused, first-passed, passed}
use Rattle.table_registers.specs.declared.Profile.{Profile}
use Rattle.table_cells.specs.declared.Touched.{Touched}
use Rattle.table_cells.specs.Touched.{cells_in, Touches}
use Rattle.station.specs.Site.{site_of, plain_site}
use Rattle.station.specs.Station.{Format, call_tests, ready_given}
use Rattle.station.specs.declared.Ready.{Ready}
use Rattle.station.specs.declared.Ready.TheVariants.{Fine, Refused}
use Rattle.masters.specs.Frames.{asked_cells, frame_cells}
use Rattle.masters.specs.Asking.{heard_cells}

module _ (m : Format) (us : List ℕ) (p : Profile) (own : ℕ) (frame : List ℕ) (t : Touched) (r : Ready)
    (said : ready_given r ≡ first refused (call_tests m.highest m.room (plain_site us own) (length us) m.room) (gives 0)) where
  abbrev tests : List Test
  tests = call_tests m.highest m.room (plain_site us own) (length us) m.room

  pub not-ready : (k : Refusal) → r ≡ Refused k → ((way c : ℕ) → cells_in t way c ≡ false) → Touches t (frame_cells m (site_of us p own) frame)
  unfolding frame_cells
  not-ready k e none way c =
      none way c
      ∙ sym (first-append (λ (j : ℕ). false) tests (m.tests frame) (asked_cells (site_of us p own) (m.whom own frame) (m.asked frame) way c)
      ∙ first-refused tests 0 k.0 (sym said ∙ ap ready_given e) (λ (j : ℕ). false) (heard_cells m (site_of us p own) frame way c))

  pub is-ready : r ≡ Fine → Touches t (heard_cells m (site_of us p own) frame) → Touches t (frame_cells m (site_of us p own) frame)
  unfolding frame_cells
  is-ready e h way c =
      h way c
      ∙ sym (first-append (λ (j : ℕ). false) tests (m.tests frame) (asked_cells (site_of us p own) (m.whom own frame) (m.asked frame) way c)
      ∙ first-passed tests 0 0 (sym said ∙ ap ready_given e) (λ (j : ℕ). false) (heard_cells m (site_of us p own) frame way c))

-- a table that is ready has at most so many words
pub ready-small : (m : Format) (us : List ℕ) (own : ℕ) (r : Ready)
    → ready_given r ≡ first refused (call_tests m.highest m.room (plain_site us own) (length us) m.room) (gives 0) → r ≡ Fine → length us ≤ 65536
ready-small m us own r said e =
    let tests = call_tests m.highest m.room (plain_site us own) (length us) m.room in
    leb-true (length us) 65536 (passed 1 (leb (length us) 65536) (drop 1 tests) 0 0 (sym said ∙ ap ready_given e)).0
