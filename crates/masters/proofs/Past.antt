-- No frame touches a cell past the table: so the lowest cell at which two frames meet is what a search of the table's cells finds. Assumes nothing.
use Prim.Native.Nat.{ℕ, ◌*◌, ◌≤◌}
use mathlib.Core.Bool.{Bool, true, false}
use mathlib.Core.List.{List, [], ◌∷◌, ◌++◌}
use mathlib.Core.Path.{◌≡◌, refl, ap₂}
use lib.ListN.{length}
use Rattle.rules.specs.Choice.{both, either}
use Rattle.rules.specs.Tests.{Test, ◌unless◌, first}
use Rattle.table_registers.specs.declared.Profile.{Profile}
use Rattle.table_registers.specs.Profile.{verdict}
use Rattle.table_cells.specs.declared.Meeting.{Meeting}
use Rattle.table_cells.specs.declared.Touched.{Touched}
use Rattle.table_cells.specs.Cells.{Cells, touches, may_pass, meets_at, meeting}
use Rattle.table_cells.specs.Touched.{cells_in, Touches, Lowest}
use Rattle.table_cells.proofs.Passing.{past-none}
use Rattle.table_cells.proofs.Shared.{lowest-same, lowest-is}
use Rattle.station.specs.Site.{site_of, Asked, wrong, asks, tells}
use Rattle.station.specs.Station.{Format, call_tests}
use Rattle.station.specs.declared.Whom.{Whom}
use Rattle.masters.specs.Frames.{is_for, asked_cells, frame_cells}

first-false : (ts : List Test) (x : Bool) → x ≡ false → first (λ (k : ℕ). false) ts x ≡ false
first-false [] x e = e
first-false ((k unless true) ∷ ts) x e = first-false ts x e
first-false ((k unless false) ∷ ts) x e = refl

first-of-three : (a b x : Bool) → both b x ≡ false → both (both a b) x ≡ false
first-of-three true b x e = e
first-of-three false b x e = refl

module _ (us : List ℕ) (p : Profile) where
  asked-past : (own : ℕ) (whom : Whom) (a : Asked) (way c : ℕ) → 16 * length us ≤ c → asked_cells (site_of us p own) whom a way c ≡ false
  asked-past own whom (wrong k) way c h = refl
  asked-past own whom (tells s) way c h = refl
  asked-past own whom (asks o reply) way c h =
      first-of-three (is_for whom o) (may_pass (verdict p us) (length us) o) (touches o way c) (past-none p us o way c h)

  pub frame_past : (m : Format) (own : ℕ) (frame : List ℕ) (way c : ℕ) → 16 * length us ≤ c → frame_cells m (site_of us p own) frame way c ≡ false
  unfolding frame_cells
  frame_past m own frame way c h =
      first-false (call_tests m.highest m.room (site_of us p own) (length us) m.room ++ m.tests frame) _ (asked-past own (m.whom own frame) (m.asked frame) way c h)

-- two that have the same cells meet at the same
meets-same : (one one' other other' : Cells) (c : ℕ) → ((way : ℕ) → one way c ≡ one' way c) → ((way : ℕ) → other way c ≡ other' way c) → meets_at one other c ≡ meets_at one' other' c
meets-same one one' other other' c e f =
    ap₂ either (ap₂ both (e 2) (ap₂ either (f 1) (f 2))) (ap₂ both (e 1) (f 2))

-- what the one doesn't touch they don't meet at
pub none-meets : (one other : Cells) (c : ℕ) → ((way : ℕ) → one way c ≡ false) → meets_at one other c ≡ false
none-meets one other c e = meets-same one (λ w k. false) other other c e (λ w. refl)

-- the cells of the other are a frame's
pub met_by : (t u : Touched) (other : Cells) (m : Meeting) → Lowest (meets_at (cells_in t) (cells_in u)) m → Touches u other → Lowest (meets_at (cells_in t) other) m
met_by t u other m h f =
    lowest-same (meets_at (cells_in t) (cells_in u)) (meets_at (cells_in t) other) (λ c. meets-same (cells_in t) (cells_in t) (cells_in u) other c (λ w. refl) (λ w. f w c)) m h

-- and those of the one too: then the lowest cell is the definition's
pub met : (n : ℕ) (one other : Cells) (t : Touched) (m : Meeting) → Lowest (meets_at (cells_in t) other) m → Touches t one
    → ((way c : ℕ) → 16 * n ≤ c → one way c ≡ false) → m ≡ meeting n one other
met n one other t m h e past =
    lowest-is (meets_at one other) (16 * n) m
    (lowest-same (meets_at (cells_in t) other) (meets_at one other) (λ c. meets-same (cells_in t) one other other c (λ w. e w c) (λ w. refl)) m h)
    (λ c l. none-meets one other c (λ w. past w c l))
