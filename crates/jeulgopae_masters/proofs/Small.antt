-- A cell at which two frames meet is a cell of a table, and so has room below the sign. Assumes nothing.
use Prim.Native.Nat.{ℕ, zero, suc, ◌+◌, ◌*◌, ◌≤◌, ◌<◌}
use mathlib.Core.Bool.{Bool, true, false, false≢true}
use mathlib.Core.List.{List}
use mathlib.Core.Path.{◌≡◌, refl, sym, ap, ◌∙◌}
use native.Mathlib.Omega.{arith}
use borrow.Author.Tests.{leb-true}
use lib.Dec.{leb}
use lib.ListN.{length}
use Rattle.rules.specs.Choice.{pick, both, either}
use Rattle.table_addresses.specs.Catalogue.{table_limit}
use Rattle.table_registers.specs.declared.Profile.{Profile}
use Rattle.table_cells.specs.Cells.{Cells, reading, writing, meets_at, lowest, meeting}
use Rattle.table_cells.specs.declared.Meeting.TheVariants.{At}
use Rattle.station.specs.Site.{Site, site_of}
use Rattle.station.specs.Station.{Format}
use Rattle.masters.specs.Frames.{frame_cells, line_cells}
use Rattle.masters.specs.declared.Line.{Line}
use Rattle.jeulgopae_masters.specs.Codes.{SmallMeeting}

lowest-at : (p : ℕ → Bool) (k n c : ℕ) → lowest p k n ≡ At c → (p c ≡ true) × (c < k + n)
unfolding lowest
lowest-at p k zero c e = let z : ◌≡◌ {A = ℕ} 0 1 = cc in absurd (omega arith)
lowest-at p k (suc n) c e = go (p k) refl (lowest-at p (suc k) n c) e
  where
    go : (b : Bool) → p k ≡ b → (lowest p (suc k) n ≡ At c → (p c ≡ true) × (c < suc k + n)) → pick b (At k) (lowest p (suc k) n) ≡ At c
        → (p c ≡ true) × (c < k + suc n)
    go true q more e = let s : k ≡ c = cc in (ap p (sym s) ∙ q, omega arith)
    go false q more e = let r = more e in (r.0, omega (arith, r.1))

held : (b x : Bool) → pick b x false ≡ true → b ≡ true
held true x e = refl
held false x e = e

-- a frame that touches a cell was heard over a table
in_table : (m : Format) (site : Site) (frame : List ℕ) (way c : ℕ) → frame_cells m site frame way c ≡ true → length site.attributes ≤ table_limit
unfolding frame_cells
in_table m site frame way c e = leb-true (length site.attributes) table_limit (held (leb (length site.attributes) table_limit) _ e)

-- where two meet, the first reads or writes
one-touches : (one other : Cells) (c : ℕ) {A : Type 0} → (one writing c ≡ true → A) → (one reading c ≡ true → A) → meets_at one other c ≡ true → A
one-touches one other c {A} w r = go (one writing c) refl (one reading c) refl
  where
    go : (a : Bool) → one writing c ≡ a → (b : Bool) → one reading c ≡ b → either (both a (either (other reading c) (other writing c))) (both b (other writing c)) ≡ true → A
    go true p b q e = w p
    go false p true q e = r q
    go false p false q e = absurd (false≢true e)

pub meeting-small : (a b : Line) (us : List ℕ) (p : Profile) (own own' : ℕ) (f g : List ℕ)
    → SmallMeeting (meeting (length us) (line_cells a (site_of us p own) f) (line_cells b (site_of us p own') g))
meeting-small a b us p own own' f g c e =
    let one : Cells = line_cells a (site_of us p own) f in
    let other : Cells = line_cells b (site_of us p own') g in
    let at = lowest-at (meets_at one other) 0 (16 * length us) c e in
    let few : length us ≤ table_limit =
    one-touches one other c (in_table _ (site_of us p own) f writing c) (in_table _ (site_of us p own) f reading c) at.0 in
    omega (arith, at.1, few)
