-- Each way goes by the filling's own tests, which tell what the file says. Assumes nothing.
use mathlib.Core.Path.{◌≡◌, sym, ap, ◌∙◌}
use mathlib.Core.Bool.{Bool, true, false}
use mathlib.Core.List.{List}
use Prim.Native.Nat.{ℕ}
use native.Mathlib.Omega.{arith}
use Rattle.std.specs.Prelude.{Some}
use Rattle.rules.proofs.Choose.{via, both_left, pick_yes, pick_no}
use Rattle.catalogue_format.specs.Format.{is_whole, is_read, items_of, read_file}
use Rattle.catalogue_files.specs.Refusals.{deeper}
use Rattle.catalogue_format.specs.Shapes.{well_formed}
use Rattle.catalogue_files.specs.Walks.{deeper_in}
use Rattle.catalogue_format.proofs.Scanned.{well-formed}
use Rattle.catalogue_files.proofs.Depths.{depth-said}
use Rattle.catalogue_files.proofs.Entry.{readable}
use Rattle.catalogue_places.specs.declared.Fault.TheVariants.{Malformed, TooDeep}
use Rattle.catalogue_places.specs.Places.{fault_of}
use Rattle.catalogue_places.proofs.Within.{whole-small}
use Rattle.catalogue_places.proofs.fault_in.Goals.{After-is_deeper}
use Rattle.catalogue_places.proofs.fault_in.Goals as goal

whole : (s : List ℕ) → well_formed s ≡ true → is_whole s ≡ true
unfolding well_formed
whole s h = both_left _ _ h

-- what the definition is behind each test
deep : (s : List ℕ) (b : Bool) → well_formed s ≡ true → deeper_in 4 s ≡ b → deeper 4 (items_of (read_file s)) ≡ b
deep s b w h = via (depth-said 4 s (items_of (read_file s)) (readable s w)) h

-- the file, and that it can be read
module _ (c : After-is_deeper) where
  abbrev file : List ℕ
  file = c.args.file.now

  abbrev formed : well_formed file ≡ true
  formed = via c.well_formed-2.ensures c.if-not-well_formed.false

pub returns-then-not-well_formed : goal.returns-then-not-well_formed
unfolding fault_of
returns-then-not-well_formed c =
    ap (λ (n : ℕ). Some (Malformed n)) c.malformed_at.ensures
    ∙ sym (pick_no (is_read (read_file _)) _ _ (via (well-formed _) (via c.well_formed-2.ensures c.if-not-well_formed.true)))

pub deep_at-requires : goal.deep_at-requires
deep_at-requires c = (whole-small _ (whole _ (formed (goal.at.deep_at-requires c).After-is_deeper)), omega arith)

pub returns-then-is_deeper : goal.returns-then-is_deeper
unfolding fault_of
returns-then-is_deeper c =
    let t = (goal.at.returns-then-is_deeper c).After-is_deeper in
    ap (λ (n : ℕ). Some (TooDeep n)) c.deep_at.ensures
    ∙ sym (pick_yes (is_read (read_file _)) _ _ (via (well-formed _) (formed t)) ∙ pick_yes (deeper 4 _) _ _ (deep _ true (formed t) (via t.is_deeper.ensures c.if-is_deeper.true)))

pub returns : goal.returns
unfolding fault_of
returns c =
    let t = (goal.at.returns c).After-is_deeper in
    sym (pick_yes (is_read (read_file _)) _ _ (via (well-formed _) (formed t)) ∙ pick_no (deeper 4 _) _ _ (deep _ false (formed t) (via t.is_deeper.ensures c.if-is_deeper.false)))
