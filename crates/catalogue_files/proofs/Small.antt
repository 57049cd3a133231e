-- What is read can be said, and what is filled is at most 3. Assumes nothing.
use mathlib.Core.Path.{◌≡◌, refl, ap, ◌∙◌}
use mathlib.Core.Bool.{true}
use mathlib.Core.List.{List, [], ◌∷◌, ◌++◌}
use Prim.Native.Nat.{ℕ, ◌+◌, ◌≤◌}
use native.Mathlib.Omega.{arith}
use lib.Dec.{leb, eqb}
use lib.ListN.{length, take, replicate}
use borrow.Author.Tests.{leb-true}
use Rattle.rules.specs.Choice.{pick, between, all_between}
use Rattle.text_rooms.specs.Room.{overwrite}
use Rattle.rules.proofs.Choose.{both_left, both_right, pick_all, is-between}
use Rattle.catalogue_format.specs.declared.Run.{Run}
use Rattle.catalogue_format.specs.Format.{Items, none, run, group, Reading, malformed, reads, items_of, size_of, value_of, after_of, is_field, is_name, is_run, run_of, read_file}
use Rattle.table_addresses.specs.Catalogue.{table_limit}
use Rattle.catalogue_files.specs.Refusals.{Group, groups_of, own, on_chain, chain, paint, painted, outcome_up_to}
use Rattle.catalogue_files.specs.Writing.{Sound}
use Rattle.catalogue_files.specs.Statements.{ReadsSound, FilledSmall}
use Rattle.catalogue_format.proofs.FieldLaws.{field_fits, value-length}
use Rattle.catalogue_files.proofs.Said.{Says, nothing, a-run, a-group, file-said}
use Rattle.catalogue_files.proofs.Ranges.{all_append, all_take, all_drop, all_same}
use Rattle.catalogue_files.proofs.Entry.{bytes-filled}

-- ---- what is read

run_sound : (a : List ℕ) → is_run a ≡ true → (1 ≤ (run_of a).count) × ((run_of a).attribute ≤ 3)
unfolding is_run
run_sound a h =
    let r = both_right (eqb (size_of a) 5) _ (both_right (is_field 2 a) _ h) in
    (leb-true _ _ (both_left _ _ r), leb-true _ _ (both_right (leb 1 (run_of a).count) _ r))

name-sound : (v : List ℕ) → is_name v ≡ true → (between 1 32 (length (value_of v)) ≡ true) × (all_between 32 126 (value_of v) ≡ true)
unfolding is_name
name-sound v h =
    let r = both_right (is_field 1 v) _ h in
    (ap (between 1 32) (value-length v (field_fits 1 v (both_left _ _ h))) ∙ both_left _ _ r, both_right (between 1 32 (size_of v)) _ r)

pub says-sound : (a : List ℕ) (t : Items) → Says a t → Sound t
says-sound _ _ nothing = tt
says-sound _ _ (a-run a t r s) = let e = run_sound a r in (e.0, e.1, says-sound (after_of a) t s)
says-sound _ _ (a-group a i t g n s r) = let e = name-sound (value_of a) n in (e.0, e.1, says-sound (after_of (value_of a)) i s, says-sound (after_of a) t r)

pub reads-sound : ReadsSound
reads-sound file t e = says-sound file t (file-said file t e)

-- ---- the chain's attributes

AllSmall : List Run → Type 0
AllSmall [] = Unit {0}
AllSmall (r ∷ rs) = (r.attribute ≤ 3) × AllSmall rs

AllSound : List Group → Type 0
AllSound [] = Unit {0}
AllSound (g ∷ gs) = Sound g.items × AllSound gs

sound-append : (gs hs : List Group) → AllSound gs → AllSound hs → AllSound (gs ++ hs)
unfolding AllSound
sound-append [] hs p q = q
sound-append (g ∷ gs) hs p q = (p.0, sound-append gs hs p.1 q)

groups-sound : (t : Items) → Sound t → AllSound (groups_of t)
unfolding groups_of AllSound
groups-sound none s = tt
groups-sound (run r t) s = groups-sound t s.2
groups-sound (group n i t) s = (s.2, sound-append (groups_of i) (groups_of t) (groups-sound i s.2) (groups-sound t s.3))

small-append : (rs qs : List Run) → AllSmall rs → AllSmall qs → AllSmall (rs ++ qs)
unfolding AllSmall
small-append [] qs p q = q
small-append (r ∷ rs) qs p q = (p.0, small-append rs qs p.1 q)

own-small : (t : Items) → Sound t → AllSmall (own t)
unfolding own AllSmall
own-small none s = tt
own-small (run r t) s = (s.1, own-small t s.2)
own-small (group n i t) s = own-small t s.3

chain-small : (asked : List ℕ) (gs : List Group) → AllSound gs → AllSmall (chain asked gs)
unfolding chain AllSound AllSmall
chain-small asked [] s = tt
chain-small asked (g ∷ gs) s =
    small-append (pick (on_chain asked g) (own g.items) []) (chain asked gs) (pick_all (λ (l : List Run). AllSmall l) (on_chain asked g) (own g.items) [] (λ _. own-small g.items s.0) (λ _. tt)) (chain-small asked gs s.1)

-- ---- the bytes

abbrev Small : List ℕ → Type 0
Small xs = all_between 0 3 xs ≡ true

paint-small : (bytes : List ℕ) (r : Run) → Small bytes → r.attribute ≤ 3 → Small (paint bytes r)
unfolding paint overwrite
paint-small bytes r b h =
    pick_all Small (leb (r.first + r.count) (length bytes)) (overwrite bytes r.first (replicate r.count r.attribute)) bytes
    (λ _. all_append 0 3 (take r.first bytes ++ replicate r.count r.attribute) _ (all_append 0 3 (take r.first bytes) _ (all_take 0 3 r.first bytes b) (all_same 0 3 r.count r.attribute (is-between 0 3 r.attribute (omega arith) h))) (all_drop 0 3 (r.first + length (replicate r.count r.attribute)) bytes b))
    (λ _. b)

painted-small : (rs : List Run) (bytes : List ℕ) → Small bytes → AllSmall rs → Small (painted bytes rs)
unfolding painted AllSmall
painted-small [] bytes b s = b
painted-small (r ∷ rs) bytes b s = painted-small rs (paint bytes r) (paint-small bytes r b s.0) s.1

items-sound : (r : Reading) → ((t : Items) → r ≡ reads t → Sound t) → Sound (items_of r)
items-sound malformed s = tt
items-sound (reads t) s = s t refl

pub filled-small : FilledSmall
unfolding outcome_up_to
filled-small file asked lent e =
    let t = items_of (read_file file) in
    let s : Sound t = items-sound (read_file file) (λ u q. reads-sound file u q) in
    ap (all_between 0 3) (bytes-filled table_limit (read_file file) asked lent e)
    ∙ painted-small (chain asked (groups_of t)) (replicate (length lent) 0) (all_same 0 3 (length lent) 0 (is-between 0 3 0 (omega arith) (omega arith))) (chain-small asked (groups_of t) (groups-sound t s))
