-- Runs put into the lent bytes, one after the other. Assumes nothing.
use mathlib.Core.Path.{◌≡◌, refl, ap, ◌∙◌}
use mathlib.Core.Bool.{Bool, true, false}
use mathlib.Core.List.{List, [], ◌∷◌, ◌++◌, append-nil}
use Prim.Native.Nat.{ℕ, ◌+◌, ◌≤◌}
use native.Mathlib.Omega.{arith}
use borrow.Rule.Slice.PartMut.{put_mid}
use lib.ListN.{length, take, drop, drop_of_length-le}
use lib.Seq.{take_all}
use Rattle.std.proofs.lemmas.Slice.{put_mid-paste}
use Rattle.rules.specs.Choice.{pick}
use Rattle.text_rooms.specs.Room.{overwrite}
use Rattle.catalogue_format.specs.declared.Run.{Run}
use Rattle.catalogue_format.specs.Format.{after_of}
use Rattle.catalogue_files.specs.Refusals.{paint, painted}
use Rattle.catalogue_files.specs.Walks.{runs_in, on_chain_in, group_put, chain_in}

pub overwrite-whole : (xs ys : List ℕ) → length ys ≡ length xs → overwrite xs 0 ys ≡ ys
unfolding overwrite
overwrite-whole xs ys e =
    let h : length xs ≤ 0 + length ys = omega arith in
    ap (λ (t : List ℕ). ys ++ t) (drop_of_length-le xs h) ∙ append-nil ys

-- a part of the bytes with others in its place
pub part-written : (xs ys zs : List ℕ) (at k : ℕ) → ys ≡ zs → length zs ≡ k → put_mid at k xs ys ≡ overwrite xs at zs
unfolding overwrite
part-written xs ys zs at k e q =
    let all : length zs ≤ length zs = omega arith in
    put_mid-paste at k xs ys zs (length zs) e q refl ∙ ap (λ (t : List ℕ). take at xs ++ t ++ drop (at + length zs) xs) (take_all (length zs) zs all)

pub painted-append : (bytes : List ℕ) (rs qs : List Run) → painted bytes (rs ++ qs) ≡ painted (painted bytes rs) qs
unfolding painted
painted-append bytes [] qs = refl
painted-append bytes (r ∷ rs) qs = painted-append (paint bytes r) rs qs

some-painted : (bytes : List ℕ) (t : Bool) (rs : List Run) → painted bytes (pick t rs []) ≡ pick t (painted bytes rs) bytes
unfolding painted
some-painted bytes true rs = refl
some-painted bytes false rs = refl

-- a group of the chain
pub painted-chain : (asked bytes v : List ℕ) (vs : List (List ℕ)) → painted bytes (chain_in asked (v ∷ vs)) ≡ painted (group_put bytes asked v) (chain_in asked vs)
unfolding chain_in
painted-chain asked bytes v vs =
    painted-append bytes (pick (on_chain_in asked v) (runs_in (after_of v)) []) (chain_in asked vs)
    ∙ ap (λ (b : List ℕ). painted b (chain_in asked vs)) (some-painted bytes (on_chain_in asked v) (runs_in (after_of v)))
