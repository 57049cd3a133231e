-- What a file is refused for and what is filled, as one walk along the bytes sees it (catalogue_format/specs/Shapes); proofs/ shows that it
-- tells the same of every file. Assumes nothing.
use Rattle.std.specs.Prelude.{ℕ, zero, suc, ◌+◌, Bool, List, [], ◌∷◌, ◌++◌, eqb, ltb}
use Rattle.rules.specs.Choice.{pick, both, either, same_bytes, some}
use Rattle.catalogue_format.specs.declared.Run.{Run}
use Rattle.catalogue_format.specs.Format.{tag_of, value_of, after_of, run_of}
use Rattle.catalogue_format.specs.Shapes.{siblings, groups_in}
use Rattle.catalogue_files.specs.Refusals.{some_pair, meets, painted}

unfoldable pub runs_among : List (List ℕ) → List Run
runs_among [] = []
runs_among (p ∷ ps) = pick (eqb (tag_of p) 2) (run_of p ∷ runs_among ps) (runs_among ps)

-- the runs right in s
unfoldable pub runs_in : List ℕ → List Run
runs_in s = runs_among (siblings s)

-- ---- 21

-- a group k levels down, at the first field and at any
unfoldable pub deeper_field : ℕ → List ℕ → Bool
deeper_field zero s = eqb (tag_of s) 3
deeper_field (suc k) s = both (eqb (tag_of s) 3) (some (deeper_field k) (siblings (after_of (value_of s))))

unfoldable pub deeper_in : ℕ → List ℕ → Bool
deeper_in k s = some (deeper_field k) (siblings s)

-- ---- 22

-- a run of these items meets one of those
unfoldable pub meets_some : List ℕ → List ℕ → Bool
meets_some these those = some (λ q. some (meets q) (runs_in those)) (runs_in these)

-- a run of a group in the items meets one of the items' own
unfoldable pub meets_inner : List ℕ → Bool
meets_inner s = some (λ v. meets_some (after_of v) s) (groups_in s)

unfoldable pub meets_in : List ℕ → Bool
meets_in v = either (some_pair meets (runs_in (after_of v))) (meets_inner (after_of v))

unfoldable pub beyond_in : ℕ → List ℕ → Bool
beyond_in n v = some (λ r. ltb n (r.first + r.count)) (runs_in (after_of v))

-- ---- 23, 24, and what is filled

unfoldable pub named_in : List ℕ → List ℕ → Bool
named_in asked s = some (λ v. same_bytes asked (value_of v)) (groups_in s)

unfoldable pub named_twice : List ℕ → Bool
named_twice s = some_pair (λ u v. same_bytes (value_of u) (value_of v)) (groups_in s)

unfoldable pub on_chain_in : List ℕ → List ℕ → Bool
on_chain_in asked v = either (same_bytes asked (value_of v)) (named_in asked (after_of v))

-- some bytes with the runs of a group, if it is on the chain
abbrev pub group_put : List ℕ → List ℕ → List ℕ → List ℕ
group_put bytes asked v = pick (on_chain_in asked v) (painted bytes (runs_in (after_of v))) bytes

unfoldable pub chain_in : List ℕ → List (List ℕ) → List Run
chain_in asked [] = []
chain_in asked (v ∷ vs) = pick (on_chain_in asked v) (runs_in (after_of v)) [] ++ chain_in asked vs
