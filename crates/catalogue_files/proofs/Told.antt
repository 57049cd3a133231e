-- What the walks tell of a file that can be read is what the definitions say of it. Assumes nothing.
use mathlib.Core.Path.{◌≡◌, refl, ap, ap₂, sym, ◌∙◌}
use mathlib.Core.Bool.{Bool, true}
use mathlib.Core.List.{List, [], ◌∷◌, ◌++◌, map}
use Prim.Native.Nat.{ℕ, ◌+◌}
use lib.Dec.{ltb}
use Rattle.rules.specs.Choice.{pick, either, same_bytes, some}
use Rattle.catalogue_format.specs.declared.Run.{Run}
use Rattle.catalogue_format.specs.Format.{Items, value_of, after_of, is_name}
use Rattle.catalogue_files.specs.Refusals.{some_pair, Group, groups_of, own, meets, meets_inside, beyond, names_of, named, on_chain, chain}
use Rattle.catalogue_format.specs.Shapes.{groups_in}
use Rattle.catalogue_files.specs.Walks.{runs_in, meets_some, meets_inner, meets_in, beyond_in, named_in, named_twice, on_chain_in, chain_in}
use Rattle.catalogue_files.proofs.Said.{Says, collected, runs-said}

-- ---- lists told by a test, through a map

some-map : {A B : Type 0} (p : B → Bool) (f : A → B) (xs : List A) → some p (map f xs) ≡ some (λ x. p (f x)) xs
unfolding some
some-map p f [] = refl
some-map p f (x ∷ xs) = ap (either (p (f x))) (some-map p f xs)

pair-map : {A B : Type 0} (p : B → B → Bool) (f : A → B) (xs : List A) → some_pair p (map f xs) ≡ some_pair (λ x y. p (f x) (f y)) xs
unfolding some_pair
pair-map p f [] = refl
pair-map p f (x ∷ xs) = ap₂ either (some-map (p (f x)) f xs) (pair-map p f xs)

abbrev itself : Bool → Bool
itself b = b

module _ (a : List ℕ) (t : Items) (s : Says a t) where
  -- a test of each group
  some-told : (p : List ℕ → Bool) (q : Group → Bool) → ((v : List ℕ) (i : Items) → is_name v ≡ true → Says (after_of v) i → p v ≡ q (record { name = value_of v; items = i })) → some p (groups_in a) ≡ some q (groups_of t)
  some-told p q e = sym (some-map itself p (groups_in a)) ∙ ap (some itself) (collected p q e a t s) ∙ some-map itself q (groups_of t)

  pub names-told : map value_of (groups_in a) ≡ names_of t
  names-told = collected value_of (λ (g : Group). g.name) (λ v i n r. refl) a t s

  pub named-told : (asked : List ℕ) → named_in asked a ≡ named asked t
  unfolding named_in named
  named-told asked = sym (some-map (same_bytes asked) value_of (groups_in a)) ∙ ap (some (same_bytes asked)) names-told

  pub twice-told : named_twice a ≡ some_pair same_bytes (names_of t)
  unfolding named_twice
  twice-told = sym (pair-map same_bytes value_of (groups_in a)) ∙ ap (some_pair same_bytes) names-told

module _ (v : List ℕ) (i : Items) (n : is_name v ≡ true) (s : Says (after_of v) i) where
  one-beyond : (k : ℕ) → beyond_in k v ≡ beyond k (record { name = value_of v; items = i })
  unfolding beyond_in beyond
  one-beyond k = ap (some (λ (r : Run). ltb k (r.first + r.count))) (runs-said (after_of v) i s)

  one-chain : (asked : List ℕ) → on_chain_in asked v ≡ on_chain asked (record { name = value_of v; items = i })
  unfolding on_chain_in on_chain
  one-chain asked = ap (either (same_bytes asked (value_of v))) (named-told (after_of v) i s asked)

  one-crossing : (w : List ℕ) (j : Items) → Says w j → meets_some w (after_of v) ≡ some (λ q. some (meets q) (own i)) (own j)
  unfolding meets_some
  one-crossing w j r = ap₂ (λ (x y : List Run). some (λ q. some (meets q) x) y) (runs-said (after_of v) i s) (runs-said w j r)

  one-meets : meets_in v ≡ meets_inside (record { name = value_of v; items = i })
  unfolding meets_in meets_inside meets_inner
  one-meets =
      ap₂ either (ap (some_pair meets) (runs-said (after_of v) i s))
      (some-told (after_of v) i s (λ w. meets_some (after_of w) (after_of v)) (λ h. some (λ q. some (meets q) (own i)) (own h.items)) (λ w j m r. one-crossing (after_of w) j r))

-- what the chain needs of a group: whether it is on it, and its runs
pub record Link : Type 0 where
  pub on : Bool
  pub runs : List Run

link : Bool → List Run → Link
link b l = record { on = b; runs = l }

linked : List Link → List Run
linked [] = []
linked (l ∷ ls) = pick l.on l.runs [] ++ linked ls

link-in : List ℕ → List ℕ → Link
link-in asked v = link (on_chain_in asked v) (runs_in (after_of v))

link-of : List ℕ → Group → Link
link-of asked g = link (on_chain asked g) (own g.items)

linked-in : (asked : List ℕ) (vs : List (List ℕ)) → linked (map (link-in asked) vs) ≡ chain_in asked vs
unfolding linked link-in link chain_in
linked-in asked [] = refl
linked-in asked (v ∷ vs) = ap (λ (l : List Run). pick (on_chain_in asked v) (runs_in (after_of v)) [] ++ l) (linked-in asked vs)

linked_of : (asked : List ℕ) (gs : List Group) → linked (map (link-of asked) gs) ≡ chain asked gs
unfolding linked link-of link chain
linked_of asked [] = refl
linked_of asked (g ∷ gs) = ap (λ (l : List Run). pick (on_chain asked g) (own g.items) [] ++ l) (linked_of asked gs)

link-told : (asked v : List ℕ) (i : Items) → is_name v ≡ true → Says (after_of v) i → link-in asked v ≡ link-of asked (record { name = value_of v; items = i })
unfolding link-in link-of
link-told asked v i n s = ap₂ (λ (b : Bool) (l : List Run). link b l) (one-chain v i n s asked) (runs-said (after_of v) i s)

module _ (a : List ℕ) (t : Items) (s : Says a t) where
  pub beyond-told : (k : ℕ) → some (beyond_in k) (groups_in a) ≡ some (beyond k) (groups_of t)
  beyond-told k = some-told a t s (beyond_in k) (beyond k) (λ v i n r. one-beyond v i n r k)

  pub meets-told : some meets_in (groups_in a) ≡ some meets_inside (groups_of t)
  meets-told = some-told a t s meets_in meets_inside one-meets

  pub chain-told : (asked : List ℕ) → chain_in asked (groups_in a) ≡ chain asked (groups_of t)
  chain-told asked = sym (linked-in asked (groups_in a)) ∙ ap linked (collected (link-in asked) (link-of asked) (link-told asked) a t s) ∙ linked_of asked (groups_of t)
