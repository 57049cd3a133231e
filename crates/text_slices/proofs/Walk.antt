-- A function of what is left of a list, as a loop walks along it. Assumes nothing.
use mathlib.Core.Bool.{Bool, true}
use mathlib.Core.Path.{◌≡◌, sym, ap, ◌∙◌}
use mathlib.Core.List.{List, [], ◌∷◌}
use Prim.Native.Nat.{ℕ, ◌+◌, ◌≤◌, ◌<◌}
use native.Mathlib.Numerals.{add-one}
use lib.ListN.{length, drop, get_or, drop_of_length-le}
use lib.Seq.{drop-cons}
use Rattle.rules.specs.Choice.{both}
use Rattle.rules.proofs.Choose.{both_true, both-assoc}

-- one step on
pub step {ℓ} : {B : Type ℓ} (f : List ℕ → B) (s : List ℕ) (i : ℕ) → i < length s → f (drop i s) ≡ f (get_or s i 0 ∷ drop (i + 1) s)
step f s i h = ap f (drop-cons s i 0 h ∙ ap (λ (n : ℕ). get_or s i 0 ∷ drop n s) (sym (add-one i)))

-- at the end
pub stop {ℓ} : {B : Type ℓ} (f : List ℕ → B) (s : List ℕ) (i : ℕ) → length s ≤ i → f (drop i s) ≡ f []
stop f s i h = ap f (drop_of_length-le s h)

-- a test of every element, one at a time without a way out: the element at i joins what was seen
pub joins : (all : List ℕ → Bool) (p : ℕ → Bool) → ((x : ℕ) (xs : List ℕ) → all (x ∷ xs) ≡ both (p x) (all xs)) → (i : ℕ) (s : List ℕ) (fine t seen : Bool)
    → i < length s → t ≡ p (get_or s i 0) → seen ≡ both fine t → both seen (all (drop (i + 1) s)) ≡ both fine (all (drop i s))
joins all p each i s fine t seen h e f =
    let left = all (drop (i + 1) s) in
    ap (λ (x : Bool). both x left) f ∙ both-assoc fine t left
    ∙ ap (both fine) (ap (λ (x : Bool). both x left) e ∙ sym (each (get_or s i 0) (drop (i + 1) s)) ∙ sym (step all s i h))

-- and what was seen of all is the answer
pub joined : (all : List ℕ → Bool) → all [] ≡ true → (i : ℕ) (s : List ℕ) (fine : Bool) → length s ≤ i → both fine (all (drop i s)) ≡ all s → fine ≡ all s
joined all none i s fine h e = sym (both_true fine) ∙ ap (both fine) (sym (stop all s i h ∙ none)) ∙ e
