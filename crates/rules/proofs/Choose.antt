-- Laws of choices by a test: what a test that passed or failed says, and which way is picked. Assumes nothing.
use mathlib.Core.Path.{◌≡◌, refl, sym, ap, ◌∙◌}
use mathlib.Core.Bool.{Bool, true, false, false≢true}
use Prim.Native.Nat.{ℕ, ◌≤◌, ◌<◌}
use lib.Dec.{leb}
use borrow.Author.Tests.{lt-ltb, le-ltb, le-leb, lt-leb, eq-eqb, ne_eqb, leb-true}
use Rattle.rules.specs.Choice.{pick, both, either, between}

-- a test from what the branch says
pub ruleset tests = (lt-ltb, le-ltb, le-leb, lt-leb, eq-eqb, ne_eqb)

-- a test or an answer that a call gave, said of what the call ensures
pub via {ℓ} : {A : Type ℓ} {a b c : A} → a ≡ b → a ≡ c → b ≡ c
via p q = sym p ∙ q

pub both_left : (a b : Bool) → both a b ≡ true → a ≡ true
both_left true b e = refl
both_left false b e = e

pub both_right : (a b : Bool) → both a b ≡ true → b ≡ true
both_right true b e = e
both_right false b e = absurd (false≢true e)

pub both_true : (a : Bool) → both a true ≡ a
both_true true = refl
both_true false = refl

pub both_false : (a : Bool) → both a false ≡ false
both_false true = refl
both_false false = refl

pub either-false : (a : Bool) → either a false ≡ a
either-false true = refl
either-false false = refl

-- where not even one holds, neither does
pub no-left : (a b : Bool) → either a b ≡ false → a ≡ false
no-left true b e = e
no-left false b e = refl

pub no-right : (a b : Bool) → either a b ≡ false → b ≡ false
no-right true b e = absurd (false≢true (sym e))
no-right false b e = e

pub both-assoc : (a b c : Bool) → both (both a b) c ≡ both a (both b c)
both-assoc true b c = refl
both-assoc false b c = refl

pub pick_yes {ℓ} : {A : Type ℓ} (b : Bool) (x y : A) → b ≡ true → pick b x y ≡ x
pick_yes b x y e = ap (λ (t : Bool). pick t x y) e

pub pick_no {ℓ} : {A : Type ℓ} (b : Bool) (x y : A) → b ≡ false → pick b x y ≡ y
pick_no b x y e = ap (λ (t : Bool). pick t x y) e

pub pick_same {ℓ} : {A : Type ℓ} (b : Bool) (x : A) → pick b x x ≡ x
pick_same true x = refl
pick_same false x = refl

-- what holds of both ways holds of the one that is picked
pub pick_all {ℓ} : {A : Type ℓ} (P : A → Type 0) (b : Bool) (x y : A) → (b ≡ true → P x) → (b ≡ false → P y) → P (pick b x y)
pick_all P true x y f g = f refl
pick_all P false x y f g = g refl

-- what a range test that passed says
pub in-range : (lo hi x : ℕ) → between lo hi x ≡ true → (lo ≤ x) × (x ≤ hi)
unfolding between
in-range lo hi x h = (leb-true lo x (both_left _ _ h), leb-true x hi (both_right (leb lo x) _ h))

-- and when it passes
pub is-between : (lo hi x : ℕ) → lo ≤ x → x ≤ hi → between lo hi x ≡ true
unfolding between
is-between lo hi x l h = rw (le-leb lo x l, le-leb x hi h)

-- and when it fails
pub below-range : (lo hi x : ℕ) → x < lo → between lo hi x ≡ false
unfolding between
below-range lo hi x h = rw (lt-leb lo x h) refl

pub above-range : (lo hi x : ℕ) → hi < x → between lo hi x ≡ false
unfolding between
above-range lo hi x h = rw (lt-leb x hi h) (both_false (leb lo x))
