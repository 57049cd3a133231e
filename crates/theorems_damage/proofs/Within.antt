-- Where two frames differ, computed: each bit of their bytes is the same in both or lies in a range, and past the bytes all are 0. Assumes nothing.
use mathlib.Core.Bool.{Bool, true}
use mathlib.Core.List.{List}
use mathlib.Core.Logic.{◌≢◌, ◌⊎◌, inl, inr}
use mathlib.Core.Path.{◌≡◌, sym, ap, ◌∙◌}
use Prim.Native.Nat.{ℕ, zero, suc, ◌*◌, ◌/◌, ◌%◌, ◌^◌, ◌≤◌, ◌<◌}
use native.Mathlib.Omega.{arith}
use borrow.Author.Tests.{ne_eqb}
use lib.Dec.{eqb}
use lib.ListN.{length, get_or-eq_default}
use Rattle.rules.specs.Choice.{pick, both, between}
use Rattle.rules.proofs.Choose.{pick_no, both_left, both_right, in-range}
use Rattle.checks_shared.specs.Line.{bit_at}
use Rattle.checks_shared.proofs.Bits.{le-or-lt}

module _ (f g : List ℕ) (lo hi : ℕ) where
  -- bit k is the same in both, or in the range
  abbrev pub fine : ℕ → Bool
  fine k = pick (eqb (bit_at f k) (bit_at g k)) true (between lo hi k)

  unfoldable pub below : ℕ → Bool
  below zero = true
  below (suc n) = both (fine n) (below n)

  below_at : (n k : ℕ) → below n ≡ true → k < n → fine k ≡ true
  unfolding below
  below_at zero k e h = absurd (omega arith)
  below_at (suc n) k e h = go (below_at n k (both_right (fine n) (below n) e)) (le-or-lt n k)
    where
      go : (k < n → fine k ≡ true) → (n ≤ k) ⊎ (k < n) → fine k ≡ true
      go ih (inl p) = let q : n ≡ k = omega arith in ap fine (sym q) ∙ both_left (fine n) (below n) e
      go ih (inr p) = ih p

  -- past the last byte both are 0
  past : (n k : ℕ) → length f ≤ n → length g ≤ n → 8 * n ≤ k → bit_at f k ≡ bit_at g k
  unfolding bit_at
  past n k lf lg h =
      let a : length f ≤ k / 8 = omega arith in
      let b : length g ≤ k / 8 = omega arith in
      ap (λ (x : ℕ). x / 2 ^ (k % 8) % 2) (get_or-eq_default f 0 a ∙ sym (get_or-eq_default g 0 b))

  pub differ-within : (n : ℕ) → length f ≤ n → length g ≤ n → below (8 * n) ≡ true → (k : ℕ) → bit_at f k ≢ bit_at g k → (lo ≤ k) × (k ≤ hi)
  differ-within n lf lg e k d = go (le-or-lt (8 * n) k)
    where
      go : (8 * n ≤ k) ⊎ (k < 8 * n) → (lo ≤ k) × (k ≤ hi)
      go (inl h) = absurd (d (past n k lf lg h))
      go (inr h) = in-range lo hi k (sym (pick_no (eqb (bit_at f k) (bit_at g k)) true (between lo hi k) (ne_eqb _ _ d)) ∙ below_at (8 * n) k e h)
