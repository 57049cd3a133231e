-- A front followed by its LRC is right. Assumes nothing.
use mathlib.Core.Bool.{true}
use mathlib.Core.List.{List, [], ◌∷◌, ◌++◌}
use mathlib.Core.Path.{◌≡◌, ◌∙◌}
use Prim.Native.Nat.{ℕ, ◌+◌, ◌%◌, ◌<◌}
use native.Mathlib.Omega.{arith}
use borrow.Author.Tests.{eq-eqb}
use lib.Dec.{lit<}
use Rattle.checks_shared.specs.Fold.{fold}
use Rattle.checks_shared.proofs.Fold.{add, fold-append}
use Rattle.checks_lrc.specs.Lrc.{sum_of, lrc_of, right_lrc}

sum_lt : (s : ℕ) (m : List ℕ) → s < 256 → fold add s m < 256
unfolding fold
sum_lt s [] h = h
sum_lt s (b ∷ m) h = sum_lt (add s b) m (omega arith)

-- the sum with one byte more
sum-snoc : (m : List ℕ) (x : ℕ) → sum_of (m ++ (x ∷ [])) ≡ (sum_of m + x) % 256
unfolding fold
sum-snoc m x = fold-append add 0 m (x ∷ [])

pub lrc-closes : (m : List ℕ) → right_lrc (m ++ (lrc_of m ∷ [])) ≡ true
lrc-closes m = eq-eqb _ 0 (sum-snoc m (lrc_of m) ∙ omega (arith, sum_lt 0 m (lit< tt)))
