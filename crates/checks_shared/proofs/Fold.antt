-- Laws of a fold over bytes: a loop that takes each byte in, one list after another, and what every step keeps.
-- Assumes nothing.
use mathlib.Core.List.{List, [], ◌∷◌, ◌++◌}
use mathlib.Core.Path.{◌≡◌, refl, sym}
use Prim.Native.Nat.{ℕ, ◌+◌, ◌%◌, ◌≤◌, ◌<◌}
use lib.ListN.{length, drop, get_or}
use Rattle.text_slices.proofs.Walk.{step, stop}
use Rattle.checks_shared.specs.Fold.{fold}
use Rattle.checks_shared.specs.Line.{Bytes}

-- the step of the LRC's sum
abbrev pub add : ℕ → ℕ → ℕ
add s b = (s + b) % 256

module _ (g : ℕ → ℕ → ℕ) (r : ℕ) (f : List ℕ) (i : ℕ) where
  pub fold-turn : i < length f → fold g (g r (get_or f i 0)) (drop (i + 1) f) ≡ fold g r (drop i f)
  unfolding fold
  fold-turn h = sym (step (fold g r) f i h)

  pub fold_end : length f ≤ i → fold g r (drop i f) ≡ r
  unfolding fold
  fold_end h = stop (fold g r) f i h

pub fold-append : (g : ℕ → ℕ → ℕ) (r : ℕ) (x y : List ℕ) → fold g r (x ++ y) ≡ fold g (fold g r x) y
unfolding fold
fold-append g r [] y = refl
fold-append g r (a ∷ x) y = fold-append g (g r a) x y

-- what the start is below, and every step keeps below, the result is below
pub fold-lt : (g : ℕ → ℕ → ℕ) (n : ℕ) → ((r b : ℕ) → r < n → b < 256 → g r b < n)
    → (r : ℕ) (bs : List ℕ) → r < n → Bytes bs → fold g r bs < n
unfolding fold Bytes
fold-lt g n k r [] h t = h
fold-lt g n k r (b ∷ bs) h t = fold-lt g n k (g r b) bs (k r b h t.0) t.1

-- A step that loses neither the value so far nor the byte shows one changed byte.
module _ (g : ℕ → ℕ → ℕ) (n : ℕ) (keeps : (r b : ℕ) → r < n → b < 256 → g r b < n)
    (left : (s t b : ℕ) → s < n → t < n → g s b ≡ g t b → s ≡ t) (right : (r a b : ℕ) → a < 256 → b < 256 → g r a ≡ g r b → a ≡ b) where
  fold_start : (s t : ℕ) (bs : List ℕ) → s < n → t < n → Bytes bs → fold g s bs ≡ fold g t bs → s ≡ t
  unfolding fold Bytes
  fold_start s t [] hs ht k e = e
  fold_start s t (b ∷ bs) hs ht k e = left s t b hs ht (fold_start (g s b) (g t b) bs (keeps s b hs k.0) (keeps t b ht k.0) k.1 e)

  pub fold-one : (r : ℕ) (before after : List ℕ) (x y : ℕ) → r < n → Bytes (before ++ (x ∷ after)) → Bytes (before ++ (y ∷ after))
      → fold g r (before ++ (x ∷ after)) ≡ fold g r (before ++ (y ∷ after)) → x ≡ y
  unfolding fold Bytes
  fold-one r [] after x y h bx by e =
      right r x y bx.0 by.0 (fold_start (g r x) (g r y) after (keeps r x h bx.0) (keeps r y h by.0) bx.1 e)
  fold-one r (b ∷ before) after x y h bx by e = fold-one (g r b) before after x y (keeps r b h bx.0) bx.1 by.1 e
