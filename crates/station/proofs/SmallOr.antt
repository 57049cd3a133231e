-- The or of bytes is at most 3 where each is, in one place or in many lanes. Assumes nothing.
use borrow.Author.Tests.{le-leb, lt-leb, leb-true, leb-false}
use mathlib.Core.Bool.{Bool, true, false}
use mathlib.Core.List.{List, [], ◌∷◌}
use mathlib.Core.Path.{◌≡◌, refl, sym, ap, ◌∙◌}
use Prim.Native.Nat.{ℕ, zero, suc, ◌+◌, ◌<◌, zero-le}
use native.Mathlib.Omega.{arith}
use lib.Bits.{bit_or, or_lt, or_add_and, and_le_l, and_le_r}
use lib.Dec.{leb}
use lib.ListN.{length, drop, get_or, set}
use Rattle.rules.specs.Choice.{both, between, all_between}
use Rattle.rules.proofs.Choose.{both-assoc}
use Rattle.text_slices.proofs.Walk.{step}

-- an or is at most 3 where both are
or-small : (a x : ℕ) (s t : Bool) → leb a 3 ≡ s → leb x 3 ≡ t → leb (bit_or a x) 3 ≡ both s t
or-small a x true true p q = le-leb (bit_or a x) 3 (omega (arith, or_lt 2 a x (omega (arith, leb-true a 3 p)) (omega (arith, leb-true x 3 q))))
or-small a x true false p q = lt-leb (bit_or a x) 3 (omega (arith, or_add_and a x, and_le_l a x, leb-false x 3 q))
or-small a x false t p q = lt-leb (bit_or a x) 3 (omega (arith, or_add_and a x, and_le_r a x, leb-false a 3 p))

from-0 : (x : ℕ) → leb x 3 ≡ between 0 3 x
unfolding between
from-0 x = rw (le-leb 0 x zero-le)

pub or-between : (a x : ℕ) → leb (bit_or a x) 3 ≡ both (leb a 3) (between 0 3 x)
or-between a x = or-small a x (leb a 3) (leb x 3) refl refl ∙ ap (both (leb a 3)) (from-0 x)

both-last : (a b c : Bool) → both (both a b) c ≡ both (both a c) b
both-last false b c = refl
both-last true true true = refl
both-last true true false = refl
both-last true false true = refl
both-last true false false = refl

-- an or into one of many
or_set : (l : List ℕ) (j x : ℕ) → j < length l → all_between 0 3 (set l j (bit_or (get_or l j 0) x)) ≡ both (all_between 0 3 l) (between 0 3 x)
unfolding all_between
or_set [] j x h = absurd (omega arith)
or_set (y ∷ l) zero x h =
    ap (λ (t : Bool). both t (all_between 0 3 l)) (sym (from-0 (bit_or y x)) ∙ or-between y x ∙ ap (λ (t : Bool). both t (between 0 3 x)) (from-0 y))
    ∙ both-last (between 0 3 y) (between 0 3 x) (all_between 0 3 l)
or_set (y ∷ l) (suc j) x h =
    ap (both (between 0 3 y)) (or_set l j x (omega arith)) ∙ sym (both-assoc (between 0 3 y) (all_between 0 3 l) (between 0 3 x))

-- one byte goes from what is left into a lane: which lane says nothing
pub lane-turn : (l s : List ℕ) (j i : ℕ) → j < length l → i < length s
    → both (all_between 0 3 (set l j (bit_or (get_or l j 0) (get_or s i 0)))) (all_between 0 3 (drop (i + 1) s)) ≡ both (all_between 0 3 l) (all_between 0 3 (drop i s))
unfolding all_between
lane-turn l s j i h k =
    ap (λ (t : Bool). both t (all_between 0 3 (drop (i + 1) s))) (or_set l j (get_or s i 0) h)
    ∙ both-assoc (all_between 0 3 l) (between 0 3 (get_or s i 0)) (all_between 0 3 (drop (i + 1) s))
    ∙ ap (both (all_between 0 3 l)) (sym (step (all_between 0 3) s i k))
