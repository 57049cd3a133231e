-- What a frame that the reader takes is known to have. Assumes nothing.
use mathlib.Core.Path.{◌≡◌, refl, sym, ap, ◌∙◌}
use mathlib.Core.List.{List}
use mathlib.Core.Bool.{Bool, true, false, false≢true}
use Prim.Native.Nat.{ℕ, ◌+◌, ◌-◌, ◌≤◌}
use native.Mathlib.Omega.{arith}
use borrow.Author.Tests.{eqb-true}
use lib.Dec.{eqb}
use lib.ListN.{length, get_or, drop}
use Rattle.rules.specs.Choice.{pick}
use Rattle.rules.specs.Characters.{slash, period}
use Rattle.rules.proofs.Choose.{pick_all, both_left, both_right}
use Rattle.text_digits.specs.Digits.{with_number, decimal}
use Rattle.text_digits.specs.declared.Number.{Number}
use Rattle.text_digits.specs.declared.Number.TheVariants.{Value, NoDigitAt}
use Rattle.laser.specs.Frame.{good_shape, good_check, data_of, Read, frame, none, read, bytes_of, given, Told, declined, distance_in, distance_of}
use Rattle.laser.specs.declared.Reading.{Reading}

with-true : (m : Number) (g : ℕ → Bool) → with_number m g false ≡ true → (n : ℕ) × ((m ≡ Value n) × (g n ≡ true))
with-true (Value n) g e = (n, (refl, e))
with-true (NoDigitAt _) g e = absurd (false≢true e)

-- the digits of a right shape say its length
pub shape-digits : (f : List ℕ) → good_shape f ≡ true → (n : ℕ) × ((decimal 2 (drop 1 f) ≡ Value n) × (length f ≡ 8 + n))
unfolding good_shape
shape-digits f e =
    let r = with-true (decimal 2 (drop 1 f)) _ e in
    (r.0, (r.1.0, eqb-true (length f) (8 + r.0) (both_left _ _ r.1.1)))

pub shape-long : (f : List ℕ) → good_shape f ≡ true → 8 ≤ length f
shape-long f e = omega (arith, (shape-digits f e).1.1)

-- a frame of a right shape ends in `.`
pub shape-ends : (f : List ℕ) → good_shape f ≡ true → get_or f (length f - 1) 0 ≡ period
unfolding good_shape
shape-ends f e =
    let r = with-true (decimal 2 (drop 1 f)) _ e in
    let a = both_right (eqb (length f) (8 + r.0)) _ r.1.1 in
    eqb-true _ _ (both_right (eqb (get_or f 0 0) slash) _ a)

-- a frame that is read has its eight characters, and its data between them
pub read_is : (f : List ℕ) (a b : ℕ) (d : List ℕ) → read f ≡ frame a b d → (d ≡ data_of f) × (8 ≤ length f)
unfolding read
read_is f a b d =
    pick_all (λ r. r ≡ frame a b d → (d ≡ data_of f) × (8 ≤ length f)) (good_shape f) _ _
    (λ s. pick_all (λ r. r ≡ frame a b d → (d ≡ data_of f) × (8 ≤ length f)) (good_check f) _ _
    (λ _ e. (cc, shape-long f s))
    (λ _ e. let z : ◌≡◌ {A = ℕ} 0 1 = cc in absurd (omega arith)))
    (λ _ e. let z : ◌≡◌ {A = ℕ} 0 1 = cc in absurd (omega arith))

-- what the reader's answer says of the frame
pub told : (f : List ℕ) (r s : Reading) → given r (bytes_of (read f)) ≡ read f → r ≡ s → read f ≡ given s (bytes_of (read f))
told f r s e h = sym e ∙ ap (λ (x : Reading). given x (bytes_of (read f))) h

-- ---- the distance

-- what was read says the distance
abbrev pub distance_read : ℕ → Read → Told
distance_read end (frame a b d) = distance_in end a b d
distance_read end (none k) = declined k

pub distance_read-is : (f : List ℕ) → distance_of f ≡ distance_read (length f) (read f)
unfolding distance_of read
distance_read-is f = picked (good_shape f) (good_check f)
  where
    picked : (shape check : Bool)
        → pick shape (pick check (distance_in (length f) (get_or f 3 0) (get_or f 4 0) (data_of f)) (declined 11)) (declined 10)
        ≡ distance_read (length f) (pick shape (pick check (frame (get_or f 3 0) (get_or f 4 0) (data_of f)) (none 11)) (none 10))
    picked true true = refl
    picked true false = refl
    picked false check = refl
