-- Laws of numbers as they are read, digit by digit. Assumes nothing.
use mathlib.Core.Path.{◌≡◌, refl, sym, ap, ◌∙◌}
use mathlib.Core.Bool.{Bool, true}
use mathlib.Core.List.{List, [], ◌∷◌}
use Prim.Native.Nat.{ℕ, ◌+◌, ◌*◌, ◌≤◌, ◌<◌}
use native.Mathlib.Omega.{arith}
use lib.Dec.{leb}
use lib.ListN.{length, drop, get_or}
use borrow.Author.Tests.{lt-ltb, le-ltb, le-leb, lt-leb}
use Rattle.rules.specs.Choice.{both}
use Rattle.rules.proofs.Choose.{pick_yes, pick_no}
use Rattle.text_slices.proofs.Walk.{step, stop}
use Rattle.std.proofs.Common.{Some, None}
use Rattle.tools_typed.specs.Typed.{with_typed, digit_value, base, with_digit, up_to, number_up_to}

-- no digit of the base
pub no_digit : (hex : Bool) (most v b d n : ℕ) → d ≡ digit_value b → n ≡ base hex → n ≤ d → None ≡ with_digit hex most v b
unfolding with_digit
no_digit hex most v b d n e f h =
    let over : base hex ≤ digit_value b = omega (arith, e, f, h) in
    sym (pick_no _ _ _ (ap (λ (t : Bool). both t (leb (v * base hex + digit_value b) most)) (le-ltb (digit_value b) (base hex) over)))

both-last : (a b : Bool) → a ≡ true → both a b ≡ b
both-last a b e = ap (λ (t : Bool). both t b) e

-- more than the most
pub too_much : (hex : Bool) (most v b d n m : ℕ) → d ≡ digit_value b → n ≡ base hex → m ≡ v * base hex → d < n → most < m + d → None ≡ with_digit hex most v b
unfolding with_digit
too_much hex most v b d n m e f g h k =
    let under : digit_value b < base hex = omega (arith, e, f, h) in
    let sum : m + d ≡ v * base hex + digit_value b = ap (λ (x : ℕ). x + d) g ∙ ap (λ (y : ℕ). v * base hex + y) e in
    let over : most < v * base hex + digit_value b = omega (arith, sum, k) in
    sym (pick_no _ _ _ (both-last _ _ (lt-ltb (digit_value b) (base hex) under) ∙ lt-leb (v * base hex + digit_value b) most over))

-- a digit, and not too much
pub one_more : (hex : Bool) (most v b d n m : ℕ) → d ≡ digit_value b → n ≡ base hex → m ≡ v * base hex → d < n → m + d ≤ most → Some (m + d) ≡ with_digit hex most v b
unfolding with_digit
one_more hex most v b d n m e f g h k =
    let under : digit_value b < base hex = omega (arith, e, f, h) in
    let sum : m + d ≡ v * base hex + digit_value b = ap (λ (x : ℕ). x + d) g ∙ ap (λ (y : ℕ). v * base hex + y) e in
    let within : v * base hex + digit_value b ≤ most = omega (arith, sum, k) in
    ap Some sum
    ∙ sym (pick_yes _ _ _ (both-last _ _ (lt-ltb (digit_value b) (base hex) under) ∙ le-leb (v * base hex + digit_value b) most within))

-- one digit on
pub up-to-step : (hex : Bool) (most v i : ℕ) (s : List ℕ) → i < length s
    → up_to hex most v (drop i s) ≡ with_typed (with_digit hex most v (get_or s i 0)) (λ w. up_to hex most w (drop (i + 1) s)) None
unfolding up_to
up-to-step hex most v i s h = step (up_to hex most v) s i h

-- at the end
pub up-to-stop : (hex : Bool) (most v i : ℕ) (s : List ℕ) → length s ≤ i → up_to hex most v (drop i s) ≡ Some v
unfolding up_to
up-to-stop hex most v i s h = stop (up_to hex most v) s i h

-- a text that is not empty says what its digits say, from 0 on
pub some-digits : (hex : Bool) (most : ℕ) (s : List ℕ) → (length s ≡ 0 → ⊥) → number_up_to hex most s ≡ up_to hex most 0 s
unfolding number_up_to
some-digits hex most [] h = absurd (h refl)
some-digits hex most (x ∷ xs) h = refl

pub no-digits : (hex : Bool) (most : ℕ) (s : List ℕ) → length s ≡ 0 → number_up_to hex most s ≡ None
unfolding number_up_to
no-digits hex most [] h = refl
no-digits hex most (x ∷ xs) h = let z : 0 < length (x ∷ xs) = search arith in absurd (omega (arith, h, z))
