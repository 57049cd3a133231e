-- What a typed number says, and where a typed text ends. Assumes nothing.
use Rattle.std.specs.Prelude.{ℕ, ◌+◌, ◌-◌, ◌*◌, ◌<◌, ◌≤◌, ◌≡◌, Bool, true, false, List, [], ◌∷◌, length, get_or, drop, eqb, ltb, leb, Option, Some, None}
use Rattle.rules.specs.Choice.{pick, both, between}

abbrev pub with_typed {ℓ} : {A : Type ℓ} → Option ℕ → (ℕ → A) → A → A
with_typed (Some n) f other = f n
with_typed None f other = other

-- the value of a digit in either case; 16 is no digit's
unfoldable pub digit_value : ℕ → ℕ
digit_value b = pick (between 48 57 b) (b - 48) (pick (between 65 70 b) (b - 55) (pick (between 97 102 b) (b - 87) 16))

-- hex or decimal
abbrev pub base : Bool → ℕ
base true = 16
base false = 10

-- a number and one digit more, where that is a digit and the number at most `most`
unfoldable pub with_digit : Bool → ℕ → ℕ → ℕ → Option ℕ
with_digit hex most v b =
    pick (both (ltb (digit_value b) (base hex)) (leb (v * base hex + digit_value b) most)) (Some (v * base hex + digit_value b)) None

-- digit by digit, going on from v
unfoldable pub up_to : Bool → ℕ → ℕ → List ℕ → Option ℕ
up_to hex most v [] = Some v
up_to hex most v (b ∷ bs) = with_typed (with_digit hex most v b) (λ w. up_to hex most w bs) None

-- a number has a digit at least
unfoldable pub number_up_to : Bool → ℕ → List ℕ → Option ℕ
number_up_to hex most [] = None
number_up_to hex most (b ∷ bs) = up_to hex most 0 (b ∷ bs)

abbrev pub either : Bool → Bool → Bool
either true b = true
either false b = b

-- `0x` or `0X`
unfoldable pub is_marked : List ℕ → Bool
is_marked s = both (eqb (get_or s 0 0) 48) (either (eqb (get_or s 1 0) 120) (eqb (get_or s 1 0) 88))

unfoldable pub typed_number : ℕ → List ℕ → Option ℕ
typed_number most s = pick (is_marked s) (number_up_to true most (drop 2 s)) (number_up_to false most s)

-- blank, tab, CR
unfoldable pub is_blank : ℕ → Bool
is_blank b = either (eqb b 32) (either (eqb b 9) (eqb b 13))

-- a text without the blanks at its end has n bytes: all behind them are blanks, and the last of them is none
abbrev pub EndsAt : List ℕ → ℕ → Type 0
EndsAt s n = (n ≤ length s) × ((k : ℕ) → n ≤ k → k < length s → is_blank (get_or s k 0) ≡ true) × (0 < n → is_blank (get_or s (n - 1) 0) ≡ false)
