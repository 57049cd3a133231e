-- Laws of the running value: what a field says where every character is a digit, and where one is none. Assumes nothing.
use mathlib.Core.Path.{◌≡◌, refl, sym, ap, ◌∙◌, subst}
use mathlib.Core.Bool.{true}
use mathlib.Core.List.{List, [], ◌∷◌}
use Prim.Native.Nat.{ℕ, zero, suc, ◌+◌, ◌-◌, ◌*◌, ◌^◌, ◌≤◌, ◌<◌}
use native.Mathlib.Nat.{add-zero, zero-add, suc-add, add-mul, mul_assoc, mul_comm, mul-one, add_assoc, pow-zero, pow-suc, mul-le-mul_right, lt_of_lt_of_le, le_of_suc-le-suc, not-suc-le-zero}
use native.Mathlib.Omega.{arith}
use native.Mathlib.Numerals.{add-one, one-add}
use lib.ListN.{length, drop, get_or}
use lib.Seq.{get_or-drop, drop-drop}
use Rattle.text_digits.specs.Digits.{with_digit, is_digit, onward, later, running}
use Rattle.text_digits.proofs.Values.{Digits}
use Rattle.text_digits.specs.declared.Digit.{Digit}
use Rattle.text_digits.specs.declared.Digit.TheVariants.{Is, NoDigit}
use Rattle.text_digits.specs.declared.Number.{Number}
use Rattle.text_digits.specs.declared.Number.TheVariants.{Value, NoDigitAt}

-- ---- one field behind another

later-0 : (m : Number) → later 0 m ≡ m
later-0 (Value n) = refl
later-0 (NoDigitAt p) = ap NoDigitAt (zero-add p)

later-1 : (j : ℕ) (m : Number) → later 1 (later j m) ≡ later (suc j) m
later-1 j (Value n) = refl
later-1 j (NoDigitAt p) = ap NoDigitAt (sym (add_assoc 1 j p) ∙ ap (λ (i : ℕ). i + p) (one-add j))

-- where what follows a field is a value, the field was one
pub with_value : (m : Number) (f : ℕ → Number) (n : ℕ) → onward m f ≡ Value n → (d : ℕ) × ((m ≡ Value d) × (f d ≡ Value n))
with_value (Value d) f n e = (d, (refl, e))
with_value (NoDigitAt p) f n e = let z : ◌≡◌ {A = ℕ} 0 1 = cc in absurd (omega arith)

pub later-value : (k : ℕ) (m : Number) (n : ℕ) → later k m ≡ Value n → m ≡ Value n
later-value k (Value d) n e = e
later-value k (NoDigitAt p) n e = let z : ◌≡◌ {A = ℕ} 0 1 = cc in absurd (omega arith)

pub later-onward : (k : ℕ) (m : Number) (f : ℕ → Number) → later k (onward m f) ≡ onward (later k m) (λ d. later k (f d))
later-onward k (Value d) f = refl
later-onward k (NoDigitAt p) f = refl

pub onward-same : (m : Number) (f g : ℕ → Number) → ((d : ℕ) → f d ≡ g d) → onward m f ≡ onward m g
onward-same (Value d) f g h = h d
onward-same (NoDigitAt p) f g h = refl

-- ---- one character, and what follows it

pub digit_value : (x : Digit) (f : ℕ → Number) (p n : ℕ) → with_digit x f (NoDigitAt p) ≡ Value n → (d : ℕ) × ((x ≡ Is d) × (f d ≡ Value n))
digit_value (Is d) f p n e = (d, (refl, e))
digit_value NoDigit f p n e = let z : ◌≡◌ {A = ℕ} 0 1 = cc in absurd (omega arith)

digit-onward : (x : Digit) (f g : ℕ → Number) (h : ℕ → Number) (p : ℕ) → ((d : ℕ) → f d ≡ onward (g d) h)
    → with_digit x f (NoDigitAt p) ≡ onward (with_digit x g (NoDigitAt p)) h
digit-onward (Is d) f g h p e = e d
digit-onward NoDigit f g h p e = refl

-- a place is that of this character, which is no digit, or of one that follows it
digit-place : (x : Digit) (f : ℕ → Number) (p : ℕ) (P : Type 0) → (x ≡ NoDigit → p ≡ 0 → P) → ((d q : ℕ) → x ≡ Is d → f d ≡ NoDigitAt q → p ≡ suc q → P)
    → with_digit x (λ d. later 1 (f d)) (NoDigitAt 0) ≡ NoDigitAt p → P
digit-place (Is d) f p P here behind e = on (f d) refl e
  where
    on : (m : Number) → f d ≡ m → later 1 m ≡ NoDigitAt p → P
    on (Value n) is e = let z : ◌≡◌ {A = ℕ} 0 1 = cc in absurd (omega arith)
    on (NoDigitAt q) is e = let z : 1 + q ≡ p = cc in behind d q refl is (sym z ∙ one-add q)
digit-place NoDigit f p P here behind e = let z : 0 ≡ p = cc in here refl (sym z)

-- ---- the running value

-- a field is its first characters and then the others
pub running-split : (base : ℕ) (value : ℕ → Digit) (j k v : ℕ) (s : List ℕ)
    → running base value v (j + k) s ≡ onward (running base value v j s) (λ w. later j (running base value w k (drop j s)))
unfolding running
running-split base value zero k v s = ap (λ (n : ℕ). running base value v n s) (zero-add k) ∙ sym (later-0 (running base value v k s))
running-split base value (suc j) k v s =
    ap (λ (n : ℕ). running base value v n s) (suc-add j k)
    ∙ digit-onward (value (get_or s 0 0)) _ (λ d. later 1 (running base value (v * base + d) j (drop 1 s))) (λ w. later (suc j) (running base value w k (drop (suc j) s))) 0
    (λ d. ap (later 1) (running-split base value j k (v * base + d) (drop 1 s))
    ∙ later-onward 1 (running base value (v * base + d) j (drop 1 s)) (λ w. later j (running base value w k (drop j (drop 1 s))))
    ∙ onward-same (later 1 (running base value (v * base + d) j (drop 1 s))) _ _
    (λ w. later-1 j (running base value w k (drop j (drop 1 s))) ∙ ap (λ (t : List ℕ). later (suc j) (running base value w k t)) (drop-drop j 1 s ∙ ap (λ (n : ℕ). drop n s) (one-add j))))

-- the character behind some that are digits
behind : (value : ℕ → Digit) (i : ℕ) (s : List ℕ) (x : Digit) → value (get_or s i 0) ≡ x → value (get_or (drop i s) 0 0) ≡ x
behind value i s x e = ap value (get_or-drop i s 0 0 ∙ ap (λ (j : ℕ). get_or s j 0) (add-zero i)) ∙ e

-- digits as far as i, and there a character that is none: the field says its place
pub running-stops : (base : ℕ) (value : ℕ → Digit) (i k v : ℕ) (s : List ℕ)
    → i < k → running base value 0 i s ≡ Value v → value (get_or s i 0) ≡ NoDigit → running base value 0 k s ≡ NoDigitAt i
unfolding running
running-stops base value i k v s h e none =
    let more : k ≡ i + suc (k - suc i) = omega arith in
    ap (λ (n : ℕ). running base value 0 n s) more
    ∙ running-split base value i (suc (k - suc i)) 0 s
    ∙ rw (e, behind value i s NoDigit none) (ap NoDigitAt (add-zero i))

-- one digit more at the end of a field: `base` times as much, and the digit
pub running-next : (base : ℕ) (value : ℕ → Digit) (k v d : ℕ) (s : List ℕ)
    → running base value 0 k s ≡ Value v → value (get_or s k 0) ≡ Is d → running base value 0 (k + 1) s ≡ Value (v * base + d)
unfolding running
running-next base value k v d s e h = running-split base value k 1 0 s ∙ rw (e, behind value k s (Is d) h)

-- where a field says a value, each of its characters is a digit
pub running-digits : (base : ℕ) (value : ℕ → Digit) (k v n : ℕ) (s : List ℕ) → running base value v k s ≡ Value n → (i : ℕ) → i < k → is_digit (value (get_or s i 0)) ≡ true
unfolding running
running-digits base value k v n s e i h =
    let more : i + suc (k - suc i) ≡ k = omega arith in
    let split = sym (running-split base value i (suc (k - suc i)) v s) ∙ ap (λ (j : ℕ). running base value v j s) more ∙ e in
    let on = with_value (running base value v i s) _ n split in
    let here = digit_value (value (get_or (drop i s) 0 0)) _ 0 n (later-value i (running base value on.0 (suc (k - suc i)) (drop i s)) n on.1.1) in
    ap is_digit (sym (behind value i s (value (get_or s i 0)) refl) ∙ here.1.0)

-- the value of some digits, going on from v
abbrev pub value_from : ℕ → ℕ → List ℕ → ℕ
value_from base v [] = v
value_from base v (d ∷ ds) = value_from base (v * base + d) ds

-- the characters from index i on are these digits
abbrev pub Says : (ℕ → Digit) → List ℕ → ℕ → List ℕ → Type 0
Says value s i [] = Unit {0}
Says value s i (d ∷ ds) = (value (get_or s i 0) ≡ Is d) × Says value s (suc i) ds

pub running-says : (base : ℕ) (value : ℕ → Digit) (ds : List ℕ) (i v : ℕ) (s : List ℕ) → Says value s i ds → running base value v (length ds) (drop i s) ≡ Value (value_from base v ds)
unfolding running
running-says base value [] i v s h = refl
running-says base value (d ∷ ds) i v s h =
    let next : drop 1 (drop i s) ≡ drop (suc i) s = drop-drop 1 i s ∙ ap (λ (j : ℕ). drop j s) (add-one i) in
    rw (behind value i s (Is d) h.0, next, running-says base value ds (suc i) (v * base + d) s h.1)

-- each of some digits is below the base
abbrev pub Below : ℕ → List ℕ → Type 0
Below base [] = Unit {0}
Below base (d ∷ ds) = (d < base) × Below base ds

pub says-below : {base : ℕ} {value : ℕ → Digit} {character : ℕ → ℕ} (D : Digits base value character) (ds : List ℕ) (i : ℕ) (s : List ℕ) → Says value s i ds → Below base ds
says-below D [] i s h = tt
says-below D (d ∷ ds) i s h = (D.small (get_or s i 0) d h.0, says-below D ds (suc i) s h.1)

-- what a field says fits its width
pub running-below : {base : ℕ} {value : ℕ → Digit} {character : ℕ → ℕ} (D : Digits base value character) (k v n : ℕ) (s : List ℕ)
    → running base value v k s ≡ Value n → n < (v + 1) * base ^ k
unfolding running
running-below {base} D zero v n s e = let w : v ≡ n = cc in rw (pow-zero base, mul-one) (omega arith)
running-below {base} {value} D (suc k) v n s e =
    let r = digit_value (value (get_or s 0 0)) _ 0 n e in
    let small : r.0 < base = D.small (get_or s 0 0) r.0 r.1.0 in
    let l : n < (v * base + r.0 + 1) * base ^ k = running-below D k (v * base + r.0) n (drop 1 s) (later-value 1 _ n r.1.1) in
    let m : v * base + r.0 + 1 ≤ (v + 1) * base = rw add-mul (omega arith) in
    let p : (v + 1) * base * base ^ k ≡ (v + 1) * base ^ suc k = mul_assoc (v + 1) base (base ^ k) ∙ ap (λ (x : ℕ). (v + 1) * x) (mul_comm base (base ^ k) ∙ sym (pow-suc base k)) in
    lt_of_lt_of_le l (subst (λ (x : ℕ). (v * base + r.0 + 1) * base ^ k ≤ x) p (mul-le-mul_right (base ^ k) m))

-- a place is within the field
pub running-within : (base : ℕ) (value : ℕ → Digit) (k v p : ℕ) (s : List ℕ) → running base value v k s ≡ NoDigitAt p → p < k
unfolding running
running-within base value zero v p s e = let z : ◌≡◌ {A = ℕ} 0 1 = cc in absurd (omega arith)
running-within base value (suc k) v p s e =
    digit-place (value (get_or s 0 0)) (λ d. running base value (v * base + d) k (drop 1 s)) p (p < suc k)
    (λ none here. omega arith)
    (λ d q is on behind. omega (arith, running-within base value k (v * base + d) q (drop 1 s) on))
    e

-- the character at a place is no digit, and each before it is one
abbrev pub FirstWrong : (ℕ → Digit) → List ℕ → ℕ → Type 0
FirstWrong value s p = (value (get_or s p 0) ≡ NoDigit) × ((i : ℕ) → i < p → is_digit (value (get_or s i 0)) ≡ true)

wrong-behind : (value : ℕ → Digit) (s : List ℕ) (q : ℕ) → is_digit (value (get_or s 0 0)) ≡ true → FirstWrong value (drop 1 s) q → FirstWrong value s (suc q)
wrong-behind value s q digit w = (ap value (sym (one_on q)) ∙ w.0, before)
  where
    one_on : (i : ℕ) → get_or (drop 1 s) i 0 ≡ get_or s (suc i) 0
    one_on i = get_or-drop 1 s i 0 ∙ ap (λ (j : ℕ). get_or s j 0) (one-add i)

    before : (i : ℕ) → i < suc q → is_digit (value (get_or s i 0)) ≡ true
    before zero h = digit
    before (suc i) h = ap (λ (x : ℕ). is_digit (value x)) (sym (one_on i)) ∙ w.1 i (le_of_suc-le-suc h)

-- a place is that of the first character that is no digit
pub running-wrong : (base : ℕ) (value : ℕ → Digit) (k v p : ℕ) (s : List ℕ) → running base value v k s ≡ NoDigitAt p → FirstWrong value s p
unfolding running
running-wrong base value zero v p s e = let z : ◌≡◌ {A = ℕ} 0 1 = cc in absurd (omega arith)
running-wrong base value (suc k) v p s e =
    digit-place (value (get_or s 0 0)) (λ d. running base value (v * base + d) k (drop 1 s)) p (FirstWrong value s p)
    (λ none here. subst (FirstWrong value s) (sym here) (none, λ i h. absurd (not-suc-le-zero h)))
    (λ d q is on behind.
    subst (FirstWrong value s) (sym behind) (wrong-behind value s q (ap is_digit is) (running-wrong base value k (v * base + d) q (drop 1 s) on)))
    e

-- going on from v: as many places further up
pub running-on : (base : ℕ) (value : ℕ → Digit) (k v w : ℕ) (s : List ℕ)
    → running base value (v + w) k s ≡ onward (running base value w k s) (λ n. Value (v * base ^ k + n))
unfolding running
running-on base value zero v w s = ap (λ (n : ℕ). Value (n + w)) (sym (mul-one v) ∙ ap (λ (p : ℕ). v * p) (sym (pow-zero base)))
running-on base value (suc k) v w s =
    let p : v * base * base ^ k ≡ v * base ^ suc k = mul_assoc v base (base ^ k) ∙ ap (λ (x : ℕ). v * x) (mul_comm base (base ^ k) ∙ sym (pow-suc base k)) in
    digit-onward (value (get_or s 0 0)) _ (λ d. later 1 (running base value (w * base + d) k (drop 1 s))) (λ n. Value (v * base ^ suc k + n)) 0
    (λ d. ap (λ (n : ℕ). later 1 (running base value (n + d) k (drop 1 s))) (add-mul v w base)
    ∙ ap (λ (n : ℕ). later 1 (running base value n k (drop 1 s))) (add_assoc (v * base) (w * base) d)
    ∙ ap (later 1) (running-on base value k (v * base) (w * base + d) (drop 1 s))
    ∙ later-onward 1 (running base value (w * base + d) k (drop 1 s)) (λ n. Value (v * base * base ^ k + n))
    ∙ ap (λ (q : ℕ). onward (later 1 (running base value (w * base + d) k (drop 1 s))) (λ n. Value (q + n))) p)
