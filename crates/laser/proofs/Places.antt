-- The place that is told with 13: one step a test, and at the end the law of the first character that is no digit, moved from the data to the frame.
-- Assumes nothing.
use mathlib.Core.Path.{◌≡◌, refl, sym, ap, subst, ◌∙◌}
use mathlib.Core.List.{List, [], ◌∷◌}
use mathlib.Core.Bool.{Bool, true, false, false≢true}
use Prim.Native.Nat.{ℕ, zero, suc, ◌+◌, ◌-◌, ◌≤◌, ◌<◌}
use native.Mathlib.Omega.{arith}
use borrow.Author.Tests.{eqb-true, eq-eqb, ltb-true, ltb-false, le-ltb, lt-ltb}
use lib.Dec.{eqb, ltb, lit<, lit≤}
use lib.ListN.{length, take, drop, get_or, length-take, length-drop}
use lib.Seq.{get_or-take, get_or-drop}
use Rattle.rules.specs.Characters.{slash, digit0, letter_d}
use Rattle.rules.specs.Tests.{first, ◌unless◌}
use Rattle.rules.proofs.Choose.{pick_all, pick_yes, pick_no, both_left, both_right}
use Rattle.text_digits.specs.Digits.{is_digit, or_place, decimal_value, decimal, decimals, digits_in}
use Rattle.text_digits.specs.declared.Number.{Number}
use Rattle.text_digits.specs.declared.Number.TheVariants.{Value, NoDigitAt}
use Rattle.text_digits.proofs.Values.{decimal-digits}
use Rattle.text_digits.proofs.Running.{running-within, running-digits, running-wrong}
use Rattle.text_digits.proofs.Back.{read_only}
use Rattle.laser.specs.Frame.{good_shape, good_check, data_of, Told, measures, unasked, declined, distance_at, distance_in, distance_of}
use Rattle.laser.specs.Statements.{right_form, distance_front, may_stand, WrongAt, WrongPlace}
use Rattle.laser.proofs.ReadFrames.{shape-digits}

-- a frame of a right shape begins with `/`
shape-begins : (f : List ℕ) → good_shape f ≡ true → get_or f 0 0 ≡ slash
unfolding good_shape
shape-begins f s =
    let r = shape-digits f s in
    eqb-true _ _ (both_left _ _ (both_right (eqb (length f) (8 + r.0)) _ (rw r.1.0 at s)))

-- where 13 is told, its place says this of the frame
abbrev Placed : List ℕ → Told → Type 0
Placed f r = (p : ℕ) → r ≡ unasked p → WrongAt f p

module _ (f : List ℕ) where
  placed-declined : (k : ℕ) → Placed f (declined k)
  placed-declined k p e = let z : ◌≡◌ {A = ℕ} 0 1 = cc in absurd (omega arith)

  placed-measures : (v : ℕ) → Placed f (measures v)
  placed-measures v p e = let z : ◌≡◌ {A = ℕ} 0 1 = cc in absurd (omega arith)

  placed_at : (j : ℕ) → WrongAt f j → Placed f (unasked j)
  placed_at j w p e = let same : j ≡ p = cc in subst (WrongAt f) same w

-- ---- one character is wrong

module _ (f : List ℕ) (s : good_shape f ≡ true) (right : right_form f ≡ true) where
  command-0 : get_or f 3 0 ≡ digit0
  command-0 = eqb-true _ _ (both_left _ _ right)

  command-D : get_or f 4 0 ≡ letter_d
  command-D = eqb-true _ _ (both_left _ _ (both_right (eqb (get_or f 3 0) digit0) _ right))

  six : length (data_of f) ≡ 6
  six = eqb-true _ _ (both_right (eqb (get_or f 4 0) letter_d) _ (both_right (eqb (get_or f 3 0) digit0) _ right))

  fourteen : length f ≡ 14
  fourteen = omega (arith, six, length-take (length f - 8) (drop 5 f), length-drop 5 f)

  front-digits : take 2 (drop 1 f) ≡ decimals 2 6
  front-digits =
      let r = shape-digits f s in
      let n : r.0 ≡ 6 = omega (arith, r.1.1, fourteen) in
      read_only decimal-digits (lit< tt) 2 6 (drop 1 f) (r.1.0 ∙ ap Value n)

  begins : (i : ℕ) → i < 5 → get_or f i 0 ≡ get_or distance_front i 0
  unfolding digits_in
  begins = cell
    where
      digit : (i : ℕ) → i < 2 → get_or f (1 + i) 0 ≡ get_or (decimals 2 6) i 0
      digit i h = sym (get_or-drop 1 f i 0) ∙ sym (get_or-take 2 (drop 1 f) i 0 h) ∙ ap (λ (t : List ℕ). get_or t i 0) front-digits

      cell : (i : ℕ) → i < 5 → get_or f i 0 ≡ get_or distance_front i 0
      cell zero h = shape-begins f s
      cell (suc zero) h = digit 0 (lit< tt)
      cell (suc (suc zero)) h = digit 1 (lit< tt)
      cell (suc (suc (suc zero))) h = command-0
      cell (suc (suc (suc (suc zero)))) h = command-D
      cell (suc (suc (suc (suc (suc i))))) h = absurd (omega arith)

  -- the data begins at the fifth place of a frame
  data-cell : (i j : ℕ) → i ≡ 5 + j → j < 6 → get_or f i 0 ≡ get_or (data_of f) j 0
  data-cell i j e h =
      ap (λ (k : ℕ). get_or f k 0) e ∙ sym (get_or-drop 5 f j 0) ∙ sym (get_or-take (length f - 8) (drop 5 f) j 0 (omega (arith, fourteen)))

  -- the front, and digits as far as k
  stands-before : (k : ℕ) → k ≤ 5 → ((j : ℕ) → j < k → is_digit (decimal_value (get_or (data_of f) j 0)) ≡ true) → (i : ℕ) → i < 5 + k → may_stand i (get_or f i 0) ≡ true
  stands-before k most digits i h =
      pick_all (λ (b : Bool). b ≡ true) (ltb i 5) _ _
      (λ t. eq-eqb _ _ (begins i (ltb-true i 5 t)))
      (λ t.
      let over : 5 ≤ i = ltb-false i 5 t in
      pick_yes (ltb i 10) _ _ (lt-ltb i 10 (omega arith))
      ∙ ap (λ (x : ℕ). is_digit (decimal_value x)) (data-cell i (i - 5) (omega arith) (omega arith))
      ∙ digits (i - 5) (omega arith))

  wrong-behind : (k : ℕ) → k ≤ 5 → ((j : ℕ) → j < k → is_digit (decimal_value (get_or (data_of f) j 0)) ≡ true) → may_stand (5 + k) (get_or f (5 + k) 0) ≡ false → WrongAt f (5 + k)
  wrong-behind k most digits wrong =
      record {
        shape = s;
        within = omega (arith, fourteen);
        one-wrong = λ _. right;
        form-right = λ _. omega (arith, fourteen);
        there = λ _. wrong;
        before = λ _. stands-before k most digits;
      }

  digit-wrong : (j : ℕ) → decimal 5 (data_of f) ≡ NoDigitAt j → WrongAt f (5 + j)
  digit-wrong j e =
      let small : j < 5 = running-within 10 decimal_value 5 0 j (data_of f) e in
      let found = running-wrong 10 decimal_value 5 0 j (data_of f) e in
      wrong-behind j (omega arith) found.1
      (pick_no (ltb (5 + j) 5) _ _ (le-ltb (5 + j) 5 (omega arith))
      ∙ pick_yes (ltb (5 + j) 10) _ _ (lt-ltb (5 + j) 10 (omega arith))
      ∙ ap (λ (x : ℕ). is_digit (decimal_value x)) (data-cell (5 + j) j refl (omega arith))
      ∙ ap is_digit found.0)

  nul-wrong : (v : ℕ) → decimal 5 (data_of f) ≡ Value v → eqb (get_or (data_of f) 5 0) 0 ≡ false → WrongAt f 10
  nul-wrong v e wrong =
      wrong-behind 5 (lit≤ tt) (running-digits 10 decimal_value 5 0 v (data_of f) e) (ap (λ (x : ℕ). eqb x 0) (data-cell 10 5 refl (lit< tt)) ∙ wrong)

  placed-told : (m : Number) → decimal 5 (data_of f) ≡ m
      → Placed f (or_place m (λ v. first unasked ((10 unless eqb (get_or (data_of f) 5 0) 0) ∷ []) (measures v)) (λ p. unasked (5 + p)))
  placed-told (Value v) is =
      pick_all (Placed f) (eqb (get_or (data_of f) 5 0) 0) _ _ (λ _. placed-measures f v) (λ wrong. placed_at f 10 (nul-wrong v is wrong))
  placed-told (NoDigitAt j) is = placed_at f (5 + j) (digit-wrong j is)

-- ---- test by test

-- the form is wrong, and the place is the frame's end
no_place : (f : List ℕ) → good_shape f ≡ true → right_form f ≡ false → Placed f (unasked (length f))
no_place f s wrong =
    placed_at f (length f)
    (record {
      shape = s;
      within = omega arith;
      one-wrong = λ h. absurd (omega (arith, h));
      form-right = λ right. absurd (false≢true (sym wrong ∙ right));
      there = λ h. absurd (omega (arith, h));
      before = λ h. absurd (omega (arith, h));
    })

placed-in : (f : List ℕ) → good_shape f ≡ true → Placed f (distance_in (length f) (get_or f 3 0) (get_or f 4 0) (data_of f))
unfolding distance_in distance_at
placed-in f s =
    pick_all (Placed f) (eqb (get_or f 3 0) digit0) _ _
    (λ zeroth. pick_all (Placed f) (eqb (get_or f 4 0) letter_d) _ _
    (λ lettered. pick_all (Placed f) (eqb (length (data_of f)) 6) _ _
    (λ sized. placed-told f s (rw (zeroth, lettered) sized) (decimal 5 (data_of f)) refl)
    (λ sized. no_place f s (rw (zeroth, lettered, sized))))
    (λ lettered. no_place f s (rw (zeroth, lettered))))
    (λ zeroth. no_place f s (rw zeroth))

pub wrong-place : WrongPlace
unfolding distance_of
wrong-place f =
    pick_all (Placed f) (good_shape f) _ _
    (λ s. pick_all (Placed f) (good_check f) _ _ (λ _. placed-in f s) (λ _. placed-declined f 11))
    (λ _. placed-declined f 10)
