-- The place that is told with 13: one step a test, and at the end the laws of the first character that is no hex digit and of the first that may not
-- stand in data, moved from the text to the frame. Assumes nothing.
use mathlib.Core.Path.{◌≡◌, refl, sym, ap, subst, ◌∙◌}
use mathlib.Core.List.{List, [], ◌∷◌}
use mathlib.Core.Bool.{Bool, true, false, false≢true}
use Prim.Native.Nat.{ℕ, zero, suc, ◌+◌, ◌-◌, ◌≤◌, ◌<◌}
use native.Mathlib.Nat.{le_of_suc-le-suc}
use native.Mathlib.Numerals.{one-add}
use native.Mathlib.Omega.{arith}
use borrow.Author.Tests.{eqb-true, eqb-false, eq-eqb, ltb-true, ltb-false, le-ltb}
use lib.Dec.{eqb, ltb, lit<}
use lib.ListN.{length, take, drop, get_or, length-take, length-drop}
use lib.Seq.{get_or-take, get_or-drop}
use Rattle.rules.specs.Choice.{pick, between}
use Rattle.rules.specs.Characters.{bang, dollar}
use Rattle.rules.proofs.Choose.{pick_all, pick_yes, pick_no, both_left, both_right}
use Rattle.text_slices.proofs.First.{first-within, first-before, first-fails}
use Rattle.text_digits.specs.Digits.{is_digit, or_place, with_number, decimal, decimals, digits_in}
use Rattle.text_digits.specs.declared.Number.{Number}
use Rattle.text_digits.specs.declared.Number.TheVariants.{Value, NoDigitAt}
use Rattle.text_digits.proofs.Values.{decimal-digits}
use Rattle.text_digits.proofs.Running.{running-within, running-wrong}
use Rattle.text_digits.proofs.Back.{read_only}
use Rattle.text_hex.specs.Hex.{hex_value, hex}
use Rattle.mewtocol_frame.specs.Frame.{limits_in, highest, good_shape, good_check, for_station, text_of, opening}
use Rattle.mewtocol_frame.specs.Text.{starts}
use Rattle.mewtocol_frame.specs.declared.Limits.{Limits}
use Rattle.mewtocol_requests.specs.Requests.{Request, read_contacts, write_contacts, read_range, write_range, fill, letters}
use Rattle.mewtocol_asking.specs.Asking.{request_in, can_ask}
use Rattle.mewtocol_asking.proofs.Tests.{tests-are}
use Rattle.mewtocol_reader.specs.Replies.{Read, refused, error, unasked, data_size, tells_contacts, allowed, first_wrong, error_in, data_in, reply_in, form_reply, read_frame, read, data_of}
use Rattle.mewtocol_reader.specs.Statements.{right_text, right_form, may_stand, WrongAt, WrongPlace}
use Rattle.mewtocol_reader.proofs.Shows.{text-short}

-- ---- what stands where

-- the digits of a station's frame are its own
station-digits : (from : ℕ) (f : List ℕ) → for_station from f ≡ true → take 2 (drop 1 f) ≡ decimals 2 from
unfolding for_station
station-digits from f e = read_only decimal-digits (lit< tt) 2 from (drop 1 f) (number (decimal 2 (drop 1 f)) e)
  where
    number : (m : Number) → with_number m (λ v. eqb v from) false ≡ true → m ≡ Value from
    number (Value v) t = ap Value (eqb-true v from t)
    number (NoDigitAt p) t = absurd (false≢true t)

-- a frame with the form's header from that station begins as one that is written
begins : (l : Limits) (from : ℕ) (f : List ℕ) → eqb (get_or f 0 0) l.header ≡ true → for_station from f ≡ true → (i : ℕ) → i < 4 → get_or f i 0 ≡ get_or (opening l.header from (get_or f 3 0)) i 0
unfolding opening digits_in
begins l from f headed own = cell
  where
    digit : (i : ℕ) → i < 2 → get_or f (1 + i) 0 ≡ get_or (decimals 2 from) i 0
    digit i h = sym (get_or-drop 1 f i 0) ∙ sym (get_or-take 2 (drop 1 f) i 0 h) ∙ ap (λ (t : List ℕ). get_or t i 0) (station-digits from f own)

    cell : (i : ℕ) → i < 4 → get_or f i 0 ≡ get_or (opening l.header from (get_or f 3 0)) i 0
    cell zero h = eqb-true _ _ headed
    cell (suc zero) h = digit 0 (lit< tt)
    cell (suc (suc zero)) h = digit 1 (lit< tt)
    cell (suc (suc (suc zero))) h = refl
    cell (suc (suc (suc (suc i)))) h = absurd (omega arith)

-- the text begins at the fourth place of a frame, and the data at the sixth
text-cell : (f : List ℕ) (i j : ℕ) → i ≡ 4 + j → j < length (text_of f) → get_or f i 0 ≡ get_or (text_of f) j 0
text-cell f i j e h =
    ap (λ (k : ℕ). get_or f k 0) e
    ∙ sym (get_or-drop 4 f j 0)
    ∙ sym (get_or-take (length f - 7) (drop 4 f) j 0 (omega (arith, h, length-take (length f - 7) (drop 4 f))))

data-cell : (f : List ℕ) (i j : ℕ) → i ≡ 6 + j → j < length (data_of f) → get_or f i 0 ≡ get_or (data_of f) j 0
data-cell f i j e h = text-cell f i (2 + j) (omega arith) (omega (arith, h, length-drop 2 (text_of f))) ∙ sym (get_or-drop 2 (text_of f) j 0)

-- letters with which a text starts, one by one
starts-cell : (ls t : List ℕ) → starts ls t ≡ true → (i : ℕ) → i < length ls → get_or t i 0 ≡ get_or ls i 0
unfolding starts
starts-cell [] t e i h = absurd (omega arith)
starts-cell (x ∷ xs) t e zero h = eqb-true (get_or t 0 0) x (both_left _ _ e)
starts-cell (x ∷ xs) t e (suc i) h =
    ap (λ (j : ℕ). get_or t j 0) (sym (one-add i)) ∙ sym (get_or-drop 1 t i 0) ∙ starts-cell xs (drop 1 t) (both_right (eqb (get_or t 0 0) x) _ e) i (le_of_suc-le-suc h)

letters-length : (q : Request) → length (letters q) ≡ 2
letters-length (read_contacts cs) = refl
letters-length (write_contacts ss) = refl
letters-length (read_range a s e) = refl
letters-length (write_range a s e ws) = refl
letters-length (fill s e w) = refl

-- ---- what was read, and the place in it

-- where 13 is read, its place says this of the frame
abbrev Placed : Limits → ℕ → Request → List ℕ → Read → Type 0
Placed l from q f r = (p : ℕ) → r ≡ unasked p → WrongAt l from q f p

module _ (l : Limits) (from : ℕ) (q : Request) (f : List ℕ) where
  placed-none : (k : ℕ) → Placed l from q f (refused k)
  placed-none k p e = let z : ◌≡◌ {A = ℕ} 0 1 = cc in absurd (omega arith)

  placed_at : (j : ℕ) → WrongAt l from q f j → Placed l from q f (unasked j)
  placed_at j w p e = let same : j ≡ p = cc in subst (WrongAt l from q f) same w

module _ (l : Limits) (from : ℕ) (q : Request) (f : List ℕ) (s : good_shape (limits_in f) 9 f ≡ true) (own : for_station from f ≡ true) where
  abbrev mark : ℕ
  mark = get_or f 3 0

  abbrev stands : ℕ → Bool
  stands i = may_stand l from q mark i (get_or f i 0)

  -- the form is wrong, and the place is the frame's end
  no_place : right_form l q f ≡ false → Placed l from q f (unasked (length f))
  no_place wrong =
      placed_at l from q f (length f)
      (record {
        shape = s;
        within = omega arith;
        one-wrong = λ h. absurd (omega (arith, h));
        form-right = λ right. absurd (false≢true (sym wrong ∙ right));
        there = λ h. absurd (omega (arith, h));
        before = λ h. absurd (omega (arith, h));
      })

  -- the form is right, and one character is wrong
  one_place : (p : ℕ) → p < length f → right_form l q f ≡ true → stands p ≡ false → ((i : ℕ) → i < p → stands i ≡ true) → WrongAt l from q f p
  one_place p h right wrong good =
      record { shape = s; within = omega arith; one-wrong = λ _. right; form-right = λ _. h; there = λ _. wrong; before = λ _. good }

  -- the frame has the header of the form that was asked
  abbrev Headed : Type 0
  Headed = eqb (get_or f 0 0) l.header ≡ true

  -- the form is then right where its text is
  form-is : Headed → (b : Bool) → right_text q f ≡ b → right_form l q f ≡ b
  form-is headed b e = rw headed e

  -- of the first four characters each may stand
  stands-front : Headed → (i : ℕ) (other : Bool) → (4 ≤ i → other ≡ true) → pick (ltb i 4) (eqb (get_or f i 0) (get_or (opening l.header from mark) i 0)) other ≡ true
  stands-front headed i other behind =
      pick_all (λ (b : Bool). b ≡ true) (ltb i 4) _ _ (λ t. eq-eqb _ _ (begins l from f headed own i (ltb-true i 4 t))) (λ t. behind (ltb-false i 4 t))

  -- after `!`
  error-wrong : Headed → eqb mark bang ≡ true → eqb (length (text_of f)) 2 ≡ true → (j : ℕ) → hex 2 (text_of f) ≡ NoDigitAt j → WrongAt l from q f (4 + j)
  error-wrong headed marked two j e =
      let t : List ℕ = text_of f in
      let small : j < 2 = running-within 16 hex_value 2 0 j t e in
      let found = running-wrong 16 hex_value 2 0 j t e in
      let long : length t ≡ 2 = eqb-true _ _ two in
      one_place (4 + j) (omega (arith, text-short (limits_in f) f s)) (form-is headed true (pick_yes (eqb mark bang) _ _ marked ∙ two))
      (pick_no (ltb (4 + j) 4) _ _ (le-ltb (4 + j) 4 (omega arith))
      ∙ pick_yes (eqb mark bang) _ _ marked
      ∙ ap (λ (x : ℕ). is_digit (hex_value x)) (text-cell f (4 + j) j refl (omega arith))
      ∙ ap is_digit found.0)
      (λ i h. stands-front headed i _ (λ k.
      pick_yes (eqb mark bang) _ _ marked
      ∙ ap (λ (x : ℕ). is_digit (hex_value x)) (text-cell f i (i - 4) (omega arith) (omega arith))
      ∙ found.1 (i - 4) (omega arith)))

  -- after `$`
  data-wrong : Headed → eqb mark bang ≡ false → eqb mark dollar ≡ true → starts (letters q) (text_of f) ≡ true → eqb (length (data_of f)) (data_size q) ≡ true
      → eqb (first_wrong q (data_of f)) (length (data_of f)) ≡ false → WrongAt l from q f (6 + first_wrong q (data_of f))
  data-wrong headed unmarked marked named sized e =
      let d : List ℕ = data_of f in
      let may : ℕ → Bool = allowed (tells_contacts q) in
      let j : ℕ = first_wrong q d in
      let small : j < length d = omega (arith, first-within may d, eqb-false j (length d) e) in
      let long : length d ≡ length (text_of f) - 2 = length-drop 2 (text_of f) in
      one_place (6 + j) (omega (arith, text-short (limits_in f) f s)) (form-is headed true (rw (unmarked, marked, named) sized))
      (pick_no (ltb (6 + j) 4) _ _ (le-ltb (6 + j) 4 (omega arith))
      ∙ pick_no (eqb mark bang) _ _ unmarked
      ∙ pick_no (ltb (6 + j) 6) _ _ (le-ltb (6 + j) 6 (omega arith))
      ∙ ap may (data-cell f (6 + j) j refl small)
      ∙ first-fails may d small)
      (λ i h. stands-front headed i _ (λ k.
      pick_no (eqb mark bang) _ _ unmarked
      ∙ pick_all (λ (b : Bool). b ≡ true) (ltb i 6) _ _
      (λ t.
      let under : i < 6 = ltb-true i 6 t in
      eq-eqb _ _ (text-cell f i (i - 4) (omega arith) (omega arith) ∙ starts-cell (letters q) (text_of f) named (i - 4) (omega (arith, letters-length q))))
      (λ t.
      let over : 6 ≤ i = ltb-false i 6 t in
      ap may (data-cell f i (i - 6) (omega arith) (omega arith)) ∙ first-before may d (i - 6) (omega arith))))

  placed-error : Headed → eqb mark bang ≡ true → eqb (length (text_of f)) 2 ≡ true → (m : Number) → hex 2 (text_of f) ≡ m → Placed l from q f (or_place m error (λ j. unasked (4 + j)))
  placed-error headed marked two (Value v) is p e = let z : ◌≡◌ {A = ℕ} 0 1 = cc in absurd (omega arith)
  placed-error headed marked two (NoDigitAt j) is p e = placed_at l from q f (4 + j) (error-wrong headed marked two j is) p e

  placed-reply : Headed → Placed l from q f (reply_in q (length f) mark (text_of f))
  unfolding reply_in error_in data_in
  placed-reply headed =
      let t : List ℕ = text_of f in
      let d : List ℕ = data_of f in
      pick_all (Placed l from q f) (eqb mark bang) _ _
      (λ marked. pick_all (Placed l from q f) (eqb (length t) 2) _ _
      (λ two. placed-error headed marked two (hex 2 t) refl)
      (λ two. no_place (form-is headed false (rw (marked, two)))))
      (λ unmarked. pick_all (Placed l from q f) (eqb mark dollar) _ _
      (λ marked. pick_all (Placed l from q f) (starts (letters q) t) _ _
      (λ named. pick_all (Placed l from q f) (eqb (length d) (data_size q)) _ _
      (λ sized. pick_all (Placed l from q f) (eqb (first_wrong q d) (length d)) _ _
      (λ _ p e. let z : ◌≡◌ {A = ℕ} 0 1 = cc in absurd (omega arith))
      (λ wrong. placed_at l from q f (6 + first_wrong q d) (data-wrong headed unmarked marked named sized wrong)))
      (λ sized. no_place (form-is headed false (rw (unmarked, marked, named, sized)))))
      (λ named. no_place (form-is headed false (rw (unmarked, marked, named)))))
      (λ marked. no_place (form-is headed false (rw (unmarked, marked)))))

  -- in the form that was asked, or in another
  placed-form : Placed l from q f (form_reply l q f)
  unfolding form_reply
  placed-form = pick_all (Placed l from q f) (eqb (get_or f 0 0) l.header) _ _ placed-reply (λ other. no_place (rw other))

placed-frame : (l : Limits) (from : ℕ) (q : Request) (f : List ℕ) → Placed l from q f (read_frame l from q f)
unfolding read_frame
placed-frame l from q f =
    pick_all (Placed l from q f) (good_shape (limits_in f) 9 f) _ _
    (λ s. pick_all (Placed l from q f) (good_check f) _ _
    (λ _. pick_all (Placed l from q f) (for_station from f) _ _ (placed-form l from q f s) (λ _. placed-none l from q f 12))
    (λ _. placed-none l from q f 11))
    (λ _. placed-none l from q f 10)

pub wrong-place : WrongPlace
unfolding read
wrong-place l from a f =
    let q : Request = request_in a in
    pick_all (Placed l from q f) (between 1 highest from) _ _
    (λ _. subst (Placed l from q f) (sym (tests-are l a refused (read_frame l from q f)))
    (pick_all (Placed l from q f) (can_ask l a) _ _ (λ _. placed-frame l from q f) (λ _. placed-none l from q f 14)))
    (λ _. placed-none l from q f 2)
