-- A frame that is written: its characters are from 20h to 7Eh, and its check is its own. Assumes nothing.
use mathlib.Core.Path.{◌≡◌, refl, sym, ap, ◌∙◌}
use mathlib.Core.List.{List, [], ◌∷◌, ◌++◌, append_assoc}
use mathlib.Core.Bool.{true}
use Prim.Native.Nat.{ℕ, ◌+◌, ◌-◌, ◌*◌, ◌/◌, ◌%◌, ◌≤◌, ◌<◌}
use native.Mathlib.Omega.{arith}
use borrow.Author.Tests.{le-leb, eq-eqb}
use lib.Dec.{ltb}
use lib.ListN.{length, get_or, take, drop, length-append}
use lib.Seq.{take_at, get_or_at}
use Rattle.rules.specs.Choice.{between, all_between}
use Rattle.rules.specs.Characters.{CR}
use Rattle.text_rooms.specs.Room.{overwrite, each}
use Rattle.rules.proofs.Choose.{pick_all, both_left, both_right}
use Rattle.text_rooms.proofs.Overwrite.{overwrite-next, overwrite-front}
use Rattle.text_rooms.proofs.Each.{each-length}
use Rattle.text_digits.specs.Digits.{digits_in, decimal, decimals}
use Rattle.text_digits.proofs.Back.{decimal-back}
use Rattle.text_hex.specs.Hex.{hex_digit, hex_byte}
use Rattle.text_hex_words.specs.Words.{low_first}
use Rattle.checks_xor.specs.Xor.{xor_bytes, right_xor, closing}
use Rattle.checks_xor.proofs.Closing.{right-xor-of}
use Rattle.mewtocol_frame.specs.declared.Form.{Form}
use Rattle.mewtocol_frame.specs.declared.Form.TheVariants.{Ordinary, Expanded}
use Rattle.mewtocol_frame.specs.declared.Limits.{Limits}
use Rattle.mewtocol_frame.specs.Frame.{limits_of, form_in, limits_in, longest_of_all, Roomy, highest, good_shape, for_station, good_check, text_of, Framed, opening, sealed}
use Rattle.mewtocol_frame.specs.Text.{words_text}

-- ---- the two forms

-- each has room for what it allows
pub roomy : (form : Form) → Roomy (limits_of form)
roomy Ordinary = record { contacts = omega arith; reads = omega arith; writes = omega arith }
roomy Expanded = record { contacts = omega arith; reads = omega arith; writes = omega arith }

-- and is no longer than the longest of all
pub longest-of : (form : Form) → (limits_of form).longest ≤ longest_of_all
longest-of Ordinary = omega arith
longest-of Expanded = omega arith

-- a frame with a form's header is of that form
pub form_in-header : (form : Form) (f : List ℕ) → get_or f 0 0 ≡ (limits_of form).header → form_in f ≡ form
unfolding form_in
form_in-header Ordinary f e = rw e
form_in-header Expanded f e = rw e

pub limits-in : (form : Form) (f : List ℕ) → get_or f 0 0 ≡ (limits_of form).header → limits_in f ≡ limits_of form
limits-in form f e = ap limits_of (form_in-header form f e)

-- ---- characters from 20h to 7Eh

abbrev pub Plain : List ℕ → Type 0
Plain t = all_between 0x20 0x7E t ≡ true

pub plain-none : Plain []
unfolding all_between
plain-none = refl

pub plain-cons : (x : ℕ) (t : List ℕ) → 0x20 ≤ x → x ≤ 0x7E → Plain t → Plain (x ∷ t)
unfolding all_between between
plain-cons x t l h p = rw (le-leb 0x20 x l, le-leb x 0x7E h) p

pub plain-append : (s t : List ℕ) → Plain s → Plain t → Plain (s ++ t)
unfolding all_between
plain-append [] t p q = q
plain-append (x ∷ s) t p q = rw (both_left (between 0x20 0x7E x) _ p) (plain-append s t (both_right (between 0x20 0x7E x) _ p) q)

pub hex_digit-plain : (d : ℕ) → d < 16 → (0x20 ≤ hex_digit d) × (hex_digit d ≤ 0x7E)
unfolding hex_digit
hex_digit-plain d h =
    pick_all (λ (c : ℕ). (0x20 ≤ c) × (c ≤ 0x7E)) (ltb d 10) (48 + d) (55 + d) (λ _. (omega arith, omega arith)) (λ _. (omega arith, omega arith))

pub hex_byte-plain : (b : ℕ) → Plain (hex_byte b)
unfolding digits_in
hex_byte-plain b =
    let h = hex_digit-plain (b / 16 % 16) (omega arith) in
    let l = hex_digit-plain (b % 16) (omega arith) in
    plain-cons _ _ h.0 h.1 (plain-cons _ _ l.0 l.1 plain-none)

-- ---- shape and check

shape_of : (l : Limits) (least : ℕ) (mid : List ℕ) → Plain mid → least ≤ length mid + 2 → length mid + 2 ≤ l.longest → good_shape l least ((l.header ∷ mid) ++ (CR ∷ [])) ≡ true
unfolding good_shape between
shape_of l least mid p low high =
    let f = (l.header ∷ mid) ++ (CR ∷ []) in
    let n : length f ≡ length mid + 2 = omega (arith, length-append mid (CR ∷ [])) in
    let last : get_or f (length f - 1) 0 ≡ CR = get_or_at (l.header ∷ mid) CR [] 0 (length f - 1) (omega arith) in
    let middle : take (length f - 2) (drop 1 f) ≡ mid = take_at mid (CR ∷ []) (length f - 2) (omega arith) in
    rw (le-leb least (length f) (omega arith), le-leb (length f) l.longest (omega arith), eq-eqb l.header l.header refl, eq-eqb _ _ last, middle) p

check-of : (front : List ℕ) → good_check (sealed front) ≡ true
unfolding sealed
check-of front =
    let whole = front ++ closing front CR in
    let checked = front ++ xor_bytes front in
    let split : whole ≡ checked ++ (CR ∷ []) = sym (append_assoc front (xor_bytes front) (CR ∷ [])) in
    let n : length checked ≡ length whole - 1 = omega (arith, ap length split, length-append checked (CR ∷ [])) in
    ap right_xor (ap (take (length whole - 1)) split ∙ take_at checked (CR ∷ []) (length whole - 1) n) ∙ right-xor-of front

module _ (l : Limits) (own mark : ℕ) (body : List ℕ) where
  abbrev front : List ℕ
  front = opening l.header own mark ++ body

  abbrev middle : List ℕ
  middle = decimals 2 own ++ (mark ∷ []) ++ body ++ xor_bytes front

  split : sealed front ≡ (l.header ∷ middle) ++ (CR ∷ [])
  unfolding sealed opening digits_in
  split = ap (λ (t : List ℕ). l.header ∷ (48 + own / 10 % 10) ∷ (48 + own % 10) ∷ mark ∷ t) (sym (append_assoc body (xor_bytes front) (CR ∷ [])))

  middle-length : length middle ≡ length body + 5
  unfolding digits_in
  middle-length = omega (arith, length-append body (xor_bytes front))

  middle-plain : 0x20 ≤ mark → mark ≤ 0x7E → Plain body → Plain middle
  unfolding digits_in
  middle-plain low high p =
      plain-cons (48 + own / 10 % 10) _ (omega arith) (omega arith)
      (plain-cons (48 + own % 10) _ (omega arith) (omega arith)
      (plain-cons mark _ low high (plain-append body (xor_bytes front) p (hex_byte-plain _))))

  pub framed : (least : ℕ) → 0x20 ≤ mark → mark ≤ 0x7E → Plain body → least ≤ length body + 7 → length body + 7 ≤ l.longest → Framed l least (sealed front)
  framed least low high p long most =
      record {
        shape = ap (good_shape l least) split ∙ shape_of l least middle (middle-plain low high p) (omega (arith, middle-length)) (omega (arith, middle-length));
        check = check-of front;
      }

-- ---- what a frame that is written says

module _ (header own mark : ℕ) (body : List ℕ) where
  abbrev whole : List ℕ
  whole = sealed (opening header own mark ++ body)

  rest : drop 1 whole ≡ decimals 2 own ++ (mark ∷ (body ++ closing (opening header own mark ++ body) CR))
  unfolding sealed opening digits_in
  rest = refl

  pub sealed-station : own ≤ highest → for_station own whole ≡ true
  unfolding for_station
  sealed-station h = rw (ap (decimal 2) rest ∙ decimal-back 2 own _ (omega arith)) (eq-eqb own own refl)

  pub sealed-header : get_or whole 0 0 ≡ header
  unfolding sealed opening
  sealed-header = refl

  pub sealed-mark : get_or whole 3 0 ≡ mark
  unfolding sealed opening digits_in
  sealed-mark = refl

  pub sealed-text : text_of whole ≡ body
  unfolding sealed opening digits_in
  sealed-text =
      let long : length whole ≡ length body + 7 = omega (arith, length-append body (closing (opening header own mark ++ body) CR)) in
      take_at body (closing (opening header own mark ++ body) CR) (length whole - 7) (omega arith)

-- ---- a front, its check and CR

pub sealed-length : (front : List ℕ) → length (sealed front) ≡ length front + 3
unfolding sealed digits_in
sealed-length front = length-append front (closing front CR)

pub sealed-put : (room front : List ℕ) {n r : ℕ} {room₁ room₂ : List ℕ} → room₁ ≡ overwrite room 0 front → n ≡ length front
    → (r ≡ n + 3) × (room₂ ≡ overwrite room₁ n (closing (take n room₁) CR)) → (r ≡ length (sealed front)) × (room₂ ≡ overwrite room 0 (sealed front))
unfolding sealed
sealed-put room front {n} {r} {room₁} {room₂} stands e p =
    let seen = ap (λ (k : ℕ). take k room₁) e ∙ ap (take (length front)) stands ∙ overwrite-front room front in (
      p.0 ∙ ap (λ (k : ℕ). k + 3) e ∙ sym (sealed-length front),
      p.1 ∙ ap (λ (m : List ℕ). overwrite room₁ n (closing m CR)) seen ∙ overwrite-next room front (closing front CR) room₁ n stands e,
    )

-- ---- words

pub low_first-length : (w : ℕ) → length (low_first w) ≡ 4
unfolding low_first digits_in
low_first-length w = refl

pub words_text-length : (ws : List ℕ) → length (words_text ws) ≡ 4 * length ws
words_text-length ws = each-length low_first 4 low_first-length ws

pub low_first-plain : (w : ℕ) → Plain (low_first w)
unfolding low_first
low_first-plain w = plain-append (hex_byte (w % 256)) (hex_byte (w / 256)) (hex_byte-plain (w % 256)) (hex_byte-plain (w / 256))

pub words_text-plain : (ws : List ℕ) → Plain (words_text ws)
unfolding each
words_text-plain [] = plain-none
words_text-plain (w ∷ ws) = plain-append (low_first w) (words_text ws) (low_first-plain w) (words_text-plain ws)
