-- Laws of fields that are filled: their lengths, one turn of a loop over a row, and rows one after the other. Assumes nothing.
use mathlib.Core.Path.{◌≡◌, refl, sym, ap, ap₂, ◌∙◌}
use mathlib.Core.List.{List, [], ◌∷◌, ◌++◌, append_assoc}
use mathlib.Core.Bool.{Bool, true, false}
use Prim.Native.Nat.{ℕ, suc, ◌+◌, ◌-◌, ◌*◌, ◌/◌, ◌%◌, ◌≤◌, ◌<◌}
use native.Mathlib.Nat.{add-zero}
use native.Mathlib.Numerals.{add-one}
use native.Mathlib.Omega.{arith}
use borrow.Author.Tests.{ltb-true}
use lib.Dec.{ltb}
use lib.ListN.{length, drop, get_or, length-append}
use lib.Seq.{drop-drop, drop-cons, get_or-drop}
use Rattle.rules.specs.Choice.{pick, both}
use Rattle.rules.proofs.Choose.{both_left, both_right}
use Rattle.text_rooms.specs.Room.{overwrite}
use Rattle.text_rooms.proofs.Overwrite.{overwrite-join}
use Rattle.text_digits.specs.Digits.{decimal_digit, decimals}
use Rattle.text_digits.proofs.Back.{digits_in-length}
use Rattle.text_hex.specs.Hex.{hex_digit}
use Rattle.mewtocol_frame.proofs.Sealed.{low_first-length}
use Rattle.mewtocol_commands.specs.Fields as fields
use Rattle.mewtocol_commands.specs.Fields.{width}
use Rattle.mewtocol_commands.specs.Rows.{is_letter, times, widths}
use Rattle.mewtocol_commands.specs.declared.Field.{Field}
use Rattle.mewtocol_commands.specs.declared.Field.TheVariants.{LetterR, LetterD, Relay, Register, Contact, Value, Word}
use Rattle.mewtocol_commands.proofs.OverRows.{widths-turn}
use Rattle.mewtocol_asking.specs.Asking.{says, characters, filled, fit}
use Rattle.mewtocol_asking.specs.Code.{says_all}
use Rattle.mewtocol_asking.proofs.Fit.{fit-turn, fit-times}

pub characters-length : (f : Field) (v : ℕ) → length (characters f v) ≡ width f
unfolding characters
characters-length LetterR v = refl
characters-length LetterD v = refl
characters-length Relay v = digits_in-length 10 decimal_digit 4 v
characters-length Register v = digits_in-length 10 decimal_digit 5 v
characters-length Contact v =
    length-append (decimals 3 (v / 16)) (hex_digit (v % 16) ∷ []) ∙ ap (λ (n : ℕ). n + 1) (digits_in-length 10 decimal_digit 3 (v / 16))
characters-length Value v = refl
characters-length Word v = low_first-length v

pub filled-length : (fs : List Field) (ns : List ℕ) → length (filled fs ns) ≡ widths fs
unfolding filled widths
filled-length [] ns = refl
filled-length (f ∷ fs) ns =
    length-append (characters f (get_or ns 0 0)) (filled fs (drop (says f) ns)) ∙ ap₂ (λ (a b : ℕ). a + b) (characters-length f (get_or ns 0 0)) (filled-length fs (drop (says f) ns))

pub filled-append : (fs gs : List Field) (ns : List ℕ) → filled (fs ++ gs) ns ≡ filled fs ns ++ filled gs (drop (says_all fs) ns)
unfolding filled says_all
filled-append [] gs ns = refl
filled-append (f ∷ fs) gs ns =
    let x = characters f (get_or ns 0 0) in
    ap (λ (t : List ℕ). x ++ t) (filled-append fs gs (drop (says f) ns) ∙ ap (λ (l : List ℕ). filled fs (drop (says f) ns) ++ filled gs l) (drop-drop (says_all fs) (says f) ns))
    ∙ sym (append_assoc x (filled fs (drop (says f) ns)) (filled gs (drop (says f + says_all fs) ns)))

filled-turn : (fs : List Field) (ns : List ℕ) (i k : ℕ) (f : Field) → i < length fs → f ≡ get_or fs i LetterR
    → filled (drop i fs) (drop k ns) ≡ characters f (get_or ns k 0) ++ filled (drop (i + 1) fs) (drop (k + says f) ns)
unfolding filled
filled-turn fs ns i k f h e =
    ap (λ (l : List Field). filled l (drop k ns)) (drop-cons fs i LetterR h)
    ∙ ap₂ (λ (g : Field) (j : ℕ). filled (g ∷ drop j fs) (drop k ns)) (sym e) (sym (add-one i))
    ∙ ap₂ (λ (n : ℕ) (l : List ℕ). characters f n ++ filled (drop (i + 1) fs) l)
    (get_or-drop k ns 0 0 ∙ ap (λ (j : ℕ). get_or ns j 0) (add-zero k)) (drop-drop (says f) k ns)

-- ---- loops that write

-- the fields from i on are still to be written from index o on, with the numbers from k on
pub record Row (fs : List Field) (ns : List ℕ) (at j : ℕ) (room₀ room : List ℕ) (i o k : ℕ) : Type 0 where
  pub index : o + widths (drop i fs) ≡ at + widths fs
  pub long : length room ≡ length room₀
  pub fits : fit (drop i fs) (drop k ns) ≡ true
  pub stands : overwrite room o (filled (drop i fs) (drop k ns)) ≡ overwrite room₀ at (filled fs (drop j ns))

-- a number has room in its field
pub has_room : (f : Field) (n : ℕ) (b : Bool) → both (pick (is_letter f) true (ltb n (fields.room f))) b ≡ true → is_letter f ≡ false → n < fields.room f
has_room f n b h e = ltb-true n (fields.room f) (sym (ap (λ (t : Bool). pick t true (ltb n (fields.room f))) e) ∙ both_left (pick (is_letter f) true (ltb n (fields.room f))) b h)

pub row-turn : (fs : List Field) (ns : List ℕ) (at j : ℕ) (room₀ room room₁ : List ℕ) (i o k : ℕ) (f : Field) → i < length fs → f ≡ get_or fs i LetterR
    → Row fs ns at j room₀ room i o k → length room₁ ≡ length room → o + width f ≤ length room → room₁ ≡ overwrite room o (characters f (get_or ns k 0))
    → Row fs ns at j room₀ room₁ (i + 1) (o + width f) (k + says f)
row-turn fs ns at j room₀ room room₁ i o k f h e r long fits put =
    let x = characters f (get_or ns k 0) in
    let y = filled (drop (i + 1) fs) (drop (k + says f) ns) in
    let n = characters-length f (get_or ns k 0) in
    record {
      index = omega (arith, r.index, widths-turn fs i f h e);
      long = long ∙ r.long;
      fits = both_right (pick (is_letter f) true (ltb (get_or ns k 0) (fields.room f))) _ (sym (fit-turn fs ns i k f h e) ∙ r.fits);
      stands =
          ap (λ (l : List ℕ). overwrite l (o + width f) y) put
          ∙ overwrite-join room x y o (o + width f) (omega arith) (ap (λ (m : ℕ). o + m) (sym n))
          ∙ ap (overwrite room o) (sym (filled-turn fs ns i k f h e))
          ∙ r.stands;
    }

-- i of n rows are written
pub record Times (u : List Field) (n : ℕ) (ns : List ℕ) (at j : ℕ) (room₀ room : List ℕ) (i o k : ℕ) : Type 0 where
  pub index : o ≡ at + widths u * i
  pub long : length room ≡ length room₀
  pub fits : fit (times (n - i) u) (drop k ns) ≡ true
  pub stands : overwrite room o (filled (times (n - i) u) (drop k ns)) ≡ overwrite room₀ at (filled (times n u) (drop j ns))

pub times-turn : (u : List Field) (n : ℕ) (ns : List ℕ) (at j : ℕ) (room₀ room room₁ : List ℕ) (i o k : ℕ) → i < n
    → Times u n ns at j room₀ room i o k → length room₁ ≡ length room → o + widths u ≤ length room → room₁ ≡ overwrite room o (filled u (drop k ns))
    → Times u n ns at j room₀ room₁ (i + 1) (o + widths u) (k + says_all u)
unfolding times
times-turn u n ns at j room₀ room room₁ i o k h r long fits put =
    let x = filled u (drop k ns) in
    let more = n - (i + 1) in
    let y = filled (times more u) (drop (k + says_all u) ns) in
    let e : n - i ≡ suc more = omega arith in
    let is : filled (times (n - i) u) (drop k ns) ≡ x ++ y =
    ap (λ (m : ℕ). filled (times m u) (drop k ns)) e ∙ filled-append u (times more u) (drop k ns)
    ∙ ap (λ (l : List ℕ). x ++ filled (times more u) l) (drop-drop (says_all u) k ns) in
    record {
      index = omega (arith, r.index);
      long = long ∙ r.long;
      fits = both_right (fit u (drop k ns)) _ (sym (fit-times u ns n i k h) ∙ r.fits);
      stands =
          ap (λ (l : List ℕ). overwrite l (o + widths u) y) put
          ∙ overwrite-join room x y o (o + widths u) (omega arith) (ap (λ (m : ℕ). o + m) (sym (filled-length u (drop k ns))))
          ∙ ap (overwrite room o) (sym is)
          ∙ r.stands;
    }
