-- One changed character of a Modbus ASCII text is one changed byte: a pair of hex characters says one byte, and no other pair says it.
-- Assumes nothing.
use mathlib.Core.Bool.{Bool, true, false, false≢true}
use mathlib.Core.List.{List, [], ◌∷◌, ◌++◌}
use mathlib.Core.Logic.{◌≢◌}
use mathlib.Core.Path.{◌≡◌, refl, sym, ap, ◌∙◌, subst}
use Prim.Native.Nat.{ℕ, zero, suc, ◌+◌, ◌-◌, ◌*◌, ◌/◌, ◌≤◌, ◌<◌}
use native.Mathlib.Omega.{arith}
use borrow.Author.Tests.{eqb-true}
use lib.Dec.{eqb, lit<}
use lib.ListN.{length, get_or, take, drop, length-append}
use lib.Seq.{get_or_at}
use Rattle.rules.specs.Choice.{both, between}
use Rattle.rules.proofs.Choose.{both_left, both_right}
use Rattle.text_digits.specs.Digits.{with_number, is_digit, running}
use Rattle.text_digits.specs.declared.Digit.{Digit}
use Rattle.text_digits.specs.declared.Digit.TheVariants.{Is, NoDigit}
use Rattle.text_digits.specs.declared.Number.{Number}
use Rattle.text_digits.specs.declared.Number.TheVariants.{Value}
use Rattle.text_digits.proofs.Running.{value_from, running-says}
use Rattle.text_digits.proofs.Back.{read-once}
use Rattle.text_hex.specs.Hex.{hex_value, hex, all_hex}
use Rattle.text_hex.proofs.Values.{hex-digits}
use Rattle.theorems_damage.specs.Damage.{OneChanged}
use Rattle.modbus_ascii.specs.Ascii.{byte_or0, pair_bytes, count_of, bytes_of, good_ascii}

-- ---- a pair

digit-of : (x : Digit) → is_digit x ≡ true → (n : ℕ) × (x ≡ Is n)
digit-of (Is n) e = (n, refl)
digit-of NoDigit e = absurd (false≢true e)

-- two hex characters say a byte
pair-value : (x y : ℕ) (t : List ℕ) → is_digit (hex_value x) ≡ true → is_digit (hex_value y) ≡ true → (n : ℕ) × (hex 2 (x ∷ y ∷ t) ≡ Value n)
pair-value x y t hx hy =
    let a = digit-of (hex_value x) hx in
    let b = digit-of (hex_value y) hy in
    (value_from 16 0 (a.0 ∷ b.0 ∷ []), running-says 16 hex_value (a.0 ∷ b.0 ∷ []) 0 0 (x ∷ y ∷ t) (a.1, (b.1, tt)))

-- two pairs that say one byte have the same characters
pair-once : (x y u v : ℕ) (s t : List ℕ) → all_hex (x ∷ y ∷ []) ≡ true → all_hex (u ∷ v ∷ []) ≡ true → byte_or0 (x ∷ y ∷ s) ≡ byte_or0 (u ∷ v ∷ t)
    → (x ≡ u) × (y ≡ v)
unfolding byte_or0 all_hex
pair-once x y u v s t h k e =
    let a = pair-value x y s (both_left _ _ h) (both_left _ _ (both_right (is_digit (hex_value x)) _ h)) in
    let b = pair-value u v t (both_left _ _ k) (both_left _ _ (both_right (is_digit (hex_value u)) _ k)) in
    let value : Number → ℕ = λ m. with_number m (λ (n : ℕ). n) 0 in
    let same : a.0 ≡ b.0 = sym (ap value a.1) ∙ e ∙ ap value b.1 in
    let cells : ◌≡◌ {A = List ℕ} (x ∷ y ∷ []) (u ∷ v ∷ []) = read-once hex-digits (lit< tt) 2 a.0 (x ∷ y ∷ s) (u ∷ v ∷ t) a.1 (b.1 ∙ ap Value (sym same)) in
    (ap (λ (l : List ℕ). get_or l 0 0) cells, ap (λ (l : List ℕ). get_or l 1 0) cells)

-- ---- a text

two-hold : (a b r : Bool) → both a (both b r) ≡ true → (both a (both b true) ≡ true) × (r ≡ true)
two-hold true true r e = (refl, e)
two-hold true false r e = absurd (false≢true e)
two-hold false b r e = absurd (false≢true e)

-- the first pair of a text, and the rest
hex-pair : (n x y : ℕ) (t : List ℕ) → all_hex (take (2 * suc n) (x ∷ y ∷ t)) ≡ true → (all_hex (x ∷ y ∷ []) ≡ true) × (all_hex (take (2 * n) t) ≡ true)
unfolding all_hex
hex-pair n x y t e =
    let l : 2 * suc n ≡ suc (suc (2 * n)) = omega arith in
    two-hold (is_digit (hex_value x)) (is_digit (hex_value y)) (all_hex (take (2 * n) t)) (ap (λ (k : ℕ). all_hex (take k (x ∷ y ∷ t))) (sym l) ∙ e)

later : (z : ℕ) {f g : List ℕ} → OneChanged f g → OneChanged (z ∷ f) (z ∷ g)
later z o = record {
  before = z ∷ o.before;
  after = o.after;
  was = o.was;
  is = o.is;
  differs = o.differs;
  sent = ap (◌∷◌ z) o.sent;
  received = ap (◌∷◌ z) o.received;
}

-- one character of the first n pairs changed, and both texts are hex: one byte changed
pairs-changed : (n : ℕ) (b a : List ℕ) (x y : ℕ) → x ≢ y → length b < 2 * n → 2 * n ≤ length (b ++ (x ∷ a))
    → all_hex (take (2 * n) (b ++ (x ∷ a))) ≡ true → all_hex (take (2 * n) (b ++ (y ∷ a))) ≡ true → OneChanged (pair_bytes n (b ++ (x ∷ a))) (pair_bytes n (b ++ (y ∷ a)))
unfolding pair_bytes byte_or0 running
pairs-changed zero b a x y d l m h k = absurd (omega arith)
pairs-changed (suc n) [] [] x y d l m h k = absurd (omega arith)
pairs-changed (suc n) [] (c ∷ a) x y d l m h k = record {
  before = [];
  after = pair_bytes n a;
  was = byte_or0 (x ∷ c ∷ a);
  is = byte_or0 (y ∷ c ∷ a);
  differs = λ e. d (pair-once x c y c a a (hex-pair n x c a h).0 (hex-pair n y c a k).0 e).0;
  sent = refl;
  received = refl;
}
pairs-changed (suc n) (p ∷ []) a x y d l m h k = record {
  before = [];
  after = pair_bytes n a;
  was = byte_or0 (p ∷ x ∷ a);
  is = byte_or0 (p ∷ y ∷ a);
  differs = λ e. d (pair-once p x p y a a (hex-pair n p x a h).0 (hex-pair n p y a k).0 e).1;
  sent = refl;
  received = refl;
}
pairs-changed (suc n) (p ∷ q ∷ b) a x y d l m h k =
    later (byte_or0 (p ∷ q ∷ b))
    (pairs-changed n b a x y d (omega arith) (omega arith) (hex-pair n p q (b ++ (x ∷ a)) h).1 (hex-pair n p q (b ++ (y ∷ a)) k).1)

-- what a good text has
pub record Text (f : List ℕ) : Type 0 where
  pub long : length f ≡ 2 * count_of f + 3
  pub colon : get_or f 0 0 ≡ 58
  pub cr : get_or f (length f - 2) 0 ≡ 13
  pub lf : get_or f (length f - 1) 0 ≡ 10
  pub pairs : all_hex (take (2 * count_of f) (drop 1 f)) ≡ true

good-text : (f : List ℕ) → good_ascii f ≡ true → Text f
unfolding good_ascii
good-text f e =
    let a = both_right (between 3 255 (count_of f)) _ e in
    let b = both_right (eqb (length f) (2 * count_of f + 3)) _ a in
    let c = both_right (eqb (get_or f 0 0) 58) _ b in
    let d = both_right (eqb (get_or f (length f - 2) 0) 13) _ c in
    record {
      long = eqb-true _ _ (both_left _ _ a);
      colon = eqb-true _ _ (both_left _ _ b);
      cr = eqb-true _ _ (both_left _ _ c);
      lf = eqb-true _ _ (both_left _ _ d);
      pairs = both_right (eqb (get_or f (length f - 1) 0) 10) _ d;
    }

-- where two texts agree, the change is elsewhere
elsewhere : (b a : List ℕ) (x y k : ℕ) → x ≢ y → get_or (b ++ (x ∷ a)) k 0 ≡ get_or (b ++ (y ∷ a)) k 0 → length b ≢ k
elsewhere b a x y k d e l = d (sym (get_or_at b x a 0 k l) ∙ e ∙ get_or_at b y a 0 k l)

-- a place that is neither CR's nor LF's is before them
inside : (b a n c : ℕ) → n ≡ suc (b + suc a) → n ≡ 2 * c + 3 → suc b ≢ n - 2 → suc b ≢ n - 1 → b < 2 * c
inside b a n c e l p q = omega arith

-- two good texts that differ in one character have bytes that differ in one
text-bytes : (b a : List ℕ) (x y : ℕ) → x ≢ y → Text (b ++ (x ∷ a)) → Text (b ++ (y ∷ a)) → OneChanged (bytes_of (b ++ (x ∷ a))) (bytes_of (b ++ (y ∷ a)))
text-bytes [] a x y d s t = absurd (d (s.colon ∙ sym t.colon))
text-bytes (p ∷ b) a x y d s t =
    let f = (p ∷ b) ++ (x ∷ a) in
    let g = (p ∷ b) ++ (y ∷ a) in
    let n : length g ≡ length f = omega (arith, length-append b (x ∷ a), length-append b (y ∷ a)) in
    let c : count_of g ≡ count_of f = ap (λ (k : ℕ). (k - 3) / 2) n in
    let not-cr = elsewhere (p ∷ b) a x y (length f - 2) d (s.cr ∙ sym (ap (λ (k : ℕ). get_or g (k - 2) 0) (sym n) ∙ t.cr)) in
    let not-lf = elsewhere (p ∷ b) a x y (length f - 1) d (s.lf ∙ sym (ap (λ (k : ℕ). get_or g (k - 1) 0) (sym n) ∙ t.lf)) in
    let long = length-append b (x ∷ a) in
    subst (λ (k : ℕ). OneChanged (bytes_of f) (pair_bytes k (drop 1 g))) (sym c)
    (pairs-changed (count_of f) b a x y d (inside (length b) (length a) (length f) (count_of f) (omega (arith, long)) s.long not-cr not-lf) (omega (arith, s.long, long)) s.pairs
    (sym (ap (λ (k : ℕ). all_hex (take (2 * k) (drop 1 g))) c) ∙ t.pairs))

pub bytes-changed : (f g : List ℕ) → good_ascii f ≡ true → good_ascii g ≡ true → OneChanged f g → OneChanged (bytes_of f) (bytes_of g)
bytes-changed f g hf hg o =
    let c = text-bytes o.before o.after o.was o.is o.differs (subst Text o.sent (good-text f hf)) (subst Text o.received (good-text g hg)) in
    subst (λ (l : List ℕ). OneChanged (bytes_of l) (bytes_of g)) (sym o.sent) (subst (λ (l : List ℕ). OneChanged (bytes_of (o.before ++ (o.was ∷ o.after))) (bytes_of l)) (sym o.received) c)
