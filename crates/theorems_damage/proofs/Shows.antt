-- The statements of specs/Damage, each proved: damage that the CRC shows, damage that passes it, and one changed byte under the exclusive
-- or and the sum. Assumes nothing.
use mathlib.Core.Bool.{Bool, true, false}
use mathlib.Core.List.{List, [], ◌∷◌, ◌++◌}
use mathlib.Core.Logic.{◌≢◌}
use mathlib.Core.Path.{◌≡◌, refl, sym, ap, ◌∙◌, subst}
use Prim.Native.Nat.{ℕ, suc, ◌+◌, ◌-◌, ◌≤◌}
use native.Mathlib.Omega.{arith}
use borrow.Author.Tests.{eqb-true}
use lib.Bits.{bit_xor, xor_comm}
use lib.Dec.{lit<}
use lib.ListN.{length, get_or, take, length-append}
use lib.Seq.{take-append-add, get_or_at}
use Rattle.rules.specs.Choice.{between, all_between}
use Rattle.text_hex.proofs.Back.{hex_byte-once}
use Rattle.checks_crc.specs.Crc.{shifted, shifts, right_crc}
use Rattle.theorems_damage.specs.Damage.{OneChanged, CrcShowsDamage, FourBitsPass, write_one, write_two, XorShowsChange, TextShowsChange, SumShowsChange}
use Rattle.checks_shared.specs.Fold.{fold}
use Rattle.checks_shared.specs.Line.{Bytes, bit_at, total, flipped}
use Rattle.checks_shared.specs.Right.{same, closed_by}
use Rattle.checks_xor.specs.Xor.{xor_bytes, right_xor}
use Rattle.checks_lrc.specs.Lrc.{right_lrc}
use Rattle.checks_shared.proofs.Bits.{bytes-by, bytes_take}
use Rattle.checks_shared.proofs.Closed.{Sees, ShowsOne, closed-one, not-true-false}
use Rattle.theorems_damage.proofs.Damage.{not-damaged}
use Rattle.theorems_damage.proofs.Within.{below, differ-within}
use Rattle.checks_shared.proofs.Fold.{add, fold-one}
use Rattle.checks_xor.proofs.Closing.{xor-keeps, xor_lt}
use Rattle.checks_shared.proofs.Xor.{xor-cancel}

-- ---- the CRC

pub crc-shows-damage : CrcShowsDamage
crc-shows-damage f g bf bg l s d rf = not-true-false (right_crc g) (λ rg. not-damaged f g bf bg l rf rg s d)

-- ---- four bits

four-within : (k : ℕ) → bit_at write_one k ≢ bit_at write_two k → (40 ≤ k) × (k ≤ 56)
unfolding below bit_at between
four-within = differ-within write_one write_two 40 56 8 (omega arith) (omega arith) refl

pub four-bits-pass : FourBitsPass write_one write_two 40
unfolding all_between between flipped total bit_at closed_by same fold shifts shifted
four-bits-pass = record {
  bytes = (bytes-by write_one refl, bytes-by write_two refl);
  long = refl;
  four = refl;
  within = λ k d. omega (arith, four-within k d);
  both_right = (refl, refl);
}

-- ---- the exclusive or

xor-left : (s t b : ℕ) → bit_xor s b ≡ bit_xor t b → s ≡ t
xor-left s t b e = sym (xor-cancel s b) ∙ ap (λ (x : ℕ). bit_xor x b) e ∙ xor-cancel t b

xor-sees : Sees xor_bytes
xor-sees b r x y bx by e =
    fold-one bit_xor 256 xor-keeps (λ s t c _ _ q. xor-left s t c q) (λ s u v _ _ q. xor-left u v s (xor_comm u s ∙ q ∙ xor_comm s v))
    0 b r x y (lit< tt) bx by (hex_byte-once _ _ (xor_lt _ bx) (xor_lt _ by) e)

-- ---- one changed byte

shows-change : (right : List ℕ → Bool) → ShowsOne right → (f g : List ℕ) → Bytes f → Bytes g → OneChanged f g → right f ≡ true → right g ≡ false
shows-change right one_only f g bf bg o rf =
    not-true-false (right g)
    (λ rg.
    o.differs
    (one_only o.before o.after o.was o.is (subst Bytes o.sent bf) (subst Bytes o.received bg)
    (sym (ap right o.sent) ∙ rf) (sym (ap right o.received) ∙ rg)))

pub xor-shows-change : XorShowsChange
xor-shows-change = shows-change right_xor (closed-one xor_bytes xor-sees)

-- ---- a closing character after the check

abbrev front : List ℕ → List ℕ
front f = take (length f - 1) f

-- all but the last, where one character and more stand after a place
front-past : (b a : List ℕ) (z x : ℕ) → front (b ++ (z ∷ x ∷ a)) ≡ b ++ (z ∷ take (length a) (x ∷ a))
front-past b a z x =
    let n : length (b ++ (z ∷ x ∷ a)) - 1 ≡ length b + suc (length a) = omega (arith, length-append b (z ∷ x ∷ a)) in
    ap (λ (k : ℕ). take k (b ++ (z ∷ x ∷ a))) n ∙ take-append-add b (z ∷ x ∷ a) (suc (length a))

last-is : (b : List ℕ) (z : ℕ) → get_or (b ++ (z ∷ [])) (length (b ++ (z ∷ [])) - 1) 0 ≡ z
last-is b z = get_or_at b z [] 0 _ (omega (arith, length-append b (z ∷ [])))

-- the change is before the closing character
front-changed : (b a : List ℕ) (x y : ℕ) → x ≢ y → get_or (b ++ (x ∷ a)) (length (b ++ (x ∷ a)) - 1) 0 ≡ get_or (b ++ (y ∷ a)) (length (b ++ (y ∷ a)) - 1) 0
    → OneChanged (front (b ++ (x ∷ a))) (front (b ++ (y ∷ a)))
front-changed b [] x y d e = absurd (d (sym (last-is b x) ∙ e ∙ last-is b y))
front-changed b (c ∷ a) x y d e =
    record { before = b; after = take (length a) (c ∷ a); was = x; is = y; differs = d; sent = front-past b a x c; received = front-past b a y c }

pub text-shows-change : TextShowsChange
text-shows-change f g bf bg o e =
    let last : List ℕ → ℕ = λ l. get_or l (length l - 1) 0 in
    let c = front-changed o.before o.after o.was o.is o.differs (sym (ap last o.sent) ∙ e ∙ ap last o.received) in
    xor-shows-change (front f) (front g) (bytes_take (length f - 1) f bf) (bytes_take (length g - 1) g bg)
    (subst (λ (l : List ℕ). OneChanged l (front g)) (ap front (sym o.sent)) (subst (OneChanged (front (o.before ++ (o.was ∷ o.after)))) (ap front (sym o.received)) c))

-- ---- the sum

sum-sees : ShowsOne right_lrc
sum-sees b a x y bx by ex ey =
    fold-one add 256 (λ s c hs hc. omega arith) (λ s t c hs ht q. omega arith) (λ s u v hu hv q. omega arith)
    0 b a x y (lit< tt) bx by (eqb-true _ 0 ex ∙ sym (eqb-true _ 0 ey))

pub sum-shows-change : SumShowsChange
sum-shows-change = shows-change right_lrc sum-sees
