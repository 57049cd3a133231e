-- A number and its 32 bits say the same, and 32 bits and their two words. Assumes nothing.
use mathlib.Core.Path.{◌≡◌, refl, sym, ap, ap₂, ◌∙◌}
use mathlib.Core.Bool.{Bool, true, false}
use Prim.Native.Nat.{ℕ, ◌-◌, ◌/◌, ◌%◌, ◌<◌, ◌≤◌}
use native.Mathlib.Omega.{arith}
use borrow.Author.Tests.{ltb-true, ltb-false, leb-true, leb-false, lt-ltb, le-ltb, lt-leb}
use lib.Dec.{leb, ltb}
use lib.IntN.{ℤ, pos, negsuc}
use lib.Signed.{mag}
use Rattle.rules.specs.Choice.{either}
use Rattle.rules.specs.Given.{Once}
use Rattle.rules.proofs.Choose.{either-false, pick_yes, pick_no, pick_all}
use Rattle.rules.proofs.Once.{once}
use Rattle.table_registers.specs.Profile.{joined, within}
use Rattle.host_pairs.specs.declared.Halves.{Halves}
use Rattle.host_pairs.specs.declared.Halves.TheVariants as halves
use Rattle.host_pairs.specs.Pairs.{signed, pair_value, bits, is_writable, Split, words, refused, pair_words, given}
use Rattle.host_pairs.specs.Statements.{BitsKept, EveryNumber, ReadBack, WrittenBack, AsTheProfile, RefusedOutside}

-- ---- 32 bits and a number

bits-signed : (v : ℕ) → v < 4294967296 → bits (signed v) ≡ v
bits-signed v h =
    pick_all (λ z. bits z ≡ v) (ltb v 2147483648) (pos v) (negsuc (4294967295 - v)) (λ t. refl) (λ t. omega (arith, h))

signed-bits : (z : ℤ) → mag z < 2147483648 → signed (bits z) ≡ z
signed-bits (pos n) h = pick_yes _ _ _ (lt-ltb n 2147483648 h)
signed-bits (negsuc k) h =
    let e : 4294967295 - (4294967295 - k) ≡ k = omega (arith, h) in
    pick_no _ _ _ (le-ltb (4294967295 - k) 2147483648 (omega (arith, h))) ∙ ap negsuc e

bits_small : (z : ℤ) → mag z < 2147483648 → bits z < 4294967296
bits_small (pos n) h = omega (arith, h)
bits_small (negsuc k) h = omega arith

-- what is written is a number of 32 bits
writable-small : (z : ℤ) → is_writable z ≡ true → mag z < 2147483648
writable-small (pos n) t = let h : n ≤ 950000 = leb-true n 950000 t in omega (arith, h)
writable-small (negsuc k) t = let h : k < 950000 = ltb-true k 950000 t in omega (arith, h)

-- ---- 32 bits and two words

halves-joined : (v : ℕ) → joined (v % 65536) (v / 65536) ≡ v
halves-joined v = omega arith

low_half : (low high : ℕ) → low < 65536 → joined low high % 65536 ≡ low
low_half low high h = omega (arith, h)

high_half : (low high : ℕ) → low < 65536 → joined low high / 65536 ≡ high
high_half low high h = omega (arith, h)

pub bits-kept : BitsKept
unfolding pair_value
bits-kept low high l h = bits-signed (joined low high) (omega (arith, l, h))

pub every-number : EveryNumber
unfolding pair_value
every-number z h = ap signed (halves-joined (bits z)) ∙ signed-bits z h

-- ---- what is written reads as what it was

abbrev low_of : Split → ℕ
low_of (words low high) = low
low_of (refused k) = 0

abbrev high_of : Split → ℕ
high_of (words low high) = high
high_of (refused k) = 0

pub read_back : ReadBack
unfolding pair_words
read_back z low high e = go (is_writable z) refl
  where
    go : (b : Bool) → is_writable z ≡ b → (pair_value low high ≡ z) × (low < 65536) × (high < 65536)
    go true t =
        let same : words (bits z % 65536) (bits z / 65536) ≡ words low high = sym (pick_yes _ _ _ t) ∙ e in
        let l : bits z % 65536 ≡ low = ap low_of same in
        let h : bits z / 65536 ≡ high = ap high_of same in
        let small = writable-small z t in
        (ap₂ pair_value (sym l) (sym h) ∙ every-number z small, omega (arith, l), omega (arith, h, bits_small z small))
    go false t =
        let same : refused 14 ≡ words low high = sym (pick_no _ _ _ t) ∙ e in
        let n : ◌≡◌ {A = ℕ} 0 1 = cc in absurd (omega arith)

-- ---- what is read is written as it was

-- from 0 on, the lower bound of what is below zero is out of sight
above : (v : ℕ) → ltb v 2147483648 ≡ true → leb v 950000 ≡ within 950000 v
above v t =
    let h : v < 2147483648 = ltb-true v 2147483648 t in
    let far : leb 4294017296 v ≡ false = lt-leb 4294017296 v (omega (arith, h)) in
    sym (ap (either (leb v 950000)) far ∙ either-false (leb v 950000))

-- below zero, the upper bound is
below : (v : ℕ) → v < 4294967296 → ltb v 2147483648 ≡ false → ltb (4294967295 - v) 950000 ≡ within 950000 v
below v s t =
    let h : 2147483648 ≤ v = ltb-false v 2147483648 t in
    let far : leb v 950000 ≡ false = lt-leb v 950000 (omega (arith, h)) in
    same v s (leb 4294017296 v) refl ∙ sym (ap (λ (b : Bool). either b (leb 4294017296 v)) far)
  where
    same : (v : ℕ) → v < 4294967296 → (b : Bool) → leb 4294017296 v ≡ b → ltb (4294967295 - v) 950000 ≡ b
    same v s true e = let h : 4294017296 ≤ v = leb-true 4294017296 v e in lt-ltb (4294967295 - v) 950000 (omega (arith, h, s))
    same v s false e = let h : v < 4294017296 = leb-false 4294017296 v e in le-ltb (4294967295 - v) 950000 (omega (arith, h, s))

writable-within : (v : ℕ) → v < 4294967296 → is_writable (signed v) ≡ within 950000 v
writable-within v s = pick_all (λ z. is_writable z ≡ within 950000 v) (ltb v 2147483648) (pos v) (negsuc (4294967295 - v)) (above v) (below v s)

pub as-the-profile : AsTheProfile
unfolding pair_value
as-the-profile low high l h = writable-within (joined low high) (omega (arith, l, h))

pub written_back : WrittenBack
unfolding pair_value pair_words
written_back low high l h t =
    let v = joined low high in
    let s : v < 4294967296 = omega (arith, l, h) in
    pick_yes (is_writable (signed v)) _ _ (writable-within v s ∙ t)
    ∙ ap (λ (b : ℕ). words (b % 65536) (b / 65536)) (bits-signed v s) ∙ ap₂ words (low_half low high l) (high_half low high l)

-- ---- 14 outside

pub refused-outside : (z : ℤ) → RefusedOutside z
unfolding pair_words
refused-outside z =
    record {
      inside = λ t. (bits z % 65536, bits z / 65536, pick_yes (is_writable z) _ _ t);
      outside = λ t. pick_no (is_writable z) _ _ t;
    }

-- ---- one answer only

abbrev halves_of : Split → Halves
halves_of (words low high) = halves.Words low high
halves_of (refused k) = halves.Refused (record { 0 = k })

halves_of-given : (r : Halves) → halves_of (given r) ≡ r
halves_of-given (halves.Words low high) = refl
halves_of-given (halves.Refused r) = refl

pub one-pair : Once given
one-pair = once given halves_of halves_of-given
