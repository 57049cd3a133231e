-- Several bytes at a time: all are xored in before the first leaves. And two runs as one: what 128 zero bytes make of a register.
-- Assumes nothing.
use mathlib.Core.Bool.{Bool, true}
use mathlib.Core.List.{List, [], ◌∷◌}
use mathlib.Core.Logic.{◌⊎◌, inl, inr}
use mathlib.Core.Path.{◌≡◌, refl, sym, ap, ap₂, ◌∙◌}
use Prim.Native.Nat.{ℕ, zero, suc, ◌+◌, ◌-◌, ◌*◌, ◌^◌, ◌≤◌, ◌<◌}
use native.Mathlib.Omega.{arith}
use borrow.Author.Tests.{eqb-true}
use lib.Bits.{bit_xor, xor_block, xor_lt, xor_zero_r, xor_self}
use lib.Dec.{eqb, lit<}
use lib.ListN.{length, drop, get_or, length-drop}
use native.Mathlib.Nat.{zero-add, add-zero, suc-add}
use Rattle.rules.specs.Choice.{both}
use Rattle.rules.proofs.Choose.{both_left, both_right}
use Rattle.checks_crc.specs.Crc.{shifted, shifts, take_byte}
use Rattle.checks_crc.specs.Runs.{low_first, Fed}
use Rattle.checks_shared.specs.Fold.{fold}
use Rattle.checks_shared.proofs.Fold.{fold-turn}
use Rattle.checks_shared.proofs.Bits.{le-or-lt}
use Rattle.checks_shared.proofs.Xor.{xor_assoc, xor-swap}
use Rattle.checks_crc.proofs.Register.{shifts-xor, shifts-up, shifts-lt}

-- ---- several bytes at a time

shifts-add : (m n r : ℕ) → shifts (m + n) r ≡ shifts n (shifts m r)
unfolding shifts
shifts-add zero n r = ap (λ (k : ℕ). shifts k r) (zero-add n)
shifts-add (suc m) n r = ap (λ (k : ℕ). shifts k r) (suc-add m n) ∙ shifts-add m n (shifted r)

pub eight-more : (n r : ℕ) → shifts (8 * suc n) r ≡ shifts (8 * n) (shifts 8 r)
eight-more n r =
    let e : 8 * suc n ≡ 8 + 8 * n = omega arith in
    ap (λ (k : ℕ). shifts k r) e ∙ shifts-add 8 (8 * n) r

-- the lowest byte of a number is taken in, and the others move down
byte-first : (r b w : ℕ) → b < 256 → shifts 8 (bit_xor r (b + 256 * w)) ≡ bit_xor (take_byte r b) w
byte-first r b w h =
    let apart : bit_xor b (w * 256) ≡ w * 256 + bit_xor b 0 = ap₂ bit_xor (sym (zero-add b)) (sym (add-zero (w * 256))) ∙ xor_block 8 0 w b 0 h (lit< tt) in
    let e : b + 256 * w ≡ bit_xor b (w * 256) = omega (arith, apart, xor_zero_r b) in
    ap (λ (x : ℕ). shifts 8 (bit_xor r x)) e
    ∙ ap (shifts 8) (sym (xor_assoc r b (w * 256)))
    ∙ shifts-xor 8 (bit_xor r b) (w * 256)
    ∙ ap (bit_xor (take_byte r b)) (shifts-up 8 w)

-- the number of some bytes is that of the first two and, above it, that of the others
module _ (f : List ℕ) where
  two-first : (n i : ℕ) → low_first (suc (suc n)) f i ≡ get_or f i 0 + 256 * get_or f (i + 1) 0 + 65536 * low_first n f (i + 2)
  unfolding low_first
  two-first n i =
      let e : i + 1 + 1 ≡ i + 2 = omega arith in
      omega (arith, ap (low_first n f) e)

  pub low-four : (i : ℕ) → low_first 4 f i ≡ get_or f i 0 + 256 * get_or f (i + 1) 0 + 65536 * (get_or f (i + 2) 0 + 256 * get_or f (i + 2 + 1) 0)
  unfolding low_first
  low-four i = omega (arith, two-first 2 i, two-first 0 (i + 2))

  pub low-eight : (i : ℕ) → low_first 8 f i ≡ low_first 4 f i + 4294967296 * low_first 4 f (i + 4)
  low-eight i =
      let e : i + 2 + 2 ≡ i + 4 = omega arith in
      omega (arith, two-first 6 i, two-first 4 (i + 2), ap (low_first 4 f) e, low-four i)

-- n bytes are taken in at once
module _ (f : List ℕ) (bytes : (i : ℕ) → get_or f i 0 < 256) where
  pub fed-run : (n i r : ℕ) → i + n ≤ length f → r < 65536 → Fed f i r (i + n) (shifts (8 * n) (bit_xor r (low_first n f i)))
  unfolding shifts low_first
  fed-run zero i r room h =
      let start : i + 0 ≡ i = omega arith in
      record { small = omega (arith, xor_zero_r r); same = ap₂ (λ (j s : ℕ). fold take_byte s (drop j f)) start (xor_zero_r r) }
  fed-run (suc n) i r room h =
      let b = get_or f i 0 in
      let next = take_byte r b in
      let small : next < 65536 = shifts-lt 8 (bit_xor r b) (xor_lt 16 r b h (omega (arith, bytes i))) in
      let on = fed-run n (i + 1) next (omega arith) small in
      let is : shifts (8 * suc n) (bit_xor r (low_first (suc n) f i)) ≡ shifts (8 * n) (bit_xor next (low_first n f (i + 1))) =
      eight-more n (bit_xor r (b + 256 * low_first n f (i + 1))) ∙ ap (shifts (8 * n)) (byte-first r b (low_first n f (i + 1)) (bytes i)) in
      let there : i + suc n ≡ i + 1 + n = omega arith in
      record {
        small = omega (arith, is, on.small);
        same = ap₂ (λ (j s : ℕ). fold take_byte s (drop j f)) there is ∙ on.same ∙ fold-turn take_byte r f i (omega arith);
      }

-- one byte further
pub fed-next : (f : List ℕ) (r i q t : ℕ) → get_or f i 0 < 256 → i < length f → t ≡ take_byte q (get_or f i 0) → Fed f 0 r i q → Fed f 0 r (i + 1) t
fed-next f r i q t b h e d =
    let small = shifts-lt 8 (bit_xor q (get_or f i 0)) (xor_lt 16 q (get_or f i 0) d.small (omega (arith, b))) in
    record { small = omega (arith, e, small); same = ap (λ (x : ℕ). fold take_byte x (drop (i + 1) f)) e ∙ fold-turn take_byte q f i h ∙ d.same }

-- ---- two runs as one

-- of two registers xored a frame makes what it makes of the one, and what as many zero bytes make of the other
xored-in : (r s : ℕ) (f : List ℕ) → fold take_byte (bit_xor r s) f ≡ bit_xor (shifts (8 * length f) r) (fold take_byte s f)
unfolding fold shifts
xored-in r s [] = refl
xored-in r s (b ∷ f) =
    ap (λ (x : ℕ). fold take_byte x f) (ap (shifts 8) (xor_assoc r s b) ∙ shifts-xor 8 r (bit_xor s b))
    ∙ xored-in (shifts 8 r) (take_byte s b) f
    ∙ ap (λ (x : ℕ). bit_xor x (fold take_byte (take_byte s b) f)) (sym (eight-more (length f) r))

abbrev Linear : (ℕ → ℕ) → Type 0
Linear g = (a b : ℕ) → g (bit_xor a b) ≡ bit_xor (g a) (g b)

-- two that pass through exclusive or and agree on each of n bits are the same on all of them
module _ (g h : ℕ → ℕ) (lg : Linear g) (lh : Linear h) where
  abbrev agree : ℕ → Bool
  agree zero = true
  agree (suc n) = both (eqb (g (2 ^ n)) (h (2 ^ n))) (agree n)

  by_bits : (n : ℕ) → agree n ≡ true → (r : ℕ) → r < 2 ^ n → g r ≡ h r
  by_bits zero t r l =
      let none : r ≡ 0 = omega arith in
      ap g none ∙ lg 0 0 ∙ xor_self (g 0) ∙ sym (xor_self (h 0)) ∙ sym (lh 0 0) ∙ sym (ap h none)
  by_bits (suc n) t r l = go (by_bits n (both_right (eqb (g (2 ^ n)) (h (2 ^ n))) (agree n) t)) (le-or-lt (2 ^ n) r)
    where
      go : ((s : ℕ) → s < 2 ^ n → g s ≡ h s) → (2 ^ n ≤ r) ⊎ (r < 2 ^ n) → g r ≡ h r
      go below (inl top) =
          let s = r - 2 ^ n in
          let small : s < 2 ^ n = omega arith in
          let top_bit : 2 ^ n ≡ 1 * 2 ^ n + 0 = omega arith in
          let rest : s ≡ 0 * 2 ^ n + s = omega arith in
          let is : r ≡ bit_xor (2 ^ n) s = omega (arith, ap₂ bit_xor top_bit rest, xor_block n 1 0 0 s (omega arith) small) in
          ap g is ∙ lg (2 ^ n) s
          ∙ ap₂ bit_xor (eqb-true (g (2 ^ n)) (h (2 ^ n)) (both_left (eqb (g (2 ^ n)) (h (2 ^ n))) (agree n) t)) (below s small)
          ∙ sym (lh (2 ^ n) s) ∙ sym (ap h is)
      go below (inr low) = below r low

abbrev joined : ℕ → ℕ
joined r = bit_xor (bit_xor (shifts 1 r) (shifts 2 r)) (shifts 4 r)

joined-xor : Linear joined
joined-xor a b =
    ap₂ bit_xor (ap₂ bit_xor (shifts-xor 1 a b) (shifts-xor 2 a b) ∙ xor-swap (shifts 1 a) (shifts 1 b) (shifts 2 a) (shifts 2 b)) (shifts-xor 4 a b)
    ∙ xor-swap (bit_xor (shifts 1 a) (shifts 2 a)) (bit_xor (shifts 1 b) (shifts 2 b)) (shifts 4 a) (shifts 4 b)

-- x to the 1024th is x + x^2 + x^4 modulo the polynomial: computed for each bit
pub past-128-bytes : (r : ℕ) → r < 65536 → shifts 1024 r ≡ joined r
unfolding shifted shifts
past-128-bytes r h = by_bits (shifts 1024) joined (shifts-xor 1024) joined-xor 16 refl r h

-- a run over the last 128 bytes from an empty register, and one over those before
pub two_runs : (f : List ℕ) (r m j p q last : ℕ) → length f ≡ m + 128 → Fed f 0 r m p → Fed f m 0 j q → last ≡ fold take_byte q (drop j f)
    → bit_xor (shifts 1024 p) last ≡ fold take_byte r f
two_runs f r m j p q last l d e is =
    let size : 8 * length (drop m f) ≡ 1024 = omega (arith, length-drop m f) in
    ap₂ (λ (n x : ℕ). bit_xor (shifts n p) x) (sym size) (is ∙ e.same)
    ∙ sym (xored-in p 0 (drop m f))
    ∙ ap (λ (x : ℕ). fold take_byte x (drop m f)) (xor_zero_r p)
    ∙ d.same
