-- What the CRC shows of damage on the line: two right frames of one length differ in an even number of bits, never in exactly two where
-- they have 256 bytes at most, and never only within 16 bits in a row. For their difference leaves the register empty. Assumes nothing.
use mathlib.Core.Bool.{Bool, true, false}
use mathlib.Core.List.{List, [], ◌∷◌}
use mathlib.Core.Logic.{◌≢◌}
use mathlib.Core.Path.{◌≡◌, refl, sym, ap, ap₂, ◌∙◌}
use Prim.Native.Nat.{ℕ, suc, ◌+◌, ◌%◌, ◌≤◌, ◌<◌, suc-le-suc}
use native.Mathlib.Nat.{zero-lt-suc}
use native.Mathlib.Omega.{arith}
use lib.Bits.{bit_xor, differ}
use lib.ListN.{length, get_or, take, drop, length-take}
use lib.Seq.{get_or-take, get_or-drop}
use Rattle.checks_crc.specs.Crc.{take_byte, crc_of, crc_bytes, right_crc}
use Rattle.checks_shared.specs.Line.{Bytes, bit_at, flipped}
use Rattle.theorems_damage.specs.Damage.{Damage, few, odd, burst}
use Rattle.checks_shared.proofs.Closed.{closed-split}
use Rattle.checks_shared.proofs.Fold.{fold-append}
use Rattle.checks_shared.proofs.Xor.{differ_self}
use Rattle.checks_crc.proofs.Register.{crc-xor, own-crc}
use Rattle.checks_shared.proofs.Bits.{digit, line, xors, count, is_one, xors-bytes, xors-length, line-length, flip-at, flipped-count}
use Rattle.theorems_damage.proofs.Feed.{feed, feed-line, odd-shows, two-show, window-shows}

no_ones : (l : List Bool) → ((k : ℕ) → k < length l → get_or l k false ≡ true → ⊥) → count l ≡ 0
unfolding count
no_ones [] h = refl
no_ones (true ∷ l) h = absurd (h 0 (zero-lt-suc (length l)) refl)
no_ones (false ∷ l) h = no_ones l (λ k b. h (suc k) (suc-le-suc b))

-- a bit of the difference is set only where the frames differ
differs : (f g : List ℕ) (k : ℕ) → length f ≡ length g → get_or (line (xors f g)) k false ≡ true → bit_at f k ≢ bit_at g k
differs f g k l t e =
    let same : differ (bit_at f k) (bit_at g k) ≡ 0 = ap (differ (bit_at f k)) (sym e) ∙ differ_self (bit_at f k) in
    let z : is_one 0 ≡ true = sym (ap is_one same) ∙ sym (flip-at f g k l) ∙ t in
    let no_way : ◌≡◌ {A = ℕ} 0 1 = ap digit z in
    omega arith

-- a frame that ends in its own CRC leaves the register empty
right-empties : (f : List ℕ) → right_crc f ≡ true → crc_of f ≡ 0
right-empties f r =
    let (m, e) = closed-split crc_bytes f r in
    ap crc_of e ∙ fold-append take_byte 0xFFFF m (crc_bytes m) ∙ own-crc (crc_of m)

module _ (f g : List ℕ) (bf : Bytes f) (bg : Bytes g) (l : length f ≡ length g) (rf : right_crc f ≡ true) (rg : right_crc g ≡ true) where
  -- the register that the difference leaves
  both : feed 0 (line (xors f g)) ≡ 0
  both =
      sym (feed-line 0 (xors f g) (xors-bytes f g bf bg))
      ∙ crc-xor 0xFFFF 0xFFFF f g l
      ∙ ap₂ bit_xor (right-empties f rf) (right-empties g rg)

  even-flips : flipped f g % 2 ≡ 0
  even-flips = ap (λ (n : ℕ). n % 2) (flipped-count f g l) ∙ odd-shows (line (xors f g)) both

  not-two-flips : length f ≤ 256 → flipped f g ≢ 2
  not-two-flips s e =
      two-show (line (xors f g)) (omega (arith, line-length (xors f g), xors-length f g l)) (sym (flipped-count f g l) ∙ e) both

  -- where no bit is set before p and none from p + 16 on, none is set
  not-within-16 : (p : ℕ) → ((k : ℕ) → k < p → get_or (line (xors f g)) k false ≡ true → ⊥)
      → ((k : ℕ) → get_or (line (xors f g)) (p + (16 + k)) false ≡ true → ⊥) → 0 < flipped f g → ⊥
  not-within-16 p early late some =
      let e = line (xors f g) in
      let before : count (take p e) ≡ 0 = no_ones (take p e)
      (λ k b t. let kp : k < p = omega (arith, length-take p e) in early k kp (sym (get_or-take p e k false kp) ∙ t)) in
      let after : count (drop 16 (drop p e)) ≡ 0 = no_ones (drop 16 (drop p e))
      (λ k b t. late k (sym (get_or-drop 16 (drop p e) k false ∙ get_or-drop p e (16 + k) false) ∙ t)) in
      omega (arith, flipped-count f g l, window-shows p e before after both)

  -- the line's damage never makes a right frame of a right one
  pub not-damaged : length f ≤ 256 → Damage f g → ⊥
  not-damaged s (few lo hi) = not-two-flips s (omega (arith, even-flips))
  not-damaged s (odd o) = omega (arith, even-flips)
  not-damaged s (burst p h some) =
      not-within-16 p (λ k b t. omega (arith, h k (differs f g k l t))) (λ k t. omega (arith, h (p + (16 + k)) (differs f g (p + (16 + k)) l t))) some
