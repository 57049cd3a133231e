-- The register fed bit by bit, in the order of the line, and which bits leave it empty: never an odd number of ones (the polynomial's
-- ones are even in number), never two within 2,048 (computed), never only some within 16 (walked backwards). Assumes nothing.
use mathlib.Core.Bool.{Bool, true, false, not, ◌&&◌}
use mathlib.Core.Logic.{◌⊎◌, inl, inr}
use mathlib.Core.Path.{◌≡◌, refl, sym, ap, ◌∙◌, subst}
use mathlib.Core.List.{List, [], ◌∷◌, ◌++◌}
use Prim.Native.Nat.{ℕ, zero, suc, ◌+◌, ◌*◌, ◌/◌, ◌%◌, ◌^◌, ◌≤◌, ◌<◌}
use native.Mathlib.Omega.{arith}
use native.Mathlib.Nat.{le_of_suc-le-suc, le_of_suc-le, suc_inj, le_refl}
use lib.Arith.{lt-one, bin_ind}
use lib.Bits.{bit_xor, differ, xor_comm, xor_lt, xor_zero_r}
use lib.Count.{ones, ones_step, ones_cat}
use lib.Dec.{T, eqb, eqb_refl, T_not, lit<}
use lib.ListN.{length, take, drop}
use lib.Pow.{pow_pos, pow_mono}
use Rattle.checks_crc.specs.Crc.{shifted, shifts, take_byte}
use Rattle.checks_shared.specs.Fold.{fold}
use Rattle.checks_shared.specs.Line.{Bytes}
use Rattle.checks_shared.proofs.Bits.{is_one, bits_of, line, count, ones-zero}
use Rattle.checks_shared.proofs.Xor.{xor-cancel, xor_assoc, xor-one, xor-half, xor-odd, digit_lt}
use Rattle.checks_crc.proofs.Register.{even-or-odd, shifted_even, shifted-odd, shifted-top, shifted-lt, shifted-nonzero, shifted-xor}

-- a bit is xored in at the low end, and one bit leaves
unfoldable pub feed : ℕ → List Bool → ℕ
feed r [] = r
feed r (true ∷ bs) = feed (shifted (bit_xor r 1)) bs
feed r (false ∷ bs) = feed (shifted r) bs

feed-append : (r : ℕ) (x y : List Bool) → feed r (x ++ y) ≡ feed (feed r x) y
unfolding feed
feed-append r [] y = refl
feed-append r (true ∷ x) y = feed-append (shifted (bit_xor r 1)) x y
feed-append r (false ∷ x) y = feed-append (shifted r) x y

-- to xor a number in and then shift n times is to feed its n bits
feed-bits : (n r b : ℕ) → b < 2 ^ n → shifts n (bit_xor r b) ≡ feed r (bits_of n b)
unfolding shifts feed bits_of shifted
feed-bits zero r b h = ap (bit_xor r) (lt-one h) ∙ xor_zero_r r
feed-bits (suc n) r b h = go (λ s. feed-bits n s (b / 2) (omega arith)) (even-or-odd b)
  where
    go : ((s : ℕ) → shifts n (bit_xor s (b / 2)) ≡ feed s (bits_of n (b / 2)))
        → (b % 2 ≡ 0) ⊎ (b % 2 ≡ 1) → shifts n (shifted (bit_xor r b)) ≡ feed r (is_one (b % 2) ∷ bits_of n (b / 2))
    go ih (inl e) =
        ap (shifts n) (shifted-xor r b ∙ ap (bit_xor (shifted r)) (shifted_even b e))
        ∙ ih (shifted r)
        ∙ sym (ap (λ (d : ℕ). feed r (is_one d ∷ bits_of n (b / 2))) e)
    go ih (inr e) =
        ap (shifts n)
        (shifted-xor r b
        ∙ ap (bit_xor (shifted r)) (shifted-odd b e ∙ xor_comm (b / 2) 0xA001)
        ∙ sym (xor_assoc (shifted r) 0xA001 (b / 2))
        ∙ ap (λ (t : ℕ). bit_xor t (b / 2)) (sym (shifted-xor r 1)))
        ∙ ih (shifted (bit_xor r 1))
        ∙ sym (ap (λ (d : ℕ). feed r (is_one d ∷ bits_of n (b / 2))) e)

pub feed-line : (r : ℕ) (bs : List ℕ) → Bytes bs → fold take_byte r bs ≡ feed r (line bs)
unfolding fold feed line Bytes
feed-line r [] h = refl
feed-line r (b ∷ bs) h =
    ap (λ (s : ℕ). fold take_byte s bs) (feed-bits 8 r b h.0)
    ∙ feed-line (feed r (bits_of 8 b)) bs h.1
    ∙ sym (feed-append r (bits_of 8 b) (line bs))

-- ---- the parity of the ones

carry : (x y : ℕ) → x < 2 → y < 2 → (c : ℕ) × (differ x y + c * 2 ≡ x + y)
carry zero y h k = (0, omega arith)
carry (suc zero) zero h k = (0, refl)
carry (suc zero) (suc zero) h k = (1, refl)
carry (suc zero) (suc (suc y)) h k = absurd (omega arith)
carry (suc (suc x)) y h k = absurd (omega arith)

-- exclusive or loses ones by twos
ones-xor : (a b : ℕ) → (c : ℕ) × (ones (bit_xor a b) + c * 2 ≡ ones a + ones b)
ones-xor =
    bin_ind (λ (n : ℕ). (b : ℕ) → (c : ℕ) × (ones (bit_xor n b) + c * 2 ≡ ones n + ones b)) (λ b. (0, omega (arith, ones-zero)))
    (λ n ih b.
    let d = carry (n % 2) (b % 2) (digit_lt n) (digit_lt b) in
    let i = ih (b / 2) in
    (d.0 + i.0, omega (arith, ones_step (bit_xor n b), ones_step n, ones_step b, ap ones (xor-half n b), xor-odd n b, d.1, i.1)))

-- A001h has three ones
ones-poly : ones 0xA001 ≡ 3
unfolding ones
ones-poly = ones_cat 13 5 1 (lit< tt)

ones-one : ones 1 ≡ 1
unfolding ones
ones-one = refl

ones-shifted : (r : ℕ) → ones (shifted r) % 2 ≡ ones r % 2
ones-shifted r = go (even-or-odd r)
  where
    go : (r % 2 ≡ 0) ⊎ (r % 2 ≡ 1) → ones (shifted r) % 2 ≡ ones r % 2
    go (inl e) = omega (arith, ap ones (shifted_even r e), ones_step r)
    go (inr e) = omega (arith, ap ones (shifted-odd r e), ones_step r, (ones-xor (r / 2) 0xA001).1, ones-poly)

feed-parity : (r : ℕ) (bs : List Bool) → ones (feed r bs) % 2 ≡ (ones r + count bs) % 2
unfolding feed count
feed-parity r [] = omega arith
feed-parity r (true ∷ bs) = omega (arith, feed-parity (shifted (bit_xor r 1)) bs, ones-shifted (bit_xor r 1), (ones-xor r 1).1, ones-one)
feed-parity r (false ∷ bs) = omega (arith, feed-parity (shifted r) bs, ones-shifted r)

-- an odd number of ones leaves the register with one at least
pub odd-shows : (bs : List Bool) → feed 0 bs ≡ 0 → count bs % 2 ≡ 0
odd-shows bs z = omega (arith, feed-parity 0 bs, ap ones z, ones-zero)

-- ---- zeros hide nothing

flip-lt : (r : ℕ) → r < 65536 → bit_xor r 1 < 65536
flip-lt r h = xor_lt 16 r 1 h (lit< tt)

quiet : (bs : List Bool) (r : ℕ) → r < 65536 → count bs ≡ 0 → feed r bs ≡ 0 → r ≡ 0
unfolding feed count
quiet [] r h k z = z
quiet (true ∷ bs) r h k z = absurd (omega arith)
quiet (false ∷ bs) r h k z = shifted-nonzero r h (quiet bs (shifted r) (shifted-lt r h) k z)

-- ---- two ones, not too far apart

-- r, and what n - 1 shifts make of it, is never 1, which is what a second one would cancel
unfoldable walk : ℕ → ℕ → Bool
walk zero r = true
walk (suc n) r = not (eqb r 1) && walk n (shifted r)

-- antt computes this
walk-far : T (walk 2047 (shifted 1))
unfolding walk shifted
walk-far = tt

and_left : (a b : Bool) → T (a && b) → T a
and_left true b t = tt
and_left false b t = t

and_right : (a b : Bool) → T (a && b) → T b
and_right true b t = t
and_right false b t = absurd t

-- a single one after the first
second : (bs : List Bool) (n r : ℕ) → T (walk n r) → length bs ≤ n → r < 65536 → count bs ≡ 1 → feed r bs ≡ 0 → ⊥
unfolding feed count walk
second [] n r t l h k z = omega arith
second (b ∷ bs) zero r t l h k z = omega arith
second (false ∷ bs) (suc n) r t l h k z =
    second bs n (shifted r) (and_right (not (eqb r 1)) (walk n (shifted r)) t) (le_of_suc-le-suc l) (shifted-lt r h) k z
second (true ∷ bs) (suc n) r t l h k z =
    let s : bit_xor r 1 ≡ 0 = shifted-nonzero (bit_xor r 1) (flip-lt r h) (quiet bs (shifted (bit_xor r 1)) (shifted-lt (bit_xor r 1) (flip-lt r h)) (suc_inj k) z) in
    let one : r ≡ 1 = sym (xor-cancel r 1) ∙ ap (λ (x : ℕ). bit_xor x 1) s in
    T_not (eqb r 1) (and_left (not (eqb r 1)) (walk n (shifted r)) t) (subst (λ (x : ℕ). T (eqb x 1)) (sym one) (eqb_refl 1))

pub two-show : (bs : List Bool) → length bs ≤ 2048 → count bs ≡ 2 → feed 0 bs ≡ 0 → ⊥
unfolding feed count shifted
two-show [] l k z = omega arith
two-show (true ∷ bs) l k z = second bs 2047 (shifted 1) walk-far (le_of_suc-le-suc l) (lit< tt) (suc_inj k) z
two-show (false ∷ bs) l k z = two-show bs (le_of_suc-le l) k z

-- ---- ones within 16 bits

-- the bits as a number, the lowest first
unfoldable value : List Bool → ℕ
value [] = 0
value (true ∷ bs) = value bs * 2 + 1
value (false ∷ bs) = value bs * 2

value_none : (bs : List Bool) → count bs ≡ 0 → value bs ≡ 0
unfolding value count
value_none [] k = refl
value_none (true ∷ bs) k = absurd (omega arith)
value_none (false ∷ bs) k = ap (λ (x : ℕ). x * 2) (value_none bs k)

none-value : (bs : List Bool) → value bs ≡ 0 → count bs ≡ 0
unfolding value count
none-value [] k = refl
none-value (true ∷ bs) k = absurd (omega arith)
none-value (false ∷ bs) k = none-value bs (omega arith)

clear : (n r : ℕ) → n < 16 → r < 65536 → shifted r < 2 ^ n → r % 2 ≡ 0
clear n r l h k = go (even-or-odd r)
  where
    go : (r % 2 ≡ 0) ⊎ (r % 2 ≡ 1) → r % 2 ≡ 0
    go (inl e) = e
    go (inr e) = absurd (omega (arith, shifted-top r h e, pow_mono {j = 15} (le_of_suc-le-suc l)))

-- Backwards: where n bits at most are set and the register ends empty, it began as those bits. For a register below 2 ^ 15 after a
-- shift had its lowest bit clear before it.
began : (n : ℕ) (bs : List Bool) (r : ℕ) → n ≤ 16 → r < 65536 → count (drop n bs) ≡ 0 → feed r bs ≡ 0 → (r ≡ value bs) × (r < 2 ^ n)
unfolding feed count value
began zero bs r l h k z = let e = quiet bs r h k z in (e ∙ sym (value_none bs k), omega arith)
began (suc n) [] r l h k z = (z, omega (arith, pow_pos (suc n)))
began (suc n) (true ∷ bs) r l h k z =
    let x = flip-lt r h in
    let ih = began n bs (shifted (bit_xor r 1)) (le_of_suc-le l) (shifted-lt (bit_xor r 1) x) k z in
    let e = clear n (bit_xor r 1) l x ih.1 in
    omega (arith, ih, e, shifted_even (bit_xor r 1) e, xor-one r)
began (suc n) (false ∷ bs) r l h k z =
    let ih = began n bs (shifted r) (le_of_suc-le l) (shifted-lt r h) k z in
    let e = clear n r l h ih.1 in
    omega (arith, ih, e, shifted_even r e)

pub window-shows : (p : ℕ) (bs : List Bool) → count (take p bs) ≡ 0 → count (drop 16 (drop p bs)) ≡ 0 → feed 0 bs ≡ 0 → count bs ≡ 0
unfolding feed count shifted
window-shows zero bs a d z = none-value bs (sym (began 16 bs 0 (le_refl 16) (lit< tt) d z).0)
window-shows (suc p) [] a d z = refl
window-shows (suc p) (true ∷ bs) a d z = absurd (omega arith)
window-shows (suc p) (false ∷ bs) a d z = window-shows p bs a d z
