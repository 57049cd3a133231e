-- What it is to be bytes, and a frame's bits as a list in the order of the line: the statements speak of positions, the proofs go by the
-- list, and `line_at` and `flipped-count` lead from one to the other. Assumes nothing.
use mathlib.Core.Bool.{Bool, true, false}
use mathlib.Core.List.{List, [], ◌∷◌, ◌++◌}
use mathlib.Core.Path.{◌≡◌, refl, sym, ap, ap₂, ◌∙◌, subst}
use mathlib.Core.Logic.{◌⊎◌, inl, inr, ⊎_elim}
use Prim.Native.Nat.{ℕ, zero, suc, ◌+◌, ◌-◌, ◌*◌, ◌/◌, ◌%◌, ◌^◌, ◌≤◌, ◌<◌, zero-le, suc-le-suc}
use native.Mathlib.Nat.{div-one, zero-div, suc_inj, le_of_suc-le-suc, zero-lt-suc, not-suc-le-zero}
use native.Mathlib.Numerals.{one-add}
use native.Mathlib.Omega.{arith}
use lib.Bits.{bit_xor, differ, xor_shr, xor_lt}
use lib.Count.{ones}
use lib.ListN.{length, get_or, take, drop, take-append-drop, get_or-append}
use lib.Pow.{shr-shr}
use lib.Seq.{get_or-append-add}
use Rattle.rules.specs.Choice.{between, all_between}
use Rattle.rules.proofs.Choose.{both_left, both_right, in-range}
use Rattle.checks_shared.specs.Line.{Bytes, bit_at, total, flipped}
use Rattle.checks_shared.proofs.Xor.{xor-odd, digit_lt, differ-lt}

-- a digit as a bit, and back
abbrev pub is_one : ℕ → Bool
is_one zero = false
is_one (suc n) = true

abbrev pub digit : Bool → ℕ
digit true = 1
digit false = 0

pub digit-is_one : (d : ℕ) → d < 2 → digit (is_one d) ≡ d
digit-is_one zero h = refl
digit-is_one (suc zero) h = refl
digit-is_one (suc (suc d)) h = absurd (omega arith)

-- the n lowest bits of b, the lowest first
unfoldable pub bits_of : ℕ → ℕ → List Bool
bits_of zero b = []
bits_of (suc n) b = is_one (b % 2) ∷ bits_of n (b / 2)

unfoldable pub line : List ℕ → List Bool
line [] = []
line (b ∷ bs) = bits_of 8 b ++ line bs

-- the bytes xored one by one
unfoldable pub xors : List ℕ → List ℕ → List ℕ
xors [] y = []
xors (a ∷ x) [] = []
xors (a ∷ x) (b ∷ y) = bit_xor a b ∷ xors x y

unfoldable pub count : List Bool → ℕ
count [] = 0
count (true ∷ bs) = suc (count bs)
count (false ∷ bs) = count bs

pub count-append : (x y : List Bool) → count (x ++ y) ≡ count x + count y
unfolding count
count-append [] y = omega arith
count-append (true ∷ x) y = omega (arith, count-append x y)
count-append (false ∷ x) y = count-append x y

pub xors-bytes : (f g : List ℕ) → Bytes f → Bytes g → Bytes (xors f g)
unfolding xors Bytes
xors-bytes [] g hf hg = tt
xors-bytes (a ∷ f) [] hf hg = tt
xors-bytes (a ∷ f) (b ∷ g) hf hg = (xor_lt 8 a b hf.0 hg.0, xors-bytes f g hf.1 hg.1)

pub xors-length : (f g : List ℕ) → length f ≡ length g → length (xors f g) ≡ length f
unfolding xors
xors-length [] g l = refl
xors-length (a ∷ f) [] l = absurd (omega arith)
xors-length (a ∷ f) (b ∷ g) l = ap suc (xors-length f g (suc_inj l))

-- a list whose every element is a byte, by a test
pub bytes-by : (f : List ℕ) → all_between 0 255 f ≡ true → Bytes f
unfolding Bytes all_between
bytes-by [] e = tt
bytes-by (a ∷ f) e = let r = in-range 0 255 a (both_left _ _ e) in (omega arith, bytes-by f (both_right (between 0 255 a) _ e))

pub bytes-front : (x y : List ℕ) → Bytes (x ++ y) → Bytes x
unfolding Bytes
bytes-front [] y h = tt
bytes-front (a ∷ x) y h = (h.0, bytes-front x y h.1)

pub bytes_back : (x y : List ℕ) → Bytes (x ++ y) → Bytes y
unfolding Bytes
bytes_back [] y h = h
bytes_back (a ∷ x) y h = bytes_back x y h.1

pub bytes_take : (n : ℕ) (f : List ℕ) → Bytes f → Bytes (take n f)
bytes_take n f h = bytes-front (take n f) (drop n f) (subst Bytes (sym (take-append-drop n f)) h)

pub bytes_drop : (n : ℕ) (f : List ℕ) → Bytes f → Bytes (drop n f)
bytes_drop n f h = bytes_back (take n f) (drop n f) (subst Bytes (sym (take-append-drop n f)) h)

pub byte-below : (f : List ℕ) (i : ℕ) → Bytes f → get_or f i 0 < 256
unfolding Bytes
byte-below [] i h = omega arith
byte-below (a ∷ f) zero h = h.0
byte-below (a ∷ f) (suc i) h = byte-below f i h.1

-- a list whose every cell is a byte, as a lent slice is known by
pub bytes_of : (f : List ℕ) → ((i : ℕ) → get_or f i 0 < 256) → Bytes f
unfolding Bytes
bytes_of [] h = tt
bytes_of (a ∷ f) h = (h 0, bytes_of f (λ i. h (suc i)))

pub line-length : (bs : List ℕ) → length (line bs) ≡ 8 * length bs
unfolding line bits_of
line-length [] = refl
line-length (b ∷ bs) = omega (arith, line-length bs)

-- ---- by position

bits_at : (n b k : ℕ) → k < n → get_or (bits_of n b) k false ≡ is_one (b / 2 ^ k % 2)
unfolding bits_of
bits_at zero b k h = absurd (not-suc-le-zero h)
bits_at (suc n) b zero h = ap (λ (x : ℕ). is_one (x % 2)) (sym (div-one b))
bits_at (suc n) b (suc k) h =
    bits_at n (b / 2) k (le_of_suc-le-suc h)
    ∙ ap (λ (x : ℕ). is_one (x % 2)) (shr-shr b 1 k ∙ ap (λ (j : ℕ). b / 2 ^ j) (one-add k))

bit-low : (b : ℕ) (bs : List ℕ) (k : ℕ) → k < 8 → bit_at (b ∷ bs) k ≡ b / 2 ^ k % 2
unfolding bit_at
bit-low b bs k h =
    let q : k / 8 ≡ 0 = omega arith in
    let r : k % 8 ≡ k = omega arith in
    ap₂ (λ (i j : ℕ). get_or (b ∷ bs) i 0 / 2 ^ j % 2) q r

bit_high : (b : ℕ) (bs : List ℕ) (k : ℕ) → bit_at (b ∷ bs) (8 + k) ≡ bit_at bs k
unfolding bit_at
bit_high b bs k =
    let q : (8 + k) / 8 ≡ suc (k / 8) = omega arith in
    let r : (8 + k) % 8 ≡ k % 8 = omega arith in
    ap₂ (λ (i j : ℕ). get_or (b ∷ bs) i 0 / 2 ^ j % 2) q r

pub le-or-lt : (a b : ℕ) → (a ≤ b) ⊎ (b < a)
le-or-lt zero b = inl zero-le
le-or-lt (suc a) zero = inr (suc-le-suc zero-le)
le-or-lt (suc a) (suc b) = ⊎_elim (λ p. inl (suc-le-suc p)) (λ q. inr (suc-le-suc q)) (le-or-lt a b)

low_or_high : (k : ℕ) → (k < 8) ⊎ ((j : ℕ) × (k ≡ 8 + j))
low_or_high k = go (le-or-lt 8 k)
  where
    go : (8 ≤ k) ⊎ (k < 8) → (k < 8) ⊎ ((j : ℕ) × (k ≡ 8 + j))
    go (inl h) = inr (k - 8, omega arith)
    go (inr h) = inl h

line_at : (bs : List ℕ) (k : ℕ) → get_or (line bs) k false ≡ is_one (bit_at bs k)
unfolding line bit_at bits_of
line_at [] k = sym (ap (λ (x : ℕ). is_one (x % 2)) (zero-div (2 ^ (k % 8))))
line_at (b ∷ bs) k = go (line_at bs) (low_or_high k)
  where
    go : ((j : ℕ) → get_or (line bs) j false ≡ is_one (bit_at bs j))
        → (k < 8) ⊎ ((j : ℕ) × (k ≡ 8 + j)) → get_or (bits_of 8 b ++ line bs) k false ≡ is_one (bit_at (b ∷ bs) k)
    go ih (inl h) = get_or-append (bits_of 8 b) (line bs) false k h ∙ bits_at 8 b k h ∙ ap is_one (sym (bit-low b bs k h))
    go ih (inr (j, e)) =
        ap (λ (i : ℕ). get_or (bits_of 8 b ++ line bs) i false) e
        ∙ get_or-append-add (bits_of 8 b) (line bs) j false
        ∙ ih j
        ∙ ap is_one (sym (bit_high b bs j))
        ∙ ap (λ (i : ℕ). is_one (bit_at (b ∷ bs) i)) (sym e)

xors-get : (f g : List ℕ) (i : ℕ) → length f ≡ length g → get_or (xors f g) i 0 ≡ bit_xor (get_or f i 0) (get_or g i 0)
unfolding xors
xors-get [] [] i l = refl
xors-get [] (b ∷ g) i l = absurd (omega arith)
xors-get (a ∷ f) [] i l = absurd (omega arith)
xors-get (a ∷ f) (b ∷ g) zero l = refl
xors-get (a ∷ f) (b ∷ g) (suc i) l = xors-get f g i (suc_inj l)

xors-at : (f g : List ℕ) (k : ℕ) → length f ≡ length g → bit_at (xors f g) k ≡ differ (bit_at f k) (bit_at g k)
unfolding bit_at
xors-at f g k l =
    let a = get_or f (k / 8) 0 in
    let b = get_or g (k / 8) 0 in
    let p = 2 ^ (k % 8) in
    ap (λ (x : ℕ). x / p % 2) (xors-get f g (k / 8) l)
    ∙ ap (λ (x : ℕ). x % 2) (xor_shr a b (k % 8))
    ∙ xor-odd (a / p) (b / p)

-- ---- counted

pub ones-zero : ones 0 ≡ 0
unfolding ones
ones-zero = refl

total_ext : (n : ℕ) (g h : ℕ → ℕ) → ((k : ℕ) → k < n → g k ≡ h k) → total n g ≡ total n h
unfolding total
total_ext zero g h e = refl
total_ext (suc n) g h e =
    ap₂ ◌+◌ (e 0 (zero-lt-suc n)) (total_ext n (λ k. g (suc k)) (λ k. h (suc k)) (λ k l. e (suc k) (suc-le-suc l)))

count-total : (l : List Bool) → total (length l) (λ k. digit (get_or l k false)) ≡ count l
unfolding total count
count-total [] = refl
count-total (true ∷ l) = omega (arith, count-total l)
count-total (false ∷ l) = omega (arith, count-total l)

-- the k-th bit of the line of the difference
pub flip-at : (f g : List ℕ) (k : ℕ) → length f ≡ length g → get_or (line (xors f g)) k false ≡ is_one (differ (bit_at f k) (bit_at g k))
flip-at f g k l = line_at (xors f g) k ∙ ap is_one (xors-at f g k l)

pub bit-lt : (f : List ℕ) (k : ℕ) → bit_at f k < 2
unfolding bit_at
bit-lt f k = digit_lt (get_or f (k / 8) 0 / 2 ^ (k % 8))

-- by position and by list, the same number
pub flipped-count : (f g : List ℕ) → length f ≡ length g → flipped f g ≡ count (line (xors f g))
unfolding flipped
flipped-count f g l =
    ap (λ (n : ℕ). total n (λ k. differ (bit_at f k) (bit_at g k))) (sym (line-length (xors f g) ∙ ap (λ (n : ℕ). 8 * n) (xors-length f g l)))
    ∙ total_ext (length (line (xors f g))) (λ k. differ (bit_at f k) (bit_at g k)) (λ k. digit (get_or (line (xors f g)) k false))
    (λ k h. sym (ap digit (flip-at f g k l) ∙ digit-is_one (differ (bit_at f k) (bit_at g k)) (differ-lt (bit_at f k) (bit_at g k) (bit-lt f k) (bit-lt g k))))
    ∙ count-total (line (xors f g))
