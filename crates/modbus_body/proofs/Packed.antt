-- Words and bits as bytes: one more at the end, lengths, and a front of a byte and a count. Assumes nothing.
use mathlib.Core.Path.{◌≡◌, refl, ap, ap₂, ◌∙◌}
use mathlib.Core.List.{List, [], ◌∷◌, ◌++◌, map}
use Prim.Native.Nat.{ℕ, zero, suc, ◌+◌, ◌-◌, ◌*◌, ◌^◌, ◌≤◌, ◌<◌, min}
use native.Mathlib.Nat.{add-zero, sub-zero, pow-suc, pow-le-pow_right, lt_of_lt_of_le, zero-min, min-zero, suc-min-suc}
use native.Mathlib.Numerals.{add-one}
use native.Mathlib.Omega.{arith}
use lib.Dec.{lit<}
use lib.ListN.{length, take, drop, set}
use lib.Seq.{drop-drop}
use Rattle.text_rooms.specs.Room.{overwrite}
use Rattle.text_rooms.proofs.Each.{each-length}
use Rattle.text_rooms.proofs.Overwrite.{overwrite-run, overwrite-join}
use Rattle.table_registers.specs.Table.{up_from}
use Rattle.table_registers.specs.Bits.{cell_at}
use Rattle.modbus_body.specs.Bytes.{word_bytes, bytes_of_words, byte_of, packed}

-- ---- words

pub bytes_of_words-length : (ws : List ℕ) → length (bytes_of_words ws) ≡ 2 * length ws
bytes_of_words-length ws = each-length word_bytes 2 (λ w. refl) ws

-- ---- bits

-- the cells of a run, as they are read
abbrev pub cells : List ℕ → ℕ → ℕ → List ℕ
cells w k n = map (cell_at w) (up_from k n)

pub cells-length : (w : List ℕ) (k n : ℕ) → length (cells w k n) ≡ n
unfolding up_from
cells-length w k zero = refl
cells-length w k (suc n) = ap suc (cells-length w (suc k) n)

-- one bit more at the low end of a byte
pub byte-turn : (w : List ℕ) (k i n : ℕ) → i < n → byte_of (cells w (k + i) (n - i)) ≡ cell_at w (k + i) + 2 * byte_of (cells w (k + (i + 1)) (n - (i + 1)))
unfolding byte_of up_from
byte-turn w k i n h =
    let a : n - i ≡ suc (n - (i + 1)) = omega arith in
    let d : suc (k + i) ≡ k + (i + 1) = omega arith in
    ap (λ (m : ℕ). byte_of (cells w (k + i) m)) a ∙ ap (λ (x : ℕ). cell_at w (k + i) + 2 * byte_of (cells w x (n - (i + 1)))) d

pub byte-end : (w : List ℕ) (k n : ℕ) → 0 ≡ byte_of (cells w (k + n) (n - n))
unfolding byte_of up_from
byte-end w k n = let e : 0 ≡ n - n = omega arith in ap (λ (m : ℕ). byte_of (cells w (k + n) m)) e

pub more-bits : (v b i n : ℕ) → i < n → v < 2 ^ (n - (i + 1)) → b < 2 → 2 * v + b < 2 ^ (n - i)
more-bits v b i n h p q =
    let a : n - i ≡ suc (n - (i + 1)) = omega arith in
    rw (a, pow-suc) (omega arith)

pub few_bits : (v m : ℕ) → v < 2 ^ m → m ≤ 7 → v < 128
few_bits v m h k = lt_of_lt_of_le h (pow-le-pow_right (lit< tt) k)

cells-drop : (w : List ℕ) (f n d : ℕ) → drop d (cells w f n) ≡ cells w (f + d) (n - d)
unfolding up_from
cells-drop w f n zero = rw (add-zero, sub-zero)
cells-drop w f zero (suc d) = let e : 0 ≡ 0 - suc d = omega arith in ap (λ (m : ℕ). cells w (f + suc d) m) e
cells-drop w f (suc n) (suc d) =
    let a : suc f + d ≡ f + suc d = omega arith in
    let b : n - d ≡ suc n - suc d = omega arith in
    cells-drop w (suc f) n d ∙ ap₂ (λ (x y : ℕ). cells w x y) a b

cells-take : (w : List ℕ) (f n m : ℕ) → take m (cells w f n) ≡ cells w f (min m n)
unfolding up_from
cells-take w f n zero = rw zero-min
cells-take w f zero (suc m) = rw min-zero
cells-take w f (suc n) (suc m) = rw suc-min-suc (ap (λ (l : List ℕ). cell_at w f ∷ l) (cells-take w (suc f) n m))

-- the eight bits of byte j, or as many as there are
pub cells-part : (w : List ℕ) (f n j : ℕ) → byte_of (take 8 (drop (8 * j) (cells w f n))) ≡ byte_of (cells w (f + 8 * j) (min 8 (n - 8 * j)))
cells-part w f n j = ap byte_of (ap (take 8) (cells-drop w f n (8 * j)) ∙ cells-take w (f + 8 * j) (n - 8 * j) 8)

packed-suc : (n : ℕ) (bs : List ℕ) → packed (suc n) bs ≡ packed n bs ++ (byte_of (take 8 (drop (8 * n) bs)) ∷ [])
unfolding packed
packed-suc zero bs = refl
packed-suc (suc n) bs =
    let e : 8 + 8 * n ≡ 8 * suc n = omega arith in
    ap (λ (l : List ℕ). byte_of (take 8 bs) ∷ l) (packed-suc n (drop 8 bs)
    ∙ ap (λ (l : List ℕ). packed n (drop 8 bs) ++ (byte_of (take 8 l) ∷ [])) (drop-drop (8 * n) 8 bs ∙ ap (λ (k : ℕ). drop k bs) e))

pub packed_more : (n : ℕ) (bs : List ℕ) → packed (n + 1) bs ≡ packed n bs ++ (byte_of (take 8 (drop (8 * n) bs)) ∷ [])
packed_more n bs = rw add-one (packed-suc n bs)

pub packed-length : (n : ℕ) (bs : List ℕ) → length (packed n bs) ≡ n
unfolding packed
packed-length zero bs = refl
packed-length (suc n) bs = ap suc (packed-length n (drop 8 bs))

-- two stores and a write after them are one write: a byte, a count and what it counts
pub front : (xs bs : List ℕ) (at f n k : ℕ) → at + 256 ≤ length xs → f ≡ k → n ≡ length bs → overwrite (set (set xs at f) (at + 1) n) (at + 2) bs ≡ overwrite xs at (k ∷ length bs ∷ bs)
front xs bs at f n k h ek en =
    ap (λ (l : List ℕ). overwrite l (at + 2) bs) (rw add-one (overwrite-run xs (f ∷ n ∷ []) at (omega arith)))
    ∙ overwrite-join xs (f ∷ n ∷ []) bs at (at + 2) (omega arith) refl
    ∙ ap (overwrite xs at) (rw (ek, en))
