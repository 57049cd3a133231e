-- Laws of cells written left to right: one turn and the end of the two loops that write them, and what they leave alone.
-- Assumes nothing.
use mathlib.Core.Path.{◌≡◌, refl, ap, ap₂, ◌∙◌}
use mathlib.Core.List.{List, [], ◌∷◌, map}
use mathlib.Core.Bool.{Bool}
use Prim.Native.Nat.{ℕ, suc, ◌+◌, ◌-◌, ◌≤◌, ◌<◌}
use native.Mathlib.Numerals.{add-one}
use native.Mathlib.Omega.{arith}
use lib.ListN.{length, drop, get_or, length-set, drop_of_length-le}
use lib.Seq.{drop-cons}
use Rattle.table_registers.specs.Table.{up_from}
use Rattle.table_registers.specs.Bits.{on_of, put_cell, put_cells, bit_at, bits_from}
use Rattle.table_registers.proofs.Lacking.{one_more}

pub put_cells-none : (w cs : List ℕ) → put_cells w cs [] ≡ w
unfolding put_cells
put_cells-none w [] = refl
put_cells-none w (c ∷ cs) = refl

pub put_cells-length : (w cs : List ℕ) (vs : List Bool) → length (put_cells w cs vs) ≡ length w
unfolding put_cells
put_cells-length w [] vs = refl
put_cells-length w (c ∷ cs) [] = refl
put_cells-length w (c ∷ cs) (v ∷ vs) = put_cells-length (put_cell w c v) cs vs ∙ simp length-set

-- ---- a run of cells from packed bits

pub coils-turn : (w bytes : List ℕ) (k i n : ℕ) → i < n
    → put_cells w (up_from (k + i) (n - i)) (bits_from bytes i (n - i))
    ≡ put_cells (put_cell w (k + i) (bit_at bytes i)) (up_from (k + (i + 1)) (n - (i + 1))) (bits_from bytes (i + 1) (n - (i + 1)))
unfolding put_cells up_from bits_from
coils-turn w bytes k i n h =
    let e : suc (k + i) ≡ k + (i + 1) = omega arith in
    let s : suc i ≡ i + 1 = omega arith in
    ap (λ (m : ℕ). put_cells w (up_from (k + i) m) (bits_from bytes i m)) (one_more i n h)
    ∙ ap₂ (λ (x y : ℕ). put_cells (put_cell w (k + i) (bit_at bytes i)) (up_from x (n - (i + 1))) (bits_from bytes y (n - (i + 1)))) e s

pub coils-end : (w bytes : List ℕ) (k i n : ℕ) → n ≤ i → put_cells w (up_from k (n - i)) (bits_from bytes i (n - i)) ≡ w
unfolding put_cells up_from
coils-end w bytes k i n h = let e : n - i ≡ 0 = omega arith in ap (λ (m : ℕ). put_cells w (up_from k m) (bits_from bytes i (n - i))) e

-- ---- a list of cells and a list of values

pub contacts-turn : (f : ℕ → ℕ) (w cs vs : List ℕ) (i : ℕ) → i < length cs → i < length vs
    → put_cells w (map f (drop i cs)) (map on_of (drop i vs))
    ≡ put_cells (put_cell w (f (get_or cs i 0)) (on_of (get_or vs i 0))) (map f (drop (i + 1) cs)) (map on_of (drop (i + 1) vs))
unfolding put_cells
contacts-turn f w cs vs i h k =
    ap₂ (λ (x y : List ℕ). put_cells w (map f x) (map on_of y)) (drop-cons cs i 0 h) (drop-cons vs i 0 k)
    ∙ rw add-one

pub contacts-end : (f : ℕ → ℕ) (w cs : List ℕ) (vs : List Bool) (i : ℕ) → length cs ≤ i → put_cells w (map f (drop i cs)) vs ≡ w
unfolding put_cells
contacts-end f w cs vs i h = ap (λ (x : List ℕ). put_cells w (map f x) vs) (drop_of_length-le cs h)

pub values-end : (w cs vs : List ℕ) (i : ℕ) → length vs ≤ i → put_cells w cs (map on_of (drop i vs)) ≡ w
values-end w cs vs i h = ap (λ (x : List ℕ). put_cells w cs (map on_of x)) (drop_of_length-le vs h) ∙ put_cells-none w cs
