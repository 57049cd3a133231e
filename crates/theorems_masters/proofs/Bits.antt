-- One bit of a table, written: it reads back, and every other bit stays. The digits of a number with one bit, and with all but one, are
-- computed once, 16 by 16. Assumes nothing.
use mathlib.Core.Path.{◌≡◌, refl, sym, ap, ◌∙◌}
use mathlib.Core.Bool.{Bool, true, false}
use mathlib.Core.List.{List, [], ◌∷◌}
use Prim.Native.Nat.{ℕ, zero, suc, ◌-◌, ◌/◌, ◌%◌, ◌^◌, ◌<◌, max, min}
use native.Mathlib.Omega.{arith}
use lib.Bits.{bit_and, bit_or, or_step, and_step, or_shr, and_shr}
use lib.Dec.{eqb}
use lib.ListN.{length, get_or, length-set}
use lib.Seq.{get_or-set_same, get_or-set_other}
use borrow.Author.Tests.{eqb-true, eqb-false, ne_eqb}
use Rattle.rules.specs.Choice.{pick, both, either, some}
use Rattle.rules.proofs.Choose.{both_left, both_right, no-left, no-right}
use Rattle.table_registers.specs.Bits.{cell_at, put_cell, put_cells, with_bit}
use Rattle.table_registers.specs.Profile.{member}
use Rattle.table_registers.proofs.Held.{reads-back}
use Rattle.table_registers.proofs.OneBit.{with_bit-word}
use Rattle.theorems_masters.specs.Masters.{Words}

-- ---- the digits of a word with one bit written

or-bit : (a b j : ℕ) → bit_or a b / 2 ^ j % 2 ≡ max (a / 2 ^ j % 2) (b / 2 ^ j % 2)
or-bit a b j = ap (λ (x : ℕ). x % 2) (or_shr a b j) ∙ omega (arith, or_step (a / 2 ^ j) (b / 2 ^ j))

and-bit : (a b j : ℕ) → bit_and a b / 2 ^ j % 2 ≡ min (a / 2 ^ j % 2) (b / 2 ^ j % 2)
and-bit a b j = ap (λ (x : ℕ). x % 2) (and_shr a b j) ∙ omega (arith, and_step (a / 2 ^ j) (b / 2 ^ j))

abbrev all_below : ℕ → (ℕ → Bool) → Bool
all_below zero p = true
all_below (suc n) p = both (p n) (all_below n p)

below : (n : ℕ) (p : ℕ → Bool) → all_below n p ≡ true → (i : ℕ) → i < n → p i ≡ true
below zero p e i h = absurd (omega arith)
below (suc n) p e i h = go (eqb i n) refl (λ l. below n p (both_right (p n) _ e) i l)
  where
    go : (x : Bool) → eqb i n ≡ x → (i < n → p i ≡ true) → p i ≡ true
    go true q f = ap p (eqb-true i n q) ∙ both_left _ _ e
    go false q f = f (omega (arith, eqb-false i n q))

-- of one bit alone, and of all but one
abbrev alone_digit : ℕ → ℕ → Bool
alone_digit b j = eqb (2 ^ b / 2 ^ j % 2) (pick (eqb b j) 1 0)

abbrev others_digit : ℕ → ℕ → Bool
others_digit b j = eqb ((65535 - 2 ^ b) / 2 ^ j % 2) (pick (eqb b j) 0 1)

alone-digits : all_below 16 (λ b. all_below 16 (alone_digit b)) ≡ true
alone-digits = refl

others-digits : all_below 16 (λ b. all_below 16 (others_digit b)) ≡ true
others-digits = refl

alone-digit : (b j : ℕ) → b < 16 → j < 16 → 2 ^ b / 2 ^ j % 2 ≡ pick (eqb b j) 1 0
alone-digit b j hb hj = eqb-true _ _ (below 16 (alone_digit b) (below 16 (λ x. all_below 16 (alone_digit x)) alone-digits b hb) j hj)

others-digit : (b j : ℕ) → b < 16 → j < 16 → (65535 - 2 ^ b) / 2 ^ j % 2 ≡ pick (eqb b j) 0 1
others-digit b j hb hj = eqb-true _ _ (below 16 (others_digit b) (below 16 (λ x. all_below 16 (others_digit x)) others-digits b hb) j hj)

with_bit-other : (w b j : ℕ) (v : Bool) → b < 16 → j < 16 → eqb b j ≡ false → with_bit w b v / 2 ^ j % 2 ≡ w / 2 ^ j % 2
unfolding with_bit
with_bit-other w b j true h k e =
    let d : 2 ^ b / 2 ^ j % 2 ≡ 0 = alone-digit b j h k ∙ ap (λ (t : Bool). pick t 1 0) e in
    omega (arith, or-bit w (2 ^ b) j)
with_bit-other w b j false h k e =
    let d : (65535 - 2 ^ b) / 2 ^ j % 2 ≡ 1 = others-digit b j h k ∙ ap (λ (t : Bool). pick t 0 1) e in
    omega (arith, and-bit w (65535 - 2 ^ b) j)

-- ---- one cell

put-length : (w : List ℕ) (c : ℕ) (v : Bool) → length (put_cell w c v) ≡ length w
put-length w c v = length-set w (c / 16) (with_bit (get_or w (c / 16) 0) (c % 16) v)

module _ (w : List ℕ) (c : ℕ) (v : Bool) (inside : c / 16 < length w) where
  put_word : get_or (put_cell w c v) (c / 16) 0 ≡ with_bit (get_or w (c / 16) 0) (c % 16) v
  put_word = get_or-set_same w (c / 16) (with_bit (get_or w (c / 16) 0) (c % 16) v) 0 inside

  put-words : Words w → Words (put_cell w c v)
  put-words h i = go (eqb i (c / 16)) refl
    where
      go : (x : Bool) → eqb i (c / 16) ≡ x → get_or (put_cell w c v) i 0 < 65536
      go true q = rw (eqb-true i (c / 16) q, put_word) (with_bit-word (get_or w (c / 16) 0) (c % 16) v (h (c / 16)) (omega arith))
      go false q = rw (get_or-set_other w (c / 16) i (with_bit (get_or w (c / 16) 0) (c % 16) v) 0 (eqb-false i (c / 16) q)) (h i)

  put_other : (d : ℕ) → eqb c d ≡ false → cell_at (put_cell w c v) d ≡ cell_at w d
  put_other d e = go (eqb (d / 16) (c / 16)) refl
    where
      go : (x : Bool) → eqb (d / 16) (c / 16) ≡ x → cell_at (put_cell w c v) d ≡ cell_at w d
      go false q = ap (λ (x : ℕ). x / 2 ^ (d % 16) % 2) (get_or-set_other w (c / 16) (d / 16) (with_bit (get_or w (c / 16) 0) (c % 16) v) 0 (eqb-false (d / 16) (c / 16) q))
      go true q =
          let s = eqb-true (d / 16) (c / 16) q in
          let other : eqb (c % 16) (d % 16) ≡ false = ne_eqb (c % 16) (d % 16) (λ t. eqb-false c d e (omega arith)) in
          ap (λ (k : ℕ). get_or (put_cell w c v) k 0 / 2 ^ (d % 16) % 2) s
          ∙ ap (λ (x : ℕ). x / 2 ^ (d % 16) % 2) put_word
          ∙ with_bit-other (get_or w (c / 16) 0) (c % 16) (d % 16) v (omega arith) (omega arith) other
          ∙ ap (λ (k : ℕ). get_or w k 0 / 2 ^ (d % 16) % 2) (sym s)

-- ---- cells, left to right

-- all cells are in a table of n words
abbrev pub Inside : ℕ → List ℕ → Type 0
Inside n [] = Unit
Inside n (c ∷ cs) = (c / 16 < n) × Inside n cs

pub cells-words : (cs : List ℕ) (vs : List Bool) (w : List ℕ) (n : ℕ) → length w ≡ n → Inside n cs → Words w → Words (put_cells w cs vs)
unfolding put_cells
cells-words [] vs w n l s h = h
cells-words (d ∷ ds) [] w n l s h = h
cells-words (d ∷ ds) (v ∷ vs) w n l s h = cells-words ds vs (put_cell w d v) n (put-length w d v ∙ l) s.1 (put-words w d v (omega (arith, s.0)) h)

pub cells-frame : (cs : List ℕ) (vs : List Bool) (w : List ℕ) (n c : ℕ) → length w ≡ n → Inside n cs → member c cs ≡ false → cell_at (put_cells w cs vs) c ≡ cell_at w c
unfolding put_cells some
cells-frame [] vs w n c l s e = refl
cells-frame (d ∷ ds) [] w n c l s e = refl
cells-frame (d ∷ ds) (v ∷ vs) w n c l s e =
    cells-frame ds vs (put_cell w d v) n c (put-length w d v ∙ l) s.1 (no-right (eqb d c) (member c ds) e) ∙ put_other w d v (omega (arith, s.0)) c (no-left (eqb d c) (member c ds) e)

-- a cell that is not written agrees if it did; one that is written gets its last value in both
pub cells-local : (cs : List ℕ) (vs : List Bool) (w w' : List ℕ) (n c : ℕ) → length w ≡ n → length w' ≡ n → Words w → Words w' → length cs ≡ length vs → Inside n cs
    → (member c cs ≡ false → cell_at w c ≡ cell_at w' c) → cell_at (put_cells w cs vs) c ≡ cell_at (put_cells w' cs vs) c
unfolding put_cells some
cells-local [] vs w w' n c l l' hw hw' m s h = h refl
cells-local (d ∷ ds) [] w w' n c l l' hw hw' m s h = absurd (omega (arith, m))
cells-local (d ∷ ds) (v ∷ vs) w w' n c l l' hw hw' m s h =
    cells-local ds vs (put_cell w d v) (put_cell w' d v) n c (put-length w d v ∙ l) (put-length w' d v ∙ l')
    (put-words w d v (omega (arith, s.0)) hw) (put-words w' d v (omega (arith, s.0)) hw') (omega (arith, m)) s.1 (λ e. go (eqb d c) refl e)
  where
    go : (x : Bool) → eqb d c ≡ x → member c ds ≡ false → cell_at (put_cell w d v) c ≡ cell_at (put_cell w' d v) c
    go true q e =
        let t = eqb-true d c q in
        ap (cell_at (put_cell w d v)) (sym t) ∙ reads-back w d v (omega (arith, s.0)) (hw (d / 16)) ∙ sym (reads-back w' d v (omega (arith, s.0)) (hw' (d / 16)))
        ∙ ap (cell_at (put_cell w' d v)) t
    go false q e =
        put_other w d v (omega (arith, s.0)) c q ∙ h (ap (λ (b : Bool). either b (member c ds)) q ∙ e) ∙ sym (put_other w' d v (omega (arith, s.0)) c q)
