-- An operation may pass exactly where some words let it: a verdict looks at one word at most, so tables with one word throughout stand for all.
-- Assumes nothing.
use mathlib.Core.Path.{◌≡◌, refl, sym, ap, ap₂, ◌∙◌}
use mathlib.Core.Bool.{Bool, true, false}
use mathlib.Core.List.{List}
use Prim.Native.Nat.{ℕ, zero, suc, ◌+◌, ◌≤◌, ◌<◌, zero-le}
use native.Mathlib.Omega.{arith}
use borrow.Author.Tests.{eqb-true, eqb-false, ltb-true, ltb-false}
use lib.Dec.{eqb, ltb, lit<}
use lib.ListN.{length, get_or, replicate, length-replicate, get_or-replicate, get_or-eq_default}
use Rattle.rules.specs.Choice.{either, some}
use Rattle.rules.proofs.Choose.{no-left, no-right}
use Rattle.table_registers.specs.declared.Profile.{Profile}
use Rattle.table_registers.specs.Table.{up_from}
use Rattle.table_registers.specs.Operation.{Operation, read_words, read_bits, write_words, fill_words, write_bits, mask_word, is_granted}
use Rattle.table_registers.specs.Profile.{verdict}
use Rattle.table_cells.specs.Cells.{may_pass}
use Rattle.table_cells.proofs.Masks.{found_in}
use Rattle.theorems_masters.specs.Masters.{Words, MayPass}
use Rattle.theorems_masters.proofs.Writes.{replicate-words}
use Rattle.theorems_masters.proofs.Judged.{Alike, judged-alike}

-- ---- one of a run

-- where none has it, none
some-none : (p : ℕ → Bool) (k n : ℕ) → some p (up_from k n) ≡ false → (v : ℕ) → k ≤ v → v < k + n → p v ≡ false
unfolding some up_from
some-none p k zero e v l h = absurd (omega arith)
some-none p k (suc n) e v l h = go (eqb k v) refl (some-none p (suc k) n (no-right (p k) _ e) v)
  where
    go : (b : Bool) → eqb k v ≡ b → (suc k ≤ v → v < suc k + n → p v ≡ false) → p v ≡ false
    go true q more = ap p (sym (eqb-true k v q)) ∙ no-left (p k) _ e
    go false q more = more (omega (arith, eqb-false k v q)) (omega arith)

pub some-never : (p : ℕ → Bool) (k n : ℕ) → ((v : ℕ) → p v ≡ false) → some p (up_from k n) ≡ false
unfolding some up_from
some-never p k zero h = refl
some-never p k (suc n) h = ap₂ either (h k) (some-never p (suc k) n h)

-- the first has it
pub some_first : (p : ℕ → Bool) (k n : ℕ) → p k ≡ true → some p (up_from k (suc n)) ≡ true
unfolding some up_from
some_first p k n e = ap (λ (b : Bool). either b (some p (up_from (suc k) n))) e

-- ---- words that let an operation pass

-- the word that a verdict looks at
abbrev looked : Operation → List ℕ → ℕ
looked (read_words r k n) w = 0
looked (read_bits cs) w = 0
looked (write_words r k vs) w = 0
looked (fill_words k n v) w = 0
looked (write_bits cs vs) w = 0
looked (mask_word k a o) w = get_or w k 0

looked-small : (o : Operation) (w : List ℕ) → Words w → looked o w < 65536
looked-small (read_words r k n) w h = lit< tt
looked-small (read_bits cs) w h = lit< tt
looked-small (write_words r k vs) w h = lit< tt
looked-small (fill_words k n v) w h = lit< tt
looked-small (write_bits cs vs) w h = lit< tt
looked-small (mask_word k a o) w h = h k

same-throughout : (w : List ℕ) (n k : ℕ) → length w ≡ n → get_or w k 0 ≡ get_or (replicate n (get_or w k 0)) k 0
same-throughout w n k l = go (ltb k n) refl
  where
    go : (b : Bool) → ltb k n ≡ b → get_or w k 0 ≡ get_or (replicate n (get_or w k 0)) k 0
    go true e = sym (get_or-replicate n k (get_or w k 0) 0 (ltb-true k n e))
    go false e =
        let h = ltb-false k n e in
        get_or-eq_default w 0 (omega arith) ∙ sym (get_or-eq_default (replicate n (get_or w k 0)) 0 (omega (arith, length-replicate n (get_or w k 0))))

-- a table with that word throughout is judged as the table is
throughout-alike : (o : Operation) (w : List ℕ) (n : ℕ) → length w ≡ n → Alike o w (replicate n (looked o w))
throughout-alike (read_words r k m) w n l = tt
throughout-alike (read_bits cs) w n l = tt
throughout-alike (write_words r k vs) w n l = tt
throughout-alike (fill_words k m v) w n l = tt
throughout-alike (write_bits cs vs) w n l = tt
throughout-alike (mask_word k a o) w n l = same-throughout w n k l

module _ (us : List ℕ) (p : Profile) (o : Operation) where
  abbrev lets_pass : ℕ → Bool
  lets_pass v = is_granted (verdict p us (replicate (length us) v) o)

  passing-words : may_pass (verdict p us) (length us) o ≡ true → (words : List ℕ) × (length words ≡ length us) × Words words × (is_granted (verdict p us words o) ≡ true)
  unfolding may_pass
  passing-words e =
      let r = found_in lets_pass 0 65536 e in
      (replicate (length us) r.0, length-replicate (length us) r.0, replicate-words (length us) r.0 (omega (arith, r.1)), r.2)

  pub no_words : may_pass (verdict p us) (length us) o ≡ false → (words : List ℕ) → length words ≡ length us → Words words → is_granted (verdict p us words o) ≡ false
  unfolding may_pass
  no_words e words l h =
      let v = looked o words in
      ap is_granted (judged-alike p us words (replicate (length us) v) o (l ∙ sym (length-replicate (length us) v)) (throughout-alike o words (length us) l))
      ∙ some-none lets_pass 0 65536 e v zero-le (omega (arith, looked-small o words h))

  -- words that are all 0 let it pass
  pub passes-at-0 : lets_pass 0 ≡ true → may_pass (verdict p us) (length us) o ≡ true
  unfolding may_pass
  passes-at-0 e = some_first lets_pass 0 65535 e

  -- whatever the words are, it is refused
  pub never-passes : ((v : ℕ) → lets_pass v ≡ false) → may_pass (verdict p us) (length us) o ≡ false
  unfolding may_pass
  never-passes h = some-never lets_pass 0 65536 h

pub may-pass : MayPass
may-pass us p o = record { some_words = passing-words us p o; no_words = no_words us p o }
