-- The statements of specs/Statements. Assumes nothing.
use mathlib.Core.Path.{◌≡◌, refl, sym, ap, ◌∙◌}
use mathlib.Core.List.{List, [], ◌∷◌}
use mathlib.Core.Bool.{Bool, true, false}
use Prim.Native.Nat.{ℕ, zero, suc, ◌-◌, ◌/◌, ◌%◌, ◌^◌, ◌≤◌, ◌<◌}
use native.Mathlib.Nat.{mod-lt, sub-zero}
use native.Mathlib.Omega.{arith}
use borrow.Author.Tests.{ltb-true, ltb-false}
use lib.Dec.{ltb, lit<}
use lib.ListN.{length, get_or, set, replicate, length-replicate, length-set}
use lib.Seq.{get_or-set_same, set-set, set_out}
use Rattle.table_addresses.specs.declared.Area.{Area}
use Rattle.table_addresses.specs.declared.Area.TheVariants.{Registers}
use Rattle.text_rooms.specs.Room.{overwrite}
use Rattle.rules.proofs.Choose.{pick_all}
use Rattle.text_rooms.proofs.Overwrite.{overwrite-none, overwrite-length}
use Rattle.table_registers.specs.declared.Verdict.{Verdict}
use Rattle.table_registers.specs.declared.Verdict.TheVariants.{Granted, Lacking, Unfit}
use Rattle.table_registers.specs.Table.{allows, checked, up_from}
use Rattle.table_registers.specs.Bits.{with_bit, put_cell, put_cells}
use Rattle.table_registers.specs.Operation.{Operation, read_words, read_bits, write_words, fill_words, write_bits, mask_word, address_check, after, words_after}
use Rattle.table_registers.specs.Profile.{takes, verdict}
use Rattle.table_registers.specs.Statements.{First, EndsAtFirst, KeepsCount, LastStays, ReadsBack, OneCarried}
use Rattle.table_registers.proofs.Lacking.{nowhere, run_in}
use Rattle.table_registers.proofs.Cells.{put_cells-length}
use Rattle.table_registers.proofs.Profiles.{fitting-granted}
use Rattle.table_registers.proofs.OneBit.{with_bit-twice, with_bit-there}

-- ---- the address check

here : (p : ℕ → Bool) (k i m : ℕ) (ks : List ℕ) → p k ≡ false → i ≡ m → (i ≤ m) × First p (k ∷ ks) (m - i)
here p k i m ks f q =
    let z : m - i ≡ 0 = omega arith in
    (omega arith, rw z record { there = omega arith; fails = f; before = λ j h. absurd (omega arith) })

past : (p : ℕ → Bool) (k n : ℕ) (ks : List ℕ) → p k ≡ true → ((j : ℕ) → j < n → p (get_or ks j 0) ≡ true) → (j : ℕ) → j < suc n → p (get_or (k ∷ ks) j 0) ≡ true
past p k n ks t f zero h = t
past p k n ks t f (suc j) h = f j (omega arith)

later : (p : ℕ → Bool) (k i m : ℕ) (ks : List ℕ) → p k ≡ true → (suc i ≤ m) × First p ks (m - suc i) → (i ≤ m) × First p (k ∷ ks) (m - i)
later p k i m ks t r =
    let z : m - i ≡ suc (m - suc i) = omega arith in
    (omega arith, rw z record { there = omega (arith, r.1.there); fails = r.1.fails; before = past p k (m - suc i) ks t r.1.before })

-- counted from i on
first-from : (p : ℕ → Bool) (i m : ℕ) (ks : List ℕ) → checked p i ks ≡ Lacking m → (i ≤ m) × First p ks (m - i)
unfolding checked
first-from p i m [] = λ e. let z : ◌≡◌ {A = ℕ} 0 1 = cc in absurd (omega arith)
first-from p i m (k ∷ ks) =
    pick_all (λ (x : Verdict). x ≡ Lacking m → (i ≤ m) × First p (k ∷ ks) (m - i)) (p k) (checked p (suc i) ks) (Lacking i)
    (λ t e. later p k i m ks t (first-from p (suc i) m ks e))
    (λ f e. let q : i ≡ m = cc in here p k i m ks f q)

pub ends-at-first : (p : ℕ → Bool) (ks : List ℕ) → EndsAtFirst p ks
ends-at-first p ks = record { lacking = λ i e. rw sub-zero at (first-from p 0 i ks e).1; granted = nowhere p 0 ks }

-- ---- how many words

run-keeps : (words us : List ℕ) (area : Area) (need k : ℕ) (vs : List ℕ) (n : ℕ) → length vs ≡ n → checked (allows (length words) us area need) 0 (up_from k n) ≡ Granted
    → length (overwrite words k vs) ≡ length words
run-keeps words us area need k [] n e f = ap length (overwrite-none words k)
run-keeps words us area need k (v ∷ vs) n e f =
    overwrite-length words (v ∷ vs) k (omega (arith, run_in (length words) us area need k n f (omega arith)))

after-keeps : (o : Operation) (words us : List ℕ) → address_check us (length words) o ≡ Granted → length (after o words) ≡ length words
unfolding address_check after
after-keeps (read_words r k n) words us e = refl
after-keeps (read_bits cs) words us e = refl
after-keeps (write_words r k vs) words us e = run-keeps words us r 2 k vs (length vs) refl e
after-keeps (fill_words k n v) words us e = run-keeps words us Registers 2 k (replicate n v) n (length-replicate n v) e
after-keeps (write_bits cs vs) words us e = put_cells-length words cs vs
after-keeps (mask_word k a m) words us e = simp length-set

pub keeps-count : KeepsCount
unfolding words_after
keeps-count p o words us v words' c = ap length c.words-is ∙ go (verdict p us words o) refl
  where
    go : (x : Verdict) → verdict p us words o ≡ x → length (words_after x o words) ≡ length words
    go Granted e = after-keeps o words us (fitting-granted (takes p o (after o words)) (address_check us (length words) o) e).1
    go (Lacking i) e = refl
    go Unfit e = refl

-- ---- what is written

pub last-stays : LastStays
unfolding put_cells
last-stays words c u v h = go (ltb (c / 16) (length words)) refl
  where
    go : (b : Bool) → ltb (c / 16) (length words) ≡ b → put_cell (put_cell words c u) c v ≡ put_cell words c v
    go true e =
        let w = get_or words (c / 16) 0 in
        set-set words (c / 16) (with_bit w (c % 16) u) (with_bit (get_or (put_cell words c u) (c / 16) 0) (c % 16) v)
        ∙ ap (set words (c / 16))
        (ap (λ (x : ℕ). with_bit x (c % 16) v) (get_or-set_same words (c / 16) (with_bit w (c % 16) u) 0 (ltb-true _ _ e))
        ∙ with_bit-twice w (c % 16) u v h (mod-lt c (lit< tt)))
    go false e =
        let o = ltb-false (c / 16) (length words) e in
        let same : put_cell words c u ≡ words = set_out words (c / 16) _ o in
        ap (λ (l : List ℕ). put_cell l c v) same

pub reads-back : ReadsBack
reads-back words c v l h =
    ap (λ (x : ℕ). x / 2 ^ (c % 16) % 2) (get_or-set_same words (c / 16) (with_bit (get_or words (c / 16) 0) (c % 16) v) 0 l)
    ∙ with_bit-there (get_or words (c / 16) 0) (c % 16) v h (mod-lt c (lit< tt))

-- ---- one answer only

pub one-carried : OneCarried
one-carried o words judge p q w v c d = (c.verdict-is ∙ sym d.verdict-is, c.words-is ∙ sym d.words-is)
