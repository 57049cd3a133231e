-- What a verdict looks at: how many words there are, and of the words themselves only the one of a mask write. Assumes nothing.
use mathlib.Core.Path.{◌≡◌, refl, sym, ap, ◌∙◌}
use mathlib.Core.Bool.{Bool, true, false, false≢true}
use mathlib.Core.List.{List}
use Prim.Native.Nat.{ℕ}
use lib.ListN.{length, get_or, set, replicate, length-replicate}
use Rattle.table_addresses.specs.declared.Area.TheVariants.{Registers}
use Rattle.table_registers.specs.declared.Verdict.{Verdict}
use Rattle.table_registers.specs.declared.Verdict.TheVariants.{Granted, Lacking, Unfit}
use Rattle.table_registers.specs.declared.Profile.{Profile}
use Rattle.table_registers.specs.Bits.{masked}
use Rattle.table_registers.specs.Operation.{Operation, read_words, read_bits, write_words, fill_words, write_bits, mask_word, address_check, after, is_granted}
use Rattle.table_registers.specs.Profile.{rows_of, writes_word, takes, fitting, verdict}
use Rattle.table_registers.proofs.Profiles.{fitting-same, all_same, read-judged, relays-judged}
use Rattle.table_cells.specs.Cells.{touches, reading}
use Rattle.theorems_masters.specs.Masters.{Words}
use Rattle.theorems_masters.proofs.Commute.{Agree}
use Rattle.theorems_masters.proofs.Writes.{mask-names, mask-sees, mask_word-alike, run-same}

-- the words that a verdict looks at are the same
abbrev pub Alike : Operation → List ℕ → List ℕ → Type 0
Alike (read_words r k n) w w' = Unit {0}
Alike (read_bits cs) w w' = Unit {0}
Alike (write_words r k vs) w w' = Unit {0}
Alike (fill_words k n v) w w' = Unit {0}
Alike (write_bits cs vs) w w' = Unit {0}
Alike (mask_word k a o) w w' = get_or w k 0 ≡ get_or w' k 0

-- a profile sees of two tables what is written, and it is the same there
written-judged : (p : Profile) (us w w' : List ℕ) (o : Operation) → length w ≡ length w'
    → (address_check us (length w) o ≡ Granted → (k : ℕ) → writes_word o k ≡ true → get_or (after o w) k 0 ≡ get_or (after o w') k 0) → verdict p us w o ≡ verdict p us w' o
unfolding takes
written-judged p us w w' o l h =
    fitting-same (takes p o (after o w)) (takes p o (after o w')) (address_check us (length w) o)
    (λ g. all_same (writes_word o) (writes_word o) (λ k. get_or (after o w) k 0) (λ k. get_or (after o w') k 0) (λ k. refl) (h g) (rows_of p))
    ∙ ap (λ (n : ℕ). fitting (takes p o (after o w')) (address_check us n o)) l

-- where no profile is asked, the length decides
length-judged : (p : Profile) (us w w' : List ℕ) (o : Operation) → length w ≡ length w' → ((v : List ℕ) → verdict p us v o ≡ address_check us (length v) o) → verdict p us w o ≡ verdict p us w' o
length-judged p us w w' o l h = h w ∙ ap (λ (n : ℕ). address_check us n o) l ∙ sym (h w')

pub judged-alike : (p : Profile) (us w w' : List ℕ) (o : Operation) → length w ≡ length w' → Alike o w w' → verdict p us w o ≡ verdict p us w' o
unfolding after address_check
judged-alike p us w w' (read_words r k n) l s = length-judged p us w w' (read_words r k n) l (λ v. read-judged p us v (read_words r k n) refl)
judged-alike p us w w' (read_bits cs) l s = length-judged p us w w' (read_bits cs) l (λ v. read-judged p us v (read_bits cs) refl)
judged-alike p us w w' (write_words r k vs) l s = written-judged p us w w' (write_words r k vs) l (λ g i e. run-same us w w' vs r k (length vs) i refl l g e)
judged-alike p us w w' (fill_words k n v) l s =
    written-judged p us w w' (fill_words k n v) l (λ g i e. run-same us w w' (replicate n v) Registers k n i (length-replicate n v) l g e)
judged-alike p us w w' (write_bits cs vs) l s = length-judged p us w w' (write_bits cs vs) l (λ v. relays-judged p us v (write_bits cs vs) refl)
judged-alike p us w w' (mask_word k a o) l s =
    written-judged p us w w' (mask_word k a o) l
    (λ g i e. let q = mask-names k i e in
    ap (λ (j : ℕ). get_or (set w k (masked (get_or w k 0) a o)) j 0) (sym q) ∙ mask_word-alike us w w' k a o g l s ∙ ap (λ (j : ℕ). get_or (set w' k (masked (get_or w' k 0) a o)) j 0) q)

-- it is among the cells that are read
pub agree-alike : (o : Operation) (w w' : List ℕ) → Words w → Words w' → Agree (touches o reading) w w' → Alike o w w'
agree-alike (read_words r k n) w w' h h' a = tt
agree-alike (read_bits cs) w w' h h' a = tt
agree-alike (write_words r k vs) w w' h h' a = tt
agree-alike (fill_words k n v) w w' h h' a = tt
agree-alike (write_bits cs vs) w w' h h' a = tt
agree-alike (mask_word k x y) w w' h h' a = mask-sees w w' k x y h h' a

-- what is refused over both is refused for one reason
refused-alike : (b b' : Bool) (v : Verdict) → is_granted (fitting b v) ≡ false → is_granted (fitting b' v) ≡ false → fitting b v ≡ fitting b' v
refused-alike true true v e e' = refl
refused-alike false false v e e' = refl
refused-alike true false Granted e e' = absurd (false≢true (sym e))
refused-alike true false (Lacking i) e e' = refl
refused-alike true false Unfit e e' = refl
refused-alike false true Granted e e' = absurd (false≢true (sym e'))
refused-alike false true (Lacking i) e e' = refl
refused-alike false true Unfit e e' = refl

pub judged-refused : (p : Profile) (us w w' : List ℕ) (o : Operation) → length w ≡ length w' → is_granted (verdict p us w o) ≡ false → is_granted (verdict p us w' o) ≡ false
    → verdict p us w o ≡ verdict p us w' o
judged-refused p us w w' o l e e' =
    let s : verdict p us w' o ≡ fitting (takes p o (after o w')) (address_check us (length w) o) = ap (λ (n : ℕ). fitting (takes p o (after o w')) (address_check us n o)) (sym l) in
    refused-alike (takes p o (after o w)) (takes p o (after o w')) (address_check us (length w) o) e (ap is_granted (sym s) ∙ e') ∙ sym s
