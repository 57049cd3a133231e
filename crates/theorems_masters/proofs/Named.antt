-- What the address check lets pass lies in the table: every word that is named, and every cell. Assumes nothing.
use mathlib.Core.Path.{◌≡◌, refl, sym, ap, ◌∙◌}
use mathlib.Core.Bool.{Bool, true, false, false≢true}
use mathlib.Core.List.{List, [], ◌∷◌}
use Prim.Native.Nat.{ℕ, suc, ◌/◌, ◌<◌}
use native.Mathlib.Omega.{arith}
use lib.Dec.{eqb}
use lib.ListN.{length, get_or}
use borrow.Author.Tests.{eqb-true, eq-eqb}
use Rattle.rules.specs.Choice.{either, some}
use Rattle.table_registers.specs.declared.Verdict.TheVariants.{Granted}
use Rattle.table_registers.specs.Table.{allows}
use Rattle.table_registers.specs.Bits.{word_of, words_of}
use Rattle.table_registers.specs.Operation.{Operation, write_bits, names, need, area_of, address_check}
use Rattle.table_registers.specs.Profile.{member}
use Rattle.table_registers.proofs.Lacking.{nowhere, allows-in}
use Rattle.theorems_masters.proofs.Bits.{Inside}

-- ---- members

pub member-first : (k : ℕ) (ks : List ℕ) → member k (k ∷ ks) ≡ true
unfolding some
member-first k ks = ap (λ (b : Bool). either b (member k ks)) (eq-eqb k k refl)

pub member-later : (k j : ℕ) (ks : List ℕ) → member k ks ≡ true → member k (j ∷ ks) ≡ true
unfolding some
member-later k j ks m = ap (either (eqb j k)) m ∙ go (eqb j k)
  where
    go : (b : Bool) → either b true ≡ true
    go true = refl
    go false = refl

-- what holds of every element holds of a member
member-holds : (p : ℕ → Bool) (ks : List ℕ) (k : ℕ) → ((j : ℕ) → j < length ks → p (get_or ks j 0) ≡ true) → member k ks ≡ true → p k ≡ true
unfolding some
member-holds p [] k h m = absurd (false≢true m)
member-holds p (x ∷ ks) k h m = go (eqb x k) refl m (member-holds p ks k (λ j l. h (suc j) (omega arith)))
  where
    go : (b : Bool) → eqb x k ≡ b → either b (member k ks) ≡ true → (member k ks ≡ true → p k ≡ true) → p k ≡ true
    go true e t more = ap p (sym (eqb-true x k e)) ∙ h 0 (omega arith)
    go false e t more = more t

-- the word of a cell is a word of the cells
member-word : (c : ℕ) (cs : List ℕ) → member c cs ≡ true → member (word_of c) (words_of cs) ≡ true
unfolding some
member-word c [] m = m
member-word c (d ∷ cs) m = go (eqb d c) refl m (member-word c cs)
  where
    go : (b : Bool) → eqb d c ≡ b → either b (member c cs) ≡ true → (member c cs ≡ true → member (word_of c) (words_of cs) ≡ true) → member (word_of c) (words_of (d ∷ cs)) ≡ true
    go true e t more = ap (λ (x : ℕ). member (word_of x) (words_of (d ∷ cs))) (sym (eqb-true d c e)) ∙ member-first (word_of d) (words_of cs)
    go false e t more = member-later (word_of c) (word_of d) (words_of cs) (more t)

-- ---- what is let pass

pub named_in : (us : List ℕ) (n : ℕ) (o : Operation) (k : ℕ) → address_check us n o ≡ Granted → member k (names o) ≡ true → k < n
unfolding address_check
named_in us n o k g m = allows-in n us (area_of o) (need o) k (member-holds (allows n us (area_of o) (need o)) (names o) k (nowhere (allows n us (area_of o) (need o)) 0 (names o) g) m)

all-inside : (n : ℕ) (cs : List ℕ) → ((c : ℕ) → member c cs ≡ true → c / 16 < n) → Inside n cs
all-inside n [] h = tt
all-inside n (c ∷ cs) h = (h c (member-first c cs), all-inside n cs (λ d m. h d (member-later d c cs m)))

pub bits_inside : (us : List ℕ) (n : ℕ) (cs : List ℕ) (vs : List Bool) → address_check us n (write_bits cs vs) ≡ Granted → Inside n cs
bits_inside us n cs vs g = all-inside n cs (λ c m. named_in us n (write_bits cs vs) (c / 16) g (member-word c cs m))
