-- What holds of the address check and of what is written; proved in proofs/Held. Assumes nothing.
use Rattle.std.specs.Prelude.{ℕ, ◌<◌, ◌≡◌, List, [], ◌∷◌, Bool, true, false, length, get_or}
use Rattle.table_registers.specs.declared.Verdict.{Verdict}
use Rattle.table_registers.specs.declared.Verdict.TheVariants.{Granted, Lacking}
use Rattle.table_registers.specs.Table.{checked}
use Rattle.table_registers.specs.Bits.{word_of, cell_at, put_cell, put_cells}
use Rattle.table_registers.specs.declared.Profile.{Profile}
use Rattle.table_registers.specs.Operation.{Operation, Judge, Carried}
use Rattle.table_registers.specs.Profile.{verdict}

-- ---- the address check

-- place i is the first that fails a test
pub record First (p : ℕ → Bool) (ks : List ℕ) (i : ℕ) : Type 0 where
  pub there : i < length ks
  pub fails : p (get_or ks i 0) ≡ false
  pub before : (j : ℕ) → j < i → p (get_or ks j 0) ≡ true

-- the check ends at the first word that fails it, and at none where every word passes
pub record EndsAtFirst (p : ℕ → Bool) (ks : List ℕ) : Type 0 where
  pub lacking : (i : ℕ) → checked p 0 ks ≡ Lacking i → First p ks i
  pub granted : checked p 0 ks ≡ Granted → (j : ℕ) → j < length ks → p (get_or ks j 0) ≡ true

-- ---- the table

-- no operation changes how many words there are
abbrev pub KeepsCount : Type 0
KeepsCount = (p : Profile) (o : Operation) (words us : List ℕ) (v : Verdict) (words' : List ℕ) → Carried o words (verdict p us) v words' → length words' ≡ length words

-- ---- what is written

abbrev pub value_of : Bool → ℕ
value_of true = 1
value_of false = 0

-- a bit that is named twice keeps the last value
abbrev pub LastStays : Type 0
LastStays = (words : List ℕ) (c : ℕ) (u v : Bool) → get_or words (word_of c) 0 < 65536 → put_cells words (c ∷ c ∷ []) (u ∷ v ∷ []) ≡ put_cell words c v

-- a bit of the table reads back as it was written
abbrev pub ReadsBack : Type 0
ReadsBack = (words : List ℕ) (c : ℕ) (v : Bool) → word_of c < length words → get_or words (word_of c) 0 < 65536 → cell_at (put_cell words c v) c ≡ value_of v

-- ---- one answer only

abbrev pub OneCarried : Type 0
OneCarried = (o : Operation) (words : List ℕ) (judge : Judge) (p q : Verdict) (w v : List ℕ) → Carried o words judge p w → Carried o words judge q v → (p ≡ q) × (w ≡ v)
