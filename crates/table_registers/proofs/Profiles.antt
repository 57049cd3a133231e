-- Laws of profiles: over which words a profile says nothing, and that only the words that are written count. Assumes nothing.
use Prim.Native.Nat.{ℕ, suc, ◌+◌, ◌<◌}
use mathlib.Core.Bool.{Bool, true, false, not}
use mathlib.Core.List.{List, [], ◌∷◌}
use mathlib.Core.Path.{◌≡◌, refl, sym, ap, ap₂, ◌∙◌}
use native.Mathlib.Omega.{arith}
use borrow.Author.Tests.{ne_eqb}
use lib.Dec.{ltb, lit<}
use lib.ListN.{length, get_or}
use Rattle.rules.specs.Choice.{pick, both, some, between}
use Rattle.rules.proofs.Choose.{both_left, both_false, in-range}
use Rattle.table_addresses.specs.declared.Area.TheVariants.{Relays}
use Rattle.table_registers.specs.declared.Verdict.{Verdict}
use Rattle.table_registers.specs.declared.Verdict.TheVariants.{Granted, Lacking, Unfit}
use Rattle.table_registers.specs.declared.Profile.{Profile}
use Rattle.table_registers.specs.declared.Profile.TheVariants.{Free, HlG2}
use Rattle.table_registers.specs.Table.{allows}
use Rattle.table_registers.specs.Operation.{Operation, names, need, area_of, address_check, after}
use Rattle.table_registers.specs.Profile.{Row, single, pair, within, joined, rows_of, keeps, all_kept, member, writes_word, takes, fitting, verdict}
use Rattle.table_registers.proofs.Lacking.{nowhere}

-- ---- the verdict

-- where a profile takes it, the address check decides
pub fitting-taken : {b : Bool} (v : Verdict) → b ≡ true → fitting b v ≡ v
fitting-taken v e = ap (λ (t : Bool). fitting t v) e

-- where the address check refuses, no profile is asked
pub fitting-lacking : (b : Bool) (i : ℕ) → fitting b (Lacking i) ≡ Lacking i
fitting-lacking true i = refl
fitting-lacking false i = refl

fitting-unfit : (b : Bool) → fitting b Unfit ≡ Unfit
fitting-unfit true = refl
fitting-unfit false = refl

-- what is granted was let pass by both
pub fitting-granted : (b : Bool) (v : Verdict) → fitting b v ≡ Granted → (b ≡ true) × (v ≡ Granted)
fitting-granted true v e = (refl, e)
fitting-granted false Granted e = let z : ◌≡◌ {A = ℕ} 0 1 = cc in absurd (omega arith)
fitting-granted false (Lacking i) e = let z : ◌≡◌ {A = ℕ} 0 1 = cc in absurd (omega arith)
fitting-granted false Unfit e = let z : ◌≡◌ {A = ℕ} 0 1 = cc in absurd (omega arith)

-- two tests that agree where the address check grants give one verdict
pub fitting-same : (b b' : Bool) (v : Verdict) → (v ≡ Granted → b ≡ b') → fitting b v ≡ fitting b' v
fitting-same b b' Granted h = ap (λ (t : Bool). fitting t Granted) (h refl)
fitting-same b b' (Lacking i) h = fitting-lacking b i ∙ sym (fitting-lacking b' i)
fitting-same b b' Unfit h = fitting-unfit b ∙ sym (fitting-unfit b')

-- ---- rows

-- what is written, and its values, decide; other values don't
module _ (w w' : ℕ → Bool) (v v' : ℕ → ℕ) (same : (k : ℕ) → w k ≡ w' k) (values : (k : ℕ) → w' k ≡ true → v k ≡ v' k) where
  kept_same : (r : Row) → keeps w v r ≡ keeps w' v' r
  kept_same (single k low high) = ap (λ (b : Bool). pick b (between low high (v k)) true) (same k) ∙ go (w' k) refl
    where
      go : (b : Bool) → w' k ≡ b → pick b (between low high (v k)) true ≡ pick b (between low high (v' k)) true
      go true e = ap (between low high) (values k e)
      go false e = refl
  kept_same (pair k most) =
      ap₂ (λ (b c : Bool). pick b (both c (within most (joined (v k) (v (k + 1))))) (not c)) (same k) (same (k + 1)) ∙ go (w' k) refl (w' (k + 1)) refl
    where
      go : (b : Bool) → w' k ≡ b → (c : Bool) → w' (k + 1) ≡ c
          → pick b (both c (within most (joined (v k) (v (k + 1))))) (not c) ≡ pick b (both c (within most (joined (v' k) (v' (k + 1))))) (not c)
      go true e true f = ap₂ (λ (x y : ℕ). within most (joined x y)) (values k e) (values (k + 1) f)
      go true e false f = refl
      go false e c f = refl

  pub all_same : (rs : List Row) → all_kept w v rs ≡ all_kept w' v' rs
  all_same [] = refl
  all_same (r ∷ rs) = ap₂ both (kept_same r) (all_same rs)

-- every register of a profile lies before the relay words: where nothing there is written, nothing is out of range
pub none_written : (p : Profile) (w : ℕ → Bool) (v : ℕ → ℕ) → ((k : ℕ) → k < 130 → w k ≡ false) → all_kept w v (rows_of p) ≡ true
none_written Free w v h = refl
none_written HlG2 w v h =
    rw (h 100 (lit< tt), h 101 (lit< tt), h 102 (lit< tt), h 103 (lit< tt), h 53 (lit< tt), h 55 (lit< tt), h 57 (lit< tt), h 70 (lit< tt))

-- ---- reads, contacts, coils and relay words

-- a profile says nothing of a read
pub read-judged : (p : Profile) (us words : List ℕ) (o : Operation) → need o ≡ 1 → verdict p us words o ≡ address_check us (length words) o
unfolding takes
read-judged p us words o e = fitting-taken _ (none_written p (writes_word o) _ (λ k h. rw e))

-- a word that all of a list lie behind is not among them
member-none : (k : ℕ) (ks : List ℕ) → ((j : ℕ) → j < length ks → k < get_or ks j 0) → member k ks ≡ false
unfolding some
member-none k [] h = refl
member-none k (i ∷ is) h =
    rw (ne_eqb i k (λ e. absurd (omega (arith, h 0 (omega arith), e)))) (member-none k is (λ j l. h (suc j) (omega arith)))

-- where the address check passed what names relay words only, it writes no word before them
unwritten : (us words : List ℕ) (o : Operation) → area_of o ≡ Relays → address_check us (length words) o ≡ Granted → (k : ℕ) → k < 130 → writes_word o k ≡ false
unfolding address_check allows
unwritten us words o a e k h =
    let past : (j : ℕ) → j < length (names o) → k < get_or (names o) j 0 =
    λ j l. omega (arith, (in-range 130 135 (get_or (names o) j 0) (both_left _ _ (rw a at (nowhere (allows (length words) us (area_of o) (need o)) 0 (names o) e j l)))).0) in
    rw (member-none k (names o) past) (both_false (ltb 1 (need o)))

-- so a profile says nothing of it
pub relays-judged : (p : Profile) (us words : List ℕ) (o : Operation) → area_of o ≡ Relays → verdict p us words o ≡ address_check us (length words) o
unfolding takes
relays-judged p us words o a =
    fitting-same (takes p o (after o words)) true (address_check us (length words) o)
    (λ e. none_written p (writes_word o) (λ k. get_or (after o words) k 0) (unwritten us words o a e))
