-- Over a write of words a profile sees only the run and what it brings. Assumes nothing.
use Prim.Native.Nat.{ℕ, zero, suc, ◌+◌, ◌-◌, ◌≤◌, ◌<◌}
use mathlib.Core.Bool.{Bool, true, false}
use mathlib.Core.List.{List, [], ◌∷◌}
use mathlib.Core.Path.{◌≡◌, refl, sym, ap, ap₂, ◌∙◌}
use native.Mathlib.Omega.{arith}
use borrow.Author.Tests.{ltb-true, ltb-false, leb-true, leb-false, eqb-true, eqb-false, lt-ltb, le-ltb, le-leb, lt-leb, ne_eqb}
use lib.Dec.{eqb, leb, ltb, lit<}
use lib.ListN.{length, get_or, set, length-replicate}
use Rattle.rules.specs.Choice.{both, either, some}
use Rattle.rules.proofs.Choose.{both_left, both_right, both_false}
use Rattle.text_rooms.specs.Room.{overwrite}
use Rattle.text_rooms.proofs.Overwrite.{overwrite-run, overwrite-within}
use Rattle.table_registers.specs.declared.Verdict.{Verdict}
use Rattle.table_registers.specs.declared.Verdict.TheVariants.{Granted}
use Rattle.table_registers.specs.declared.Profile.{Profile}
use Rattle.table_addresses.specs.declared.Area.{Area}
use Rattle.table_addresses.specs.declared.Area.TheVariants.{Registers}
use Rattle.table_registers.specs.Bits.{masked}
use Rattle.table_registers.specs.Table.{allows, up_from, checked}
use Rattle.table_registers.specs.Operation.{Operation, write_words, fill_words, mask_word, names, need, area_of, address_check, after, is_granted, words_of_bytes, words_of_text}
use Rattle.table_registers.specs.Profile.{rows_of, member, writes_word, takes, fitting, verdict}
use Rattle.table_registers.proofs.Lacking.{run_in, run-as}
use Rattle.table_registers.proofs.Runs.{words_of_bytes-length, words_of_text-length}
use Rattle.table_registers.proofs.Profiles.{fitting-granted, fitting-same, all_same}
use Rattle.table_registers.proofs.Done.{is-granted}
use Rattle.table_profiles.specs.declared.Data.{Data}
use Rattle.table_profiles.specs.declared.Data.TheVariants.{Bytes, Text, Same}
use Rattle.table_profiles.specs.Runs.{brought, in_run, brings_for, run_taken}

pub brought-length : (d : Data) (n : ℕ) (s : List ℕ) → length (brought d n s) ≡ n
brought-length Bytes n s = words_of_bytes-length n s
brought-length Text n s = words_of_text-length n s
brought-length (Same w) n s = length-replicate n w

-- ---- the words of a run

-- a word that a run has
pub run-has : (start n k : ℕ) → in_run start n k ≡ true → (start ≤ k) × (k - start < n)
run-has start n k e = (leb-true start k (both_left _ _ e), ltb-true (k - start) n (both_right (leb start k) _ e))

ltb-suc : (x n : ℕ) → ltb x n ≡ ltb (suc x) (suc n)
ltb-suc x n = go (ltb x n) refl
  where
    go : (b : Bool) → ltb x n ≡ b → b ≡ ltb (suc x) (suc n)
    go true e = sym (lt-ltb (suc x) (suc n) (omega (arith, ltb-true x n e)))
    go false e = sym (le-ltb (suc x) (suc n) (omega (arith, ltb-false x n e)))

-- a run of one word more
run_more : (start n k : ℕ) → either (eqb start k) (in_run (suc start) n k) ≡ in_run start (suc n) k
run_more start n k = go (leb start k) refl (eqb start k) refl
  where
    go : (b : Bool) → leb start k ≡ b → (c : Bool) → eqb start k ≡ c → either (eqb start k) (in_run (suc start) n k) ≡ in_run start (suc n) k
    go false e c f = let h = leb-false start k e in rw (ne_eqb start k (λ q. absurd (omega arith)), e, lt-leb (suc start) k (omega arith))
    go true e true f = let q = eqb-true start k f in rw (f, e, lt-ltb (k - start) (suc n) (omega arith))
    go true e false f =
        let h = leb-true start k e in
        let d : k - start ≡ suc (k - suc start) = omega (arith, eqb-false start k f) in
        rw (f, e, le-leb (suc start) k (omega (arith, eqb-false start k f)), d) (ltb-suc (k - suc start) n)

pub member-run : (start n k : ℕ) → member k (up_from start n) ≡ in_run start n k
unfolding some up_from
member-run start zero k = rw (le-ltb (k - start) 0 (omega arith)) (sym (both_false (leb start k)))
member-run start (suc n) k = ap (λ (b : Bool). either (eqb start k) b) (member-run (suc start) n k) ∙ run_more start n k

-- ---- the verdict

module _ (p : Profile) (o : Operation) (d : Data) (us words s : List ℕ) (start n : ℕ)
    (writes : ltb 1 (need o) ≡ true) (named : names o ≡ up_from start n) (left : (0 < n → start + n ≤ length words) → after o words ≡ overwrite words start (brought d n s)) where
  some_in : (k : ℕ) → in_run start n k ≡ true → 0 < n
  some_in k e = omega (arith, (run-has start n k e).1)

  run-takes : (0 < n → start + n ≤ length words) → takes p o (after o words) ≡ run_taken p d start n s
  unfolding takes run_taken
  run-takes fits =
      all_same (writes_word o) (in_run start n) (λ k. get_or (after o words) k 0) (brings_for d start n s)
      (λ k. ap₂ both writes (ap (member k) named) ∙ member-run start n k)
      (λ k e. ap (λ (l : List ℕ). get_or l k 0) (left fits) ∙ there k e)
      (rows_of p)
    where
      there : (k : ℕ) → in_run start n k ≡ true → get_or (overwrite words start (brought d n s)) k 0 ≡ brings_for d start n s k
      there k e =
          let in-it = run-has start n k e in
          let long = brought-length d n s in
          overwrite-within words (brought d n s) start k (omega (arith, long, fits (some_in k e))) in-it.0 (omega (arith, long, in-it.0, in-it.1))

  granted-run : address_check us (length words) o ≡ Granted → 0 < n → start + n ≤ length words
  unfolding address_check
  granted-run e some = run_in (length words) us (area_of o) (need o) start n (ap (checked (allows (length words) us (area_of o) (need o)) 0) (sym named) ∙ e) some

  -- the test of the run and the definition's give one verdict
  run-judged : {v found : Verdict} {t : Bool} {at : ℕ} → found ≡ fitting t v → t ≡ run_taken p d at n s → at ≡ start → v ≡ address_check us (length words) o → found ≡ verdict p us words o
  run-judged {v} e f g h =
      e ∙ ap (λ (b : Bool). fitting b v) (f ∙ ap (λ (k : ℕ). run_taken p d k n s) g) ∙ ap (fitting (run_taken p d start n s)) h
      ∙ fitting-same (run_taken p d start n s) (takes p o (after o words)) (address_check us (length words) o) (λ x. sym (run-takes (granted-run x)))

-- ---- the four writes

module _ (p : Profile) (us words s : List ℕ) (start n : ℕ) {v found : Verdict} {t : Bool} {at : ℕ} (e : found ≡ fitting t v) (g : at ≡ start) where
  -- words that are brought as they are written: of bytes, of a text
  brought-judged : (d : Data) (area : Area) → t ≡ run_taken p d at n s → v ≡ checked (allows (length words) us area 2) 0 (up_from start n)
      → found ≡ verdict p us words (write_words area start (brought d n s))
  unfolding address_check after
  brought-judged d area f h =
      run-judged p (write_words area start (brought d n s)) d us words s start n refl (ap (up_from start) (brought-length d n s)) (λ _. refl) e f g
      (run-as _ h refl (sym (brought-length d n s)))

  pub bytes-judged : (area : Area) → t ≡ run_taken p Bytes at n s → v ≡ checked (allows (length words) us area 2) 0 (up_from start n) → found ≡ verdict p us words (write_words area start (words_of_bytes n s))
  bytes-judged area f h = brought-judged Bytes area f h

  pub text-judged : (area : Area) → t ≡ run_taken p Text at n s → v ≡ checked (allows (length words) us area 2) 0 (up_from start n) → found ≡ verdict p us words (write_words area start (words_of_text n s))
  text-judged area f h = brought-judged Text area f h

  -- one word for all
  pub fill-judged : (w : ℕ) → t ≡ run_taken p (Same w) at n s → v ≡ checked (allows (length words) us Registers 2) 0 (up_from start n) → found ≡ verdict p us words (fill_words start n w)
  unfolding address_check after
  fill-judged w f h = run-judged p (fill_words start n w) (Same w) us words s start n refl refl (λ _. refl) e f g h

-- the word that a mask leaves
pub mask-judged : (p : Profile) (us words s : List ℕ) (k a o w : ℕ) {v found : Verdict} {t : Bool} {at : ℕ} → found ≡ fitting t v → at ≡ k → w ≡ masked (get_or words k 0) a o
    → t ≡ run_taken p (Same w) at 1 s → v ≡ checked (allows (length words) us Registers 3) 0 (up_from k 1) → found ≡ verdict p us words (mask_word k a o)
unfolding address_check after up_from
mask-judged p us words s k a o w e g left f h =
    run-judged p (mask_word k a o) (Same w) us words s k 1 refl refl (λ fits. ap (set words k) (sym left) ∙ overwrite-run words (w ∷ []) k (fits (lit< tt))) e f g h

-- what was granted lies in the table
pub granted-in : (n : ℕ) (us : List ℕ) (area : Area) (asked k m : ℕ) (v : Verdict) (t : Bool) {found : Verdict} → found ≡ fitting t v → is_granted found ≡ true → v ≡ checked (allows n us area asked) 0 (up_from k m)
    → 0 < m → k + m ≤ n
granted-in n us area asked k m v t {found} e g h = run_in n us area asked k m (sym h ∙ (fitting-granted t v (sym e ∙ is-granted found g)).1)
