-- When some words let an operation pass: a read and a write of bits where the address check grants it, a write of words where the profile takes what it
-- brings too, a mask write where the profile takes what it leaves in some word. So the cells of each. Assumes nothing.
use Prim.Native.Nat.{ℕ, zero, suc, ◌*◌, ◌≤◌, ◌<◌}
use mathlib.Core.Bool.{Bool, true, false, false≢true}
use mathlib.Core.List.{List, [], ◌∷◌}
use mathlib.Core.Path.{◌≡◌, refl, sym, ap, ap₂, ◌∙◌}
use native.Mathlib.Omega.{arith}
use borrow.Author.Tests.{eqb-true, eq-eqb}
use lib.Dec.{eqb, lit<}
use lib.ListN.{length, get_or, replicate, length-replicate, get_or-replicate}
use Rattle.rules.specs.Choice.{both, either, some}
use Rattle.rules.proofs.Choose.{both_true, both_left, both_right}
use Rattle.table_addresses.specs.declared.Area.{Area}
use Rattle.table_addresses.specs.declared.Area.TheVariants.{Relays, Registers}
use Rattle.table_registers.specs.declared.Verdict.{Verdict}
use Rattle.table_registers.specs.declared.Verdict.TheVariants.{Granted, Lacking, Unfit}
use Rattle.table_registers.specs.declared.Profile.{Profile}
use Rattle.table_registers.specs.Table.{grants, allows, up_from, checked}
use Rattle.table_registers.specs.Bits.{word_of, words_of, masked}
use Rattle.table_registers.specs.Operation.{Operation, read_words, read_bits, write_words, fill_words, write_bits, mask_word, names, need, area_of, address_check, after, is_granted, words_of_bytes, words_of_text}
use Rattle.table_registers.specs.Profile.{takes, fitting, verdict, member}
use Rattle.table_registers.proofs.Done.{is-granted}
use Rattle.table_registers.proofs.Lacking.{run_in, allows-in, nowhere}
use Rattle.table_registers.proofs.Profiles.{fitting-granted, read-judged, relays-judged}
use Rattle.table_profiles.specs.declared.Data.TheVariants.{Bytes, Text, Same}
use Rattle.table_profiles.specs.Runs.{in_run, run_taken}
use Rattle.table_profiles.proofs.Judged.{member-run, bytes-judged, text-judged, fill-judged, mask-judged}
use Rattle.table_registers.proofs.Runs.{words_of_bytes-length, words_of_text-length}
use Rattle.table_cells.specs.Cells.{has, may_pass}
use Rattle.table_cells.specs.Touched.{operation_cells, run_cells, bit_cells, mask_may_pass}
use Rattle.table_cells.proofs.Shared.{never_true, some_same, some-both}
use Rattle.table_cells.proofs.Masks.{found_in}

-- ---- tests of every word

some-steady : (b : Bool) (k n : ℕ) → 0 < n → some (λ (v : ℕ). b) (up_from k n) ≡ b
unfolding some up_from
some-steady b k zero h = absurd (omega arith)
some-steady true k (suc n) h = refl
some-steady false k (suc zero) h = refl
some-steady false k (suc (suc n)) h = some-steady false (suc k) (suc n) (omega arith)

granted-fits : (b : Bool) (v : Verdict) → is_granted (fitting b v) ≡ both (is_granted v) b
granted-fits true v = sym (both_true (is_granted v))
granted-fits false Granted = refl
granted-fits false (Lacking i) = refl
granted-fits false Unfit = refl

module _ (p : Profile) (us : List ℕ) (o : Operation) where
  -- one answer whatever the words hold
  steady : (b : Bool) → ((v : ℕ) → is_granted (verdict p us (replicate (length us) v) o) ≡ b) → may_pass (verdict p us) (length us) o ≡ b
  unfolding may_pass
  steady b h = some_same (λ (v : ℕ). is_granted (verdict p us (replicate (length us) v) o)) (λ v. b) h (up_from 0 65536) ∙ some-steady b 0 65536 (lit< tt)

  check-decides : ((words : List ℕ) → verdict p us words o ≡ address_check us (length words) o) → may_pass (verdict p us) (length us) o ≡ is_granted (address_check us (length us) o)
  check-decides h =
      steady (is_granted (address_check us (length us) o))
      (λ v. ap is_granted (h (replicate (length us) v)) ∙ ap (λ (n : ℕ). is_granted (address_check us n o)) (length-replicate (length us) v))

  -- a profile says nothing of a read, nor of what names relay words only
  pub read-passes : need o ≡ 1 → may_pass (verdict p us) (length us) o ≡ is_granted (address_check us (length us) o)
  read-passes e = check-decides (λ words. read-judged p us words o e)

  pub relays-pass : area_of o ≡ Relays → may_pass (verdict p us) (length us) o ≡ is_granted (address_check us (length us) o)
  relays-pass e = check-decides (λ words. relays-judged p us words o e)

  -- a write of a run of words
  run-passes : (area : Area) (ways k n : ℕ) (t : Bool) → ((words : List ℕ) → fitting t (checked (allows (length words) us area ways) 0 (up_from k n)) ≡ verdict p us words o)
      → may_pass (verdict p us) (length us) o ≡ both (is_granted (checked (allows (length us) us area ways) 0 (up_from k n))) t
  run-passes area ways k n t h =
      steady (both (is_granted (checked (allows (length us) us area ways) 0 (up_from k n))) t)
      (λ v. ap is_granted (sym (h (replicate (length us) v)))
      ∙ ap (λ (m : ℕ). is_granted (fitting t (checked (allows m us area ways) 0 (up_from k n)))) (length-replicate (length us) v)
      ∙ granted-fits t (checked (allows (length us) us area ways) 0 (up_from k n)))

both-where : (a b c : Bool) → (a ≡ true → b ≡ c) → both a b ≡ both a c
both-where true b c h = h refl
both-where false b c h = refl

-- a mask write: the words decide by the one that it names
mask-passes : (p : Profile) (us : List ℕ) (k a o : ℕ)
    → may_pass (verdict p us) (length us) (mask_word k a o) ≡ both (is_granted (checked (allows (length us) us Registers 3) 0 (up_from k 1))) (mask_may_pass p k a o)
unfolding may_pass mask_may_pass
mask-passes p us k a o =
    some_same (λ (v : ℕ). is_granted (verdict p us (replicate n v) (mask_word k a o))) (λ v. both (is_granted check) (lets v)) each (up_from 0 65536)
    ∙ some-both (is_granted check) lets (up_from 0 65536)
  where
    n : ℕ
    n = length us

    check : Verdict
    check = checked (allows (length us) us Registers 3) 0 (up_from k 1)

    lets : ℕ → Bool
    lets v = run_taken p (Same (masked v a o)) k 1 []

    each : (v : ℕ) → is_granted (verdict p us (replicate n v) (mask_word k a o)) ≡ both (is_granted check) (lets v)
    each v =
        let words = replicate n v in
        let left = masked (get_or words k 0) a o in
        ap is_granted (sym (mask-judged p us words [] k a o left refl refl refl refl refl))
        ∙ ap (λ (m : ℕ). is_granted (fitting (run_taken p (Same left) k 1 []) (checked (allows m us Registers 3) 0 (up_from k 1)))) (length-replicate n v)
        ∙ granted-fits (run_taken p (Same left) k 1 []) check
        ∙ both-where (is_granted check) (run_taken p (Same left) k 1 []) (lets v)
        (λ e. ap (λ (x : ℕ). run_taken p (Same (masked x a o)) k 1 [])
        (get_or-replicate n k v 0 (omega (arith, run_in n us Registers 3 k 1 (is-granted check e) (omega arith)))))

-- ---- the cells of each operation

module _ (p : Profile) (us : List ℕ) (way c : ℕ) where
  pub read-cells : (area : Area) (k n : ℕ) → operation_cells (verdict p us) (length us) (read_words area k n) way c ≡ run_cells us area 1 k n true way c
  unfolding address_check has run_cells
  read-cells area k n =
      ap₂ both (read-passes p us (read_words area k n) refl ∙ sym (both_true _)) (ap (both (grants way 1)) (member-run k n (word_of c)))

  pub read-bit-cells : (cs : List ℕ) → operation_cells (verdict p us) (length us) (read_bits cs) way c ≡ bit_cells us 1 cs way c
  unfolding address_check has bit_cells
  read-bit-cells cs = ap (λ (b : Bool). both b (both (grants way 1) (member c cs))) (relays-pass p us (read_bits cs) refl)

  pub write-bit-cells : (cs : List ℕ) (vs : List Bool) → operation_cells (verdict p us) (length us) (write_bits cs vs) way c ≡ bit_cells us 2 cs way c
  unfolding address_check has bit_cells
  write-bit-cells cs vs = ap (λ (b : Bool). both b (both (grants way 2) (member c cs))) (relays-pass p us (write_bits cs vs) refl)

  -- as many words as a run has
  words-in : (k n : ℕ) (vs : List ℕ) → length vs ≡ n → member (word_of c) (up_from k (length vs)) ≡ in_run k n (word_of c)
  words-in k n vs e = ap (λ (m : ℕ). member (word_of c) (up_from k m)) e ∙ member-run k n (word_of c)

  pub bytes-cells : (k n : ℕ) (s : List ℕ)
      → operation_cells (verdict p us) (length us) (write_words Registers k (words_of_bytes n s)) way c ≡ run_cells us Registers 2 k n (run_taken p Bytes k n s) way c
  unfolding has run_cells
  bytes-cells k n s =
      ap₂ both (run-passes p us (write_words Registers k (words_of_bytes n s)) Registers 2 k n (run_taken p Bytes k n s) (λ words. bytes-judged p us words s k n refl refl Registers refl refl))
      (ap (both (grants way 2)) (words-in k n (words_of_bytes n s) (words_of_bytes-length n s)))

  pub text-cells : (area : Area) (k n : ℕ) (s : List ℕ)
      → operation_cells (verdict p us) (length us) (write_words area k (words_of_text n s)) way c ≡ run_cells us area 2 k n (run_taken p Text k n s) way c
  unfolding has run_cells
  text-cells area k n s =
      ap₂ both (run-passes p us (write_words area k (words_of_text n s)) area 2 k n (run_taken p Text k n s) (λ words. text-judged p us words s k n refl refl area refl refl))
      (ap (both (grants way 2)) (words-in k n (words_of_text n s) (words_of_text-length n s)))

  pub fill-cells : (k n w : ℕ) (s : List ℕ) → operation_cells (verdict p us) (length us) (fill_words k n w) way c ≡ run_cells us Registers 2 k n (run_taken p (Same w) k n s) way c
  unfolding has run_cells
  fill-cells k n w s =
      ap₂ both (run-passes p us (fill_words k n w) Registers 2 k n (run_taken p (Same w) k n s) (λ words. fill-judged p us words s k n refl refl w refl refl))
      (ap (both (grants way 2)) (member-run k n (word_of c)))

  pub mask-cells : (k a o : ℕ) → operation_cells (verdict p us) (length us) (mask_word k a o) way c ≡ run_cells us Registers 3 k 1 (mask_may_pass p k a o) way c
  unfolding has run_cells up_from
  mask-cells k a o = ap₂ both (mask-passes p us k a o) (ap (both (grants way 3)) (member-run k 1 (word_of c)))

-- ---- no cell past the table

-- a number that a list has stands somewhere in it
member-at : (k : ℕ) (ks : List ℕ) → member k ks ≡ true → (j : ℕ) × (j < length ks) × (get_or ks j 0 ≡ k)
unfolding some
member-at k [] e = absurd (false≢true e)
member-at k (i ∷ is) e = go (eqb i k) refl (member-at k is) e
  where
    go : (b : Bool) → eqb i k ≡ b → (member k is ≡ true → (j : ℕ) × (j < length is) × (get_or is j 0 ≡ k)) → either (eqb i k) (member k is) ≡ true
        → (j : ℕ) × (j < suc (length is)) × (get_or (i ∷ is) j 0 ≡ k)
    go true f on h = (0, omega arith, eqb-true i k f)
    go false f on h = let r = on (ap (λ (b : Bool). either b (member k is)) (sym f) ∙ h) in (suc r.0, omega (arith, r.1), r.2)

either_second : (a b : Bool) → b ≡ true → either a b ≡ true
either_second true b e = refl
either_second false b e = e

-- the word of a bit that is named is named
bit-named : (c : ℕ) (cs : List ℕ) → member c cs ≡ true → member (word_of c) (words_of cs) ≡ true
unfolding some
bit-named c [] e = e
bit-named c (i ∷ is) e = go (eqb i c) refl (bit-named c is) e
  where
    go : (b : Bool) → eqb i c ≡ b → (member c is ≡ true → member (word_of c) (words_of is) ≡ true) → either (eqb i c) (member c is) ≡ true
        → either (eqb (word_of i) (word_of c)) (member (word_of c) (words_of is)) ≡ true
    go true f on h = ap (λ (b : Bool). either b (member (word_of c) (words_of is))) (eq-eqb (word_of i) (word_of c) (ap word_of (eqb-true i c f)))
    go false f on h = either_second (eqb (word_of i) (word_of c)) _ (on (ap (λ (b : Bool). either b (member c is)) (sym f) ∙ h))

has_named : (o : Operation) (c : ℕ) → has o c ≡ true → member (word_of c) (names o) ≡ true
unfolding has
has_named (read_words r k n) c e = e
has_named (read_bits cs) c e = bit-named c cs e
has_named (write_words r k vs) c e = e
has_named (fill_words k n v) c e = e
has_named (write_bits cs vs) c e = bit-named c cs e
has_named (mask_word k a o) c e = e

-- what may pass names words of the table only
may-in : (p : Profile) (us : List ℕ) (o : Operation) (c : ℕ) → may_pass (verdict p us) (length us) o ≡ true → has o c ≡ true → word_of c < length us
unfolding may_pass address_check
may-in p us o c e f =
    let v = found_in (λ (v : ℕ). is_granted (verdict p us (replicate (length us) v) o)) 0 65536 e in
    let words = replicate (length us) v.0 in
    let granted = (fitting-granted (takes p o (after o words)) (address_check us (length words) o) (is-granted (verdict p us words o) v.2)).1 in
    let named = member-at (word_of c) (names o) (has_named o c f) in
    let there = allows-in (length words) us (area_of o) (need o) (get_or (names o) named.0 0) (nowhere (allows (length words) us (area_of o) (need o)) 0 (names o) granted named.0 named.1) in
    omega (arith, there, named.2, length-replicate (length us) v.0)

pub past-none : (p : Profile) (us : List ℕ) (o : Operation) (way c : ℕ) → 16 * length us ≤ c → operation_cells (verdict p us) (length us) o way c ≡ false
past-none p us o way c h =
    never_true (operation_cells (verdict p us) (length us) o way c)
    (λ e. absurd (omega (arith, h, may-in p us o c (both_left _ _ e) (both_right (grants way (need o)) _ (both_right (may_pass (verdict p us) (length us) o) _ e)))))
