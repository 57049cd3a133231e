-- A word that an operation doesn't write is as it was. Assumes nothing.
use Prim.Native.Nat.{ℕ, ◌+◌, ◌-◌, ◌≤◌, ◌<◌}
use mathlib.Core.Bool.{Bool, true, false, false≢true}
use mathlib.Core.List.{List, [], ◌∷◌}
use mathlib.Core.Path.{◌≡◌, refl, sym, ap, ◌∙◌}
use native.Mathlib.Omega.{arith}
use borrow.Author.Tests.{ltb-false, leb-true, leb-false, eqb-false}
use lib.Dec.{eqb, leb, ltb}
use lib.ListN.{length, get_or, replicate, length-replicate}
use lib.Seq.{get_or-set_other}
use Rattle.rules.specs.Choice.{some}
use Rattle.rules.proofs.Choose.{no-left, no-right}
use Rattle.text_rooms.specs.Room.{overwrite}
use Rattle.text_rooms.proofs.Overwrite.{overwrite-none, overwrite-below, overwrite-above}
use Rattle.table_addresses.specs.declared.Area.{Area}
use Rattle.table_addresses.specs.declared.Area.TheVariants.{Registers}
use Rattle.table_registers.specs.declared.Verdict.TheVariants.{Granted}
use Rattle.table_registers.specs.Table.{allows, up_from, checked}
use Rattle.table_registers.specs.Bits.{word_of, words_of, put_cell, put_cells}
use Rattle.table_registers.specs.Operation.{Operation, read_words, read_bits, write_words, fill_words, write_bits, mask_word, address_check, after}
use Rattle.table_registers.specs.Profile.{member, writes_word}
use Rattle.table_registers.proofs.Lacking.{run_in}
use Rattle.table_profiles.specs.Runs.{in_run}
use Rattle.table_profiles.proofs.Judged.{member-run}

-- outside a run that lies in the table
over-outside : (words vs : List ℕ) (start k : ℕ) → (0 < length vs → start + length vs ≤ length words) → in_run start (length vs) k ≡ false → get_or (overwrite words start vs) k 0 ≡ get_or words k 0
over-outside words [] start k h e = ap (λ (l : List ℕ). get_or l k 0) (overwrite-none words start)
over-outside words (v ∷ vs) start k h e = go (leb start k) refl (ltb (k - start) (length (v ∷ vs))) refl
  where
    inside : start + length (v ∷ vs) ≤ length words
    inside = h (omega arith)

    go : (b : Bool) → leb start k ≡ b → (c : Bool) → ltb (k - start) (length (v ∷ vs)) ≡ c → get_or (overwrite words start (v ∷ vs)) k 0 ≡ get_or words k 0
    go false p c q = overwrite-below words (v ∷ vs) start k inside (leb-false start k p)
    go true p true q = absurd (false≢true (sym e ∙ rw (p, q)))
    go true p false q = overwrite-above words (v ∷ vs) start k inside (omega (arith, leb-true start k p, ltb-false (k - start) (length (v ∷ vs)) q))

cells-outside : (cs : List ℕ) (vs : List Bool) (words : List ℕ) (k : ℕ) → member k (words_of cs) ≡ false → get_or (put_cells words cs vs) k 0 ≡ get_or words k 0
unfolding put_cells some
cells-outside [] vs words k e = refl
cells-outside (c ∷ cs) [] words k e = refl
cells-outside (c ∷ cs) (v ∷ vs) words k e =
    cells-outside cs vs (put_cell words c v) k (no-right (eqb (word_of c) k) (member k (words_of cs)) e)
    ∙ get_or-set_other words (word_of c) k _ 0 (λ q. eqb-false (word_of c) k (no-left (eqb (word_of c) k) (member k (words_of cs)) e) (sym q))

run-outside : (us words vs : List ℕ) (area : Area) (start n k : ℕ) → length vs ≡ n → checked (allows (length words) us area 2) 0 (up_from start n) ≡ Granted
    → member k (up_from start n) ≡ false → get_or (overwrite words start vs) k 0 ≡ get_or words k 0
run-outside us words vs area start n k l g e =
    over-outside words vs start k (λ some. rw l (run_in (length words) us area 2 start n g (rw (sym l) some))) (ap (λ (m : ℕ). in_run start m k) l ∙ sym (member-run start n k) ∙ e)

pub untouched : (us words : List ℕ) (o : Operation) (k : ℕ) → address_check us (length words) o ≡ Granted → writes_word o k ≡ false → get_or (after o words) k 0 ≡ get_or words k 0
unfolding after address_check some
untouched us words (read_words r s n) k g e = refl
untouched us words (read_bits cs) k g e = refl
untouched us words (write_words r s vs) k g e = run-outside us words vs r s (length vs) k refl g e
untouched us words (fill_words s n v) k g e = run-outside us words (replicate n v) Registers s n k (length-replicate n v) g e
untouched us words (write_bits cs vs) k g e = cells-outside cs vs words k e
untouched us words (mask_word w a m) k g e = get_or-set_other words w k _ 0 (λ q. eqb-false w k (no-left (eqb w k) false e) (sym q))
