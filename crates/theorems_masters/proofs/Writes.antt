-- An operation that is let pass is an act on the cells that it touches, and what it shows is of the cells that it reads. Assumes nothing.
use mathlib.Core.Path.{◌≡◌, refl, sym, ap, ap₂, ◌∙◌}
use mathlib.Core.Bool.{Bool, true, false, false≢true}
use mathlib.Core.List.{List, [], ◌∷◌, map}
use Prim.Native.Nat.{ℕ, zero, suc, ◌+◌, ◌-◌, ◌*◌, ◌/◌, ◌%◌, ◌^◌, ◌≤◌, ◌<◌}
use native.Mathlib.Omega.{arith}
use lib.Bits.{bit_and, or_lt, and_le_l, and_le_r}
use lib.Dec.{eqb, lit<}
use lib.ListN.{length, get_or, set, take, drop, replicate, length-replicate, length-drop}
use lib.Seq.{ext_get_or, get_or-take, get_or-drop, get_or-set_same, length-take-le}
use borrow.Author.Tests.{eqb-true, lt-ltb, le-leb}
use Rattle.rules.specs.Choice.{some}
use Rattle.rules.proofs.Choose.{either-false}
use Rattle.text_rooms.specs.Room.{overwrite}
use Rattle.text_rooms.proofs.Overwrite.{overwrite-within}
use Rattle.table_addresses.specs.declared.Area.{Area}
use Rattle.table_addresses.specs.declared.Area.TheVariants.{Registers}
use Rattle.table_registers.specs.declared.Verdict.TheVariants.{Granted}
use Rattle.table_registers.specs.Table.{grants, allows, up_from, checked}
use Rattle.table_registers.specs.Bits.{cell_at, masked}
use Rattle.table_registers.specs.Operation.{Operation, read_words, read_bits, write_words, fill_words, write_bits, mask_word, address_check, after, shows}
use Rattle.table_registers.specs.Profile.{member, writes_word}
use Rattle.table_registers.proofs.Lacking.{run_in}
use Rattle.table_profiles.proofs.Judged.{run-has, member-run}
use Rattle.theorems_profiles.proofs.Untouched.{untouched}
use Rattle.table_cells.specs.Cells.{has, touches, reading, writing}
use Rattle.theorems_masters.specs.Masters.{Words}
use Rattle.theorems_masters.proofs.Commute.{Agree, word-ext}
use Rattle.theorems_masters.proofs.Bits.{cells-words, cells-frame, cells-local}
use Rattle.theorems_masters.proofs.Named.{member-first, member-later, named_in, bits_inside}

-- what a request can ask for: words of 16 bits, a value for each cell
abbrev pub Well : Operation → Type 0
Well (read_words r k n) = Unit {0}
Well (read_bits cs) = Unit {0}
Well (write_words r k vs) = Words vs
Well (fill_words k n v) = v < 65536
Well (write_bits cs vs) = length cs ≡ length vs
Well (mask_word k a o) = Unit {0}

-- ---- words that are written

-- a word of a run that is written has its new value, whatever it was
pub run-brings : (us w vs : List ℕ) (area : Area) (start n k : ℕ) → length vs ≡ n → checked (allows (length w) us area 2) 0 (up_from start n) ≡ Granted
    → member k (up_from start n) ≡ true → get_or (overwrite w start vs) k 0 ≡ get_or vs (k - start) 0
run-brings us w vs area start n k l g m =
    let h = run-has start n k (sym (member-run start n k) ∙ m) in
    let fits = run_in (length w) us area 2 start n g (omega (arith, h.1)) in
    overwrite-within w vs start k (omega arith) h.0 (omega (arith, h.0, h.1))

-- the word of a mask write is the one that it names
pub mask-names : (k j : ℕ) → member j (k ∷ []) ≡ true → k ≡ j
unfolding some
mask-names k j m = eqb-true k j (sym (either-false (eqb k j)) ∙ m)

masked_small : (x a o : ℕ) → x < 65536 → masked x a o < 65536
unfolding masked
masked_small x a o h = or_lt 16 (bit_and x a) (bit_and o (65535 - a)) (omega (arith, and_le_l x a)) (omega (arith, and_le_r o (65535 - a)))

pub replicate-words : (n v : ℕ) → v < 65536 → Words (replicate n v)
replicate-words zero v h i = lit< tt
replicate-words (suc n) v h zero = h
replicate-words (suc n) v h (suc i) = replicate-words n v h i

-- a word that is not written stays as it was; a word that is written is one of 16 bits, too
written-words : (us w : List ℕ) (o : Operation) → address_check us (length w) o ≡ Granted → Words w → ((k : ℕ) → writes_word o k ≡ true → get_or (after o w) k 0 < 65536) → Words (after o w)
written-words us w o g h more k = go (writes_word o k) refl
  where
    go : (b : Bool) → writes_word o k ≡ b → get_or (after o w) k 0 < 65536
    go true e = more k e
    go false e = rw (untouched us w o k g e) (h k)

pub after-words : (us w : List ℕ) (o : Operation) → Well o → address_check us (length w) o ≡ Granted → Words w → Words (after o w)
unfolding after address_check
after-words us w (read_words r k n) s g h = h
after-words us w (read_bits cs) s g h = h
after-words us w (write_words r start vs) s g h =
    written-words us w (write_words r start vs) g h (λ k e. rw (run-brings us w vs r start (length vs) k refl g e) (s (k - start)))
after-words us w (fill_words start n v) s g h =
    written-words us w (fill_words start n v) g h (λ k e. rw (run-brings us w (replicate n v) Registers start n k (length-replicate n v) g e) (replicate-words n v s (k - start)))
after-words us w (write_bits cs vs) s g h = cells-words cs vs w (length w) refl (bits_inside us (length w) cs vs g) h
after-words us w (mask_word j a o) s g h =
    written-words us w (mask_word j a o) g h
    (λ k e. let q = mask-names j k e in
    rw (sym q, get_or-set_same w j (masked (get_or w j 0) a o) 0 (named_in us (length w) (mask_word j a o) j g (member-first j []))) (masked_small (get_or w j 0) a o (h j)))

-- ---- what stays

pub after_frame : (us w : List ℕ) (o : Operation) (c : ℕ) → address_check us (length w) o ≡ Granted → touches o writing c ≡ false → cell_at (after o w) c ≡ cell_at w c
unfolding after has grants
after_frame us w (read_words r k n) c g e = refl
after_frame us w (read_bits cs) c g e = refl
after_frame us w (write_words r k vs) c g e = ap (λ (x : ℕ). x / 2 ^ (c % 16) % 2) (untouched us w (write_words r k vs) (c / 16) g e)
after_frame us w (fill_words k n v) c g e = ap (λ (x : ℕ). x / 2 ^ (c % 16) % 2) (untouched us w (fill_words k n v) (c / 16) g e)
after_frame us w (write_bits cs vs) c g e = cells-frame cs vs w (length w) c refl (bits_inside us (length w) cs vs g) e
after_frame us w (mask_word k a o) c g e = ap (λ (x : ℕ). x / 2 ^ (c % 16) % 2) (untouched us w (mask_word k a o) (c / 16) g e)

-- ---- on what it depends

-- two tables that agree in the cells that a mask write reads have the same word there
pub mask-sees : (w w' : List ℕ) (k a o : ℕ) → Words w → Words w' → Agree (touches (mask_word k a o) reading) w w' → get_or w k 0 ≡ get_or w' k 0
unfolding has grants
mask-sees w w' k a o h h' g =
    word-ext w w' k h h' (λ b s. let e : (16 * k + b) / 16 ≡ k = omega arith in g (16 * k + b) (ap (λ (i : ℕ). member i (k ∷ [])) e ∙ member-first k []))

pub mask_word-alike : (us w w' : List ℕ) (k a o : ℕ) → address_check us (length w) (mask_word k a o) ≡ Granted → length w ≡ length w' → get_or w k 0 ≡ get_or w' k 0
    → get_or (set w k (masked (get_or w k 0) a o)) k 0 ≡ get_or (set w' k (masked (get_or w' k 0) a o)) k 0
mask_word-alike us w w' k a o g l e =
    let i = named_in us (length w) (mask_word k a o) k g (member-first k []) in
    get_or-set_same w k (masked (get_or w k 0) a o) 0 i ∙ ap (λ (y : ℕ). masked y a o) e ∙ sym (get_or-set_same w' k (masked (get_or w' k 0) a o) 0 (omega arith))

-- the same run, written in two tables of one length
pub run-same : (us w w' vs : List ℕ) (area : Area) (start n k : ℕ) → length vs ≡ n → length w ≡ length w' → checked (allows (length w) us area 2) 0 (up_from start n) ≡ Granted
    → member k (up_from start n) ≡ true → get_or (overwrite w start vs) k 0 ≡ get_or (overwrite w' start vs) k 0
run-same us w w' vs area start n k l s g m =
    run-brings us w vs area start n k l g m
    ∙ sym (run-brings us w' vs area start n k l (ap (λ (x : ℕ). checked (allows x us area 2) 0 (up_from start n)) (sym s) ∙ g) m)

pub after-local : (us w w' : List ℕ) (o : Operation) (c : ℕ) → Well o → address_check us (length w) o ≡ Granted → length w ≡ length w' → Words w → Words w'
    → Agree (touches o reading) w w' → touches o writing c ≡ true → cell_at (after o w) c ≡ cell_at (after o w') c
unfolding after has grants address_check
after-local us w w' (read_words r k n) c s g l h h' a e = absurd (false≢true e)
after-local us w w' (read_bits cs) c s g l h h' a e = absurd (false≢true e)
after-local us w w' (write_words r k vs) c s g l h h' a e = ap (λ (x : ℕ). x / 2 ^ (c % 16) % 2) (run-same us w w' vs r k (length vs) (c / 16) refl l g e)
after-local us w w' (fill_words k n v) c s g l h h' a e = ap (λ (x : ℕ). x / 2 ^ (c % 16) % 2) (run-same us w w' (replicate n v) Registers k n (c / 16) (length-replicate n v) l g e)
after-local us w w' (write_bits cs vs) c s g l h h' a e =
    cells-local cs vs w w' (length w) c refl (sym l) h h' s (bits_inside us (length w) cs vs g) (λ f. absurd (false≢true (sym f ∙ e)))
after-local us w w' (mask_word k x y) c s g l h h' a e =
    let q = mask-names k (c / 16) e in
    ap (λ (i : ℕ). get_or (set w k (masked (get_or w k 0) x y)) i 0 / 2 ^ (c % 16) % 2) (sym q)
    ∙ ap (λ (z : ℕ). z / 2 ^ (c % 16) % 2) (mask_word-alike us w w' k x y g l (mask-sees w w' k x y h h' a))
    ∙ ap (λ (i : ℕ). get_or (set w' k (masked (get_or w' k 0) x y)) i 0 / 2 ^ (c % 16) % 2) q

-- ---- what is shown

cells-seen : (cs w w' : List ℕ) → ((c : ℕ) → member c cs ≡ true → cell_at w c ≡ cell_at w' c) → map (cell_at w) cs ≡ map (cell_at w') cs
cells-seen [] w w' h = refl
cells-seen (d ∷ ds) w w' h = ap₂ (λ (x : ℕ) (l : List ℕ). x ∷ l) (h d (member-first d ds)) (cells-seen ds w w' (λ c m. h c (member-later c d ds m)))

run-seen : (k m : ℕ) (w w' : List ℕ) → k + m ≤ length w → length w ≡ length w' → ((i : ℕ) → i < m → get_or w (k + i) 0 ≡ get_or w' (k + i) 0) → take m (drop k w) ≡ take m (drop k w')
run-seen k m w w' s l h =
    ext_get_or 0 (take m (drop k w)) (take m (drop k w')) (part w s ∙ sym (part w' (omega arith)))
    (λ i q. same i (omega (arith, part w s)))
  where
    part : (v : List ℕ) → k + m ≤ length v → length (take m (drop k v)) ≡ m
    part v e = length-take-le m (drop k v) (omega (arith, length-drop k v))

    same : (i : ℕ) → i < m → get_or (take m (drop k w)) i 0 ≡ get_or (take m (drop k w')) i 0
    same i q = get_or-take m (drop k w) i 0 q ∙ get_or-drop k w i 0 ∙ h i q ∙ sym (get_or-take m (drop k w') i 0 q ∙ get_or-drop k w' i 0)

-- every word of a run is named
run-member : (k m i : ℕ) → i < m → member (k + i) (up_from k m) ≡ true
run-member k m i h = let e : k + i - k ≡ i = omega arith in member-run k m (k + i) ∙ rw (le-leb k (k + i) (omega arith), e, lt-ltb i m h)

words-seen : (us w w' : List ℕ) (r : Area) (k m : ℕ) → checked (allows (length w) us r 1) 0 (up_from k m) ≡ Granted → length w ≡ length w' → Words w → Words w'
    → ((c : ℕ) → member (c / 16) (up_from k m) ≡ true → cell_at w c ≡ cell_at w' c) → take m (drop k w) ≡ take m (drop k w')
words-seen us w w' r k zero g l h h' a = refl
words-seen us w w' r k (suc m) g l h h' a =
    run-seen k (suc m) w w' (run_in (length w) us r 1 k (suc m) g (omega arith)) l
    (λ i q. word-ext w w' (k + i) h h' (λ b z. let e : (16 * (k + i) + b) / 16 ≡ k + i = omega arith in
    a (16 * (k + i) + b) (ap (λ (j : ℕ). member j (up_from k (suc m))) e ∙ run-member k (suc m) i q)))

pub shows_same : (us w w' : List ℕ) (o : Operation) → address_check us (length w) o ≡ Granted → length w ≡ length w' → Words w → Words w' → Agree (touches o reading) w w' → shows o w ≡ shows o w'
unfolding shows has grants address_check
shows_same us w w' (read_words r k m) g l h h' a = words-seen us w w' r k m g l h h' a
shows_same us w w' (read_bits cs) g l h h' a = cells-seen cs w w' a
shows_same us w w' (write_words r k vs) g l h h' a = refl
shows_same us w w' (fill_words k m v) g l h h' a = refl
shows_same us w w' (write_bits cs vs) g l h h' a = refl
shows_same us w w' (mask_word k x y) g l h h' a = refl
