-- A body that is wrong touches nothing; a right one what its operation does. So function by function. Assumes nothing.
use Prim.Native.Nat.{ℕ, ◌+◌, ◌*◌}
use mathlib.Core.Bool.{Bool, true, false}
use mathlib.Core.List.{List, [], ◌∷◌, ◌++◌}
use mathlib.Core.Path.{◌≡◌, refl, sym, ap, ap₂, subst, ◌∙◌}
use borrow.Author.Tests.{eqb-true}
use lib.Dec.{eqb, leb}
use lib.ListN.{length, take, drop}
use lib.Seq.{get_or-drop}
use Rattle.rules.specs.Choice.{pick}
use Rattle.rules.specs.Tests.{Test, ◌unless◌, first}
use Rattle.rules.proofs.Choose.{pick_yes, pick_no}
use Rattle.table_addresses.specs.Areas.{coil_cell}
use Rattle.table_addresses.specs.declared.Area.TheVariants.{Registers}
use Rattle.table_registers.specs.declared.Profile.{Profile}
use Rattle.table_registers.specs.Table.{up_from}
use Rattle.table_registers.specs.Bits.{bits_from}
use Rattle.table_registers.specs.Operation.{Operation, write_words, words_of_bytes}
use Rattle.table_registers.specs.Profile.{verdict}
use Rattle.table_profiles.specs.declared.Data.TheVariants.{Bytes}
use Rattle.table_profiles.specs.Runs.{run_taken}
use Rattle.table_cells.specs.declared.Touched.{Touched}
use Rattle.table_cells.specs.Touched.{cells_in, Touches, operation_cells, run_cells, bit_cells, mask_may_pass}
use Rattle.table_cells.proofs.Passing.{read-cells, read-bit-cells, write-bit-cells, bytes-cells, mask-cells}
use Rattle.station.specs.Site.{Asked, wrong, asks, tells, site_of}
use Rattle.station.specs.declared.Whom.TheVariants.{This}
use Rattle.modbus_counters.specs.Counters.{cleared}
use Rattle.modbus_counters.specs.Diagnosis.{sub, count_at, diagnosed, diagnosis_tests}
use Rattle.modbus_body.specs.Bytes.{word_at, word_bytes}
use Rattle.modbus_body.specs.Body.{Function, function, address, quantity, coils, reply_body, read_coils, read_registers, write_coil, write_register, write_coils, write_registers, mask_register, functions, asks_by, body_asks}
use Rattle.modbus_line.specs.Framing.{line_asks}
use Rattle.masters.specs.Frames.{asked_cells}
use Rattle.masters.specs.Asking.{own_cells}

-- the one word of a body of five bytes
one_word : (b : List ℕ) → words_of_bytes 1 (drop 3 b) ≡ quantity b ∷ []
unfolding words_of_bytes word_at
one_word b = ap₂ (λ (x y : ℕ). (x * 256 + y) ∷ []) (get_or-drop 3 b 0 0) (get_or-drop 3 b 1 0)

-- no cell
abbrev NoCell : Touched → Type 0
NoCell t = (way c : ℕ) → cells_in t way c ≡ false

module _ (t : Touched) (us : List ℕ) (p : Profile) where
  pub asked-as : {a b : Asked} → a ≡ b → Touches t (own_cells us p a) → Touches t (own_cells us p b)
  asked-as e h = subst (λ (x : Asked). Touches t (own_cells us p x)) e h

  pub wrong-body : (f : Function) (b : List ℕ) → NoCell t → f.fits b ≡ false → Touches t (own_cells us p (asks_by f b))
  unfolding asks_by
  wrong-body f b none e = asked-as (sym (pick_no (f.fits b) (asks (f.operation b) (reply_body b (f.operation b))) (wrong 3) e)) none

  right-body : (f : Function) (b : List ℕ) → f.fits b ≡ true → Touches t (operation_cells (verdict p us) (length us) (f.operation b)) → Touches t (own_cells us p (asks_by f b))
  unfolding asks_by
  right-body f b e h = asked-as (sym (pick_yes (f.fits b) (asks (f.operation b) (reply_body b (f.operation b))) (wrong 3) e)) h

  -- ---- the seven

  pub reads-coils : (b : List ℕ) {a n : ℕ} → read_coils.fits b ≡ true → Touches t (bit_cells us 1 (up_from (coil_cell a) n)) → a ≡ address b → n ≡ quantity b
      → Touches t (own_cells us p (asks_by read_coils b))
  reads-coils b fits h e f = right-body read_coils b fits
      (λ way c. h way c ∙ ap₂ (λ (x y : ℕ). bit_cells us 1 (up_from (coil_cell x) y) way c) e f ∙ sym (read-bit-cells p us way c (coils b (quantity b))))

  pub reads-registers : (b : List ℕ) {k n : ℕ} → read_registers.fits b ≡ true → Touches t (run_cells us Registers 1 k n true) → k ≡ address b → n ≡ quantity b
      → Touches t (own_cells us p (asks_by read_registers b))
  reads-registers b fits h e f = right-body read_registers b fits
      (λ way c. h way c ∙ ap₂ (λ (x y : ℕ). run_cells us Registers 1 x y true way c) e f ∙ sym (read-cells p us way c Registers (address b) (quantity b)))

  pub writes-coil : (b : List ℕ) {a : ℕ} → write_coil.fits b ≡ true → Touches t (bit_cells us 2 (up_from (coil_cell a) 1)) → a ≡ address b → Touches t (own_cells us p (asks_by write_coil b))
  writes-coil b fits h e = right-body write_coil b fits
      (λ way c. h way c ∙ ap (λ (x : ℕ). bit_cells us 2 (up_from (coil_cell x) 1) way c) e ∙ sym (write-bit-cells p us way c (coils b 1) (eqb (quantity b) 0xFF00 ∷ [])))

  pub writes-coils : (b : List ℕ) {a n : ℕ} → write_coils.fits b ≡ true → Touches t (bit_cells us 2 (up_from (coil_cell a) n)) → a ≡ address b → n ≡ quantity b
      → Touches t (own_cells us p (asks_by write_coils b))
  writes-coils b fits h e f = right-body write_coils b fits
      (λ way c. h way c ∙ ap₂ (λ (x y : ℕ). bit_cells us 2 (up_from (coil_cell x) y) way c) e f
      ∙ sym (write-bit-cells p us way c (coils b (quantity b)) (bits_from (drop 6 b) 0 (quantity b))))

  -- words that are given as bytes
  pub brings-bytes : (k n at : ℕ) (s : List ℕ) {taken : Bool} → Touches t (run_cells us Registers 2 k n taken) → taken ≡ run_taken p Bytes at n s → at ≡ k
      → Touches t (operation_cells (verdict p us) (length us) (write_words Registers k (words_of_bytes n s)))
  brings-bytes k n at s h e f way c =
      h way c ∙ ap (λ (b : Bool). run_cells us Registers 2 k n b way c) (e ∙ ap (λ (x : ℕ). run_taken p Bytes x n s) f) ∙ sym (bytes-cells p us way c k n s)

  pub operation-as : {o q : Operation} → o ≡ q → Touches t (operation_cells (verdict p us) (length us) o) → Touches t (operation_cells (verdict p us) (length us) q)
  operation-as e h = subst (λ (x : Operation). Touches t (operation_cells (verdict p us) (length us) x)) e h

  pub writes-register : (b s : List ℕ) {k : ℕ} → write_register.fits b ≡ true → Touches t (operation_cells (verdict p us) (length us) (write_words Registers k (words_of_bytes 1 s)))
      → k ≡ address b → s ≡ drop 3 b → Touches t (own_cells us p (asks_by write_register b))
  writes-register b s fits h e f = right-body write_register b fits
      (operation-as (ap₂ (λ (x : ℕ) (l : List ℕ). write_words Registers x l) e (ap (words_of_bytes 1) f ∙ one_word b)) h)

  pub writes-registers : (b s : List ℕ) {k n : ℕ} → write_registers.fits b ≡ true → Touches t (operation_cells (verdict p us) (length us) (write_words Registers k (words_of_bytes n s)))
      → k ≡ address b → n ≡ quantity b → s ≡ drop 6 b → Touches t (own_cells us p (asks_by write_registers b))
  writes-registers b s fits h e f g = right-body write_registers b fits
      (operation-as (ap₂ (λ (x : ℕ) (l : List ℕ). write_words Registers x l) e (ap₂ words_of_bytes f g)) h)

  pub masks-register : (b : List ℕ) {k x y : ℕ} {taken : Bool} → mask_register.fits b ≡ true → Touches t (run_cells us Registers 3 k 1 taken) → k ≡ address b
      → taken ≡ mask_may_pass p k x y → x ≡ word_at b 3 → y ≡ word_at b 5 → Touches t (own_cells us p (asks_by mask_register b))
  masks-register b {k} fits h e f g i = right-body mask_register b fits
      (λ way c. h way c
      ∙ ap₂ (λ (m : ℕ) (u : Bool). run_cells us Registers 3 m 1 u way c) e (f ∙ ap₂ (mask_may_pass p k) g i ∙ ap (λ (m : ℕ). mask_may_pass p m (word_at b 3) (word_at b 5)) e)
      ∙ sym (mask-cells p us way c (address b) (word_at b 3) (word_at b 5)))

-- ---- by the function byte

abbrev pub by_function : ℕ → List ℕ → Asked
by_function k b =
    pick (eqb k 0x01) (asks_by read_coils b)
    (pick (eqb k 0x03) (asks_by read_registers b)
    (pick (eqb k 0x05) (asks_by write_coil b)
    (pick (eqb k 0x06) (asks_by write_register b)
    (pick (eqb k 0x0F) (asks_by write_coils b)
    (pick (eqb k 0x10) (asks_by write_registers b)
    (pick (eqb k 0x16) (asks_by mask_register b) (wrong 1)))))))

pub by-function : (b : List ℕ) {k : ℕ} → k ≡ function b → by_function k b ≡ body_asks functions b
unfolding body_asks
by-function b e = ap (λ (k : ℕ). by_function k b) e

-- by the byte that the code found
pub by_key : (t : Touched) (us : List ℕ) (p : Profile) (b : List ℕ) (n : ℕ) {k : ℕ} → k ≡ function b → k ≡ n → Touches t (own_cells us p (by_function n b))
    → Touches t (own_cells us p (body_asks functions b))
by_key t us p b n e f h = asked-as t us p (ap (λ (x : ℕ). by_function x b) (sym f) ∙ by-function b e) h

-- ---- function 08

tells_none : (us : List ℕ) (p : Profile) (ts : List Test) (s : List ℕ) (way c : ℕ) → own_cells us p (first wrong ts (tells s)) way c ≡ false
tells_none us p [] s way c = refl
tells_none us p ((k unless true) ∷ ts) s way c = tells_none us p ts s way c
tells_none us p ((k unless false) ∷ ts) s way c = refl

-- it stands beside the seven, and touches nothing of the table
pub line-cells : (us : List ℕ) (p : Profile) (b : List ℕ) (way c : ℕ) → own_cells us p (body_asks functions b) way c ≡ own_cells us p (line_asks cleared b) way c
unfolding line_asks diagnosed
line-cells us p b way c = go (eqb (function b) 0x08) refl
  where
    go : (t : Bool) → eqb (function b) 0x08 ≡ t → own_cells us p (body_asks functions b) way c ≡ own_cells us p (pick t (diagnosed cleared b) (body_asks functions b)) way c
    go true e =
        let none : body_asks functions b ≡ by_function 0x08 b = sym (by-function b refl) ∙ ap (λ (k : ℕ). by_function k b) (eqb-true (function b) 0x08 e) in
        ap (λ (a : Asked). own_cells us p a way c) none
        ∙ sym (tells_none us p (diagnosis_tests b) (pick (leb (sub b) 0x0A) b (take 3 b ++ word_bytes (count_at (sub b) cleared))) way c)
    go false e = refl

-- no number of a station is looked at
pub any-own : (us : List ℕ) (p : Profile) (own : ℕ) (a : Asked) (way c : ℕ) → own_cells us p a way c ≡ asked_cells (site_of us p own) This a way c
any-own us p own (wrong k) way c = refl
any-own us p own (asks o reply) way c = refl
any-own us p own (tells s) way c = refl

-- none of the seven: exception 01
pub unknown : (b : List ℕ) (k : ℕ) → eqb k 0x01 ≡ false → eqb k 0x03 ≡ false → eqb k 0x05 ≡ false → eqb k 0x06 ≡ false → eqb k 0x0F ≡ false → eqb k 0x10 ≡ false → eqb k 0x16 ≡ false
    → by_function k b ≡ wrong 1
unknown b k e1 e3 e5 e6 e15 e16 e22 = rw (e1, e3, e5, e6, e15, e16, e22)
