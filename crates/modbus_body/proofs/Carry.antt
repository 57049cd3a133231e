-- The three ends of a request: wrong in its shape, turned down by the address check, carried out. Assumes nothing.
use mathlib.Core.Path.{◌≡◌, refl, sym, ap, ap₂, ◌∙◌}
use mathlib.Core.List.{List, [], ◌∷◌}
use mathlib.Core.Bool.{true, false}
use Prim.Native.Nat.{ℕ, ◌/◌}
use lib.ListN.{length, take}
use Rattle.text_rooms.specs.Room.{Put}
use Rattle.rules.proofs.Choose.{pick_yes, pick_no}
use Rattle.table_addresses.specs.Areas.{coil_cell}
use Rattle.table_addresses.specs.declared.Area.TheVariants.{Relays, Registers}
use Rattle.table_registers.specs.declared.Verdict.{Verdict}
use Rattle.table_registers.specs.declared.Verdict.TheVariants.{Granted, Lacking, Unfit}
use Rattle.table_registers.specs.Table.{allows, up_from, checked}
use Rattle.table_registers.specs.Bits.{words_of, bits_from}
use Rattle.table_registers.specs.Operation.{read_words, read_bits, write_words, fill_words, write_bits, mask_word, words_of_bytes, Judge, Carried, address_check, after, shows, words_after}
use Rattle.table_registers.specs.Profile.{verdict, takes}
use Rattle.table_registers.specs.declared.Profile.{Profile}
use Rattle.table_registers.proofs.Profiles.{read-judged}
use Rattle.table_registers.proofs.Done.{words_after-read}
use Rattle.station.specs.Site.{asks, Says, said, done}
use Rattle.station.specs.Outcome.{Served}
use Rattle.station.proofs.Done.{done-as, done-granted, done-lacking, done-unfit, served}
use Rattle.modbus_body.specs.Body.{Function, exception, reply_body, reply_to, exceptions, asks_by}
use Rattle.modbus_body.specs.Said.{says_of, left}
use Rattle.modbus_body.specs.declared.Exception.{Exception}
use Rattle.modbus_body.specs.declared.Exception.TheVariants.{Value}
use Rattle.std.specs.Prelude.{Result, Err}

module _ (w : List ℕ) (judge : Judge) (b : List ℕ) (f : Function) where
  done-wrong : f.fits b ≡ false → done exceptions judge w (asks_by f b) ≡ left b (Err Value) w
  unfolding asks_by done
  done-wrong e = ap (done exceptions judge w) (pick_no (f.fits b) _ _ e)

  done-asks : f.fits b ≡ true → done exceptions judge w (asks_by f b) ≡ done exceptions judge w (asks (f.operation b) (reply_body b (f.operation b)))
  unfolding asks_by
  done-asks e = ap (done exceptions judge w) (pick_yes (f.fits b) _ _ e)

-- ---- a read, which makes its reply as it acts

module _ (w : List ℕ) (judge : Judge) (b room : List ℕ) (at : ℕ) (f : Function) where
  pub wrong-shape : {r : ℕ} {room' : List ℕ} → f.fits b ≡ false → Put room at (exception b 3) r room' → Served (reply_to b) (done exceptions judge w (asks_by f b)) room at r w room'
  unfolding reply_to
  wrong-shape e p = served (done-wrong w judge b f e) p refl

  pub turned_down : {r i : ℕ} {room' : List ℕ} {v : Verdict} → f.fits b ≡ true → Carried (f.operation b) w judge v w → v ≡ Lacking i → Put room at (exception b 2) r room'
      → Served (reply_to b) (done exceptions judge w (asks_by f b)) room at r w room'
  unfolding reply_to
  turned_down {i = i} e k q p = served (done-asks w judge b f e ∙ done-lacking exceptions judge w _ _ i (sym k.verdict-is ∙ q)) p refl

  pub not-fit : {r : ℕ} {room' : List ℕ} {v : Verdict} → f.fits b ≡ true → Carried (f.operation b) w judge v w → v ≡ Unfit → Put room at (exception b 3) r room'
      → Served (reply_to b) (done exceptions judge w (asks_by f b)) room at r w room'
  unfolding reply_to
  not-fit e k q p = served (done-asks w judge b f e ∙ done-unfit exceptions judge w _ _ (sym k.verdict-is ∙ q)) p refl

  pub carried-out : {r : ℕ} {room' : List ℕ} {v : Verdict} → f.fits b ≡ true → Carried (f.operation b) w judge v w → v ≡ Granted
      → Put room at (reply_body b (f.operation b) (shows (f.operation b) w)) r room' → Served (reply_to b) (done exceptions judge w (asks_by f b)) room at r w room'
  unfolding reply_to words_after
  carried-out e k q p =
      served (done-asks w judge b f e ∙ done-granted exceptions judge w _ _ (sym k.verdict-is ∙ q)) p
      (k.words-is ∙ ap (λ (x : Verdict). words_after x (f.operation b) w) (sym k.verdict-is ∙ q))

-- ---- a write, which leaves its reply to be put later

module _ (w : List ℕ) (judge : Judge) (b : List ℕ) (f : Function) where
  pub not-tried : f.fits b ≡ false → done exceptions judge w (asks_by f b) ≡ left b (Err Value) w
  not-tried e = done-wrong w judge b f e

  pub tried : (n : ℕ) (r : Result ℕ Exception) {w' : List ℕ} {v : Verdict} → f.fits b ≡ true → Carried (f.operation b) w judge v w' → reply_body b (f.operation b) (shows (f.operation b) w) ≡ take n b
      → says_of b r ≡ said exceptions (take n b) v → done exceptions judge w (asks_by f b) ≡ left b r w'
  tried n r {w'} {v} e k m s =
      done-asks w judge b f e ∙ done-as exceptions judge w (f.operation b) (reply_body b (f.operation b)) k
      ∙ ap (λ (x : Says). record { says = x; words = w' }) (ap (λ (t : List ℕ). said exceptions t v) m ∙ sym s)

-- a fill of one word is a write of it
one-after : (v : Verdict) (k x : ℕ) (w : List ℕ) → words_after v (fill_words k 1 x) w ≡ words_after v (write_words Registers k (x ∷ [])) w
unfolding after words_after
one-after Granted k x w = refl
one-after (Lacking i) k x w = refl
one-after Unfit k x w = refl

pub fill_one : (p : Profile) (us w : List ℕ) (k x : ℕ) {v : Verdict} {w' : List ℕ} → Carried (fill_words k 1 x) w (verdict p us) v w' → Carried (write_words Registers k (x ∷ [])) w (verdict p us) v w'
unfolding address_check after takes
fill_one p us w k x c = record { verdict-is = c.verdict-is; words-is = c.words-is ∙ one-after (verdict p us w (fill_words k 1 x)) k x w }

-- ---- an operation by the numbers that the code read is the operation by those of the body

pub coils-as : (a a' n n' : ℕ) (s s' : List ℕ) → a ≡ a' → n ≡ n' → s ≡ s' → write_bits (up_from (coil_cell a) n) (bits_from s 0 n) ≡ write_bits (up_from (coil_cell a') n') (bits_from s' 0 n')
coils-as a a' n n' s s' p q r = rw (p, q, r)

pub fill-as : (a a' x x' : ℕ) → a ≡ a' → x ≡ x' → fill_words a 1 x ≡ fill_words a' 1 x'
fill-as a a' x x' p q = rw (p, q)

pub words-as : (a a' n : ℕ) (s s' : List ℕ) → a ≡ a' → s ≡ s' → length s' / 2 ≡ n → write_words Registers a (words_of_bytes (length s / 2) s) ≡ write_words Registers a' (words_of_bytes n s')
words-as a a' n s s' p q r = rw (p, q, r)

pub mask-as : (a a' m m' o o' : ℕ) → a ≡ a' → m ≡ m' → o ≡ o' → mask_word a m o ≡ mask_word a' m' o'
mask-as a a' m m' o o' p q r = rw (p, q, r)

-- a read changes no word: its verdict alone says what becomes of it
pub read-carried : (p : Profile) (w us : List ℕ) (k k' n n' : ℕ) (v : Verdict) → v ≡ checked (allows (length w) us Registers 1) 0 (up_from k n) → k ≡ k' → n ≡ n' → Carried (read_words Registers k' n') w (verdict p us) v w
unfolding address_check after
read-carried profile w us k k' n n' v e p q =
    record { verdict-is = e ∙ ap₂ (λ (x y : ℕ). checked (allows (length w) us Registers 1) 0 (up_from x y)) p q ∙ sym (read-judged profile us w (read_words Registers k' n') refl); words-is = sym (words_after-read (verdict profile us w (read_words Registers k' n')) (read_words Registers k' n') w refl) }

pub bits-carried : (p : Profile) (w us : List ℕ) (k k' n n' : ℕ) (v : Verdict) → v ≡ checked (allows (length w) us Relays 1) 0 (words_of (up_from (coil_cell k) n)) → k ≡ k' → n ≡ n' → Carried (read_bits (up_from (coil_cell k') n')) w (verdict p us) v w
unfolding address_check after
bits-carried profile w us k k' n n' v e p q =
    record { verdict-is = e ∙ ap₂ (λ (x y : ℕ). checked (allows (length w) us Relays 1) 0 (words_of (up_from (coil_cell x) y))) p q ∙ sym (read-judged profile us w (read_bits (up_from (coil_cell k') n')) refl); words-is = sym (words_after-read (verdict profile us w (read_bits (up_from (coil_cell k') n'))) (read_bits (up_from (coil_cell k') n')) w refl) }
