-- The examples of specs/Examples: each frame's cells are computed once, up to whether its operation may pass, and that is shown by words that
-- are all 0; then calls are computed. Assumes nothing.
use mathlib.Core.Path.{◌≡◌, refl, sym, ap, ap₂, ◌∙◌}
use mathlib.Core.Bool.{Bool, true, false, false≢true}
use mathlib.Core.List.{List, [], ◌∷◌}
use Prim.Native.Nat.{ℕ, zero, suc}
use native.Mathlib.Omega.{arith}
use borrow.Author.Tests.{eqb-true, ne_eqb}
use lib.Dec.{eqb, lit<}
use lib.ListN.{length, get_or, replicate}
use Rattle.rules.specs.Choice.{pick, both, either, some, between, all_between}
use Rattle.text_rooms.specs.Room.{overwrite, each}
use Rattle.text_digits.specs.Digits.{running, decimal_value, digits_in}
use Rattle.text_hex.specs.Hex.{hex_value, hex_digit}
use Rattle.checks_shared.specs.Fold.{fold}
use Rattle.checks_shared.specs.Right.{same, closed_by}
use Rattle.checks_shared.proofs.Bits.{bytes-by}
use Rattle.checks_crc.specs.Crc.{shifted, shifts}
use Rattle.table_addresses.specs.Cells.{contact_of}
use Rattle.table_addresses.specs.declared.Area.TheVariants.{Registers}
use Rattle.table_registers.specs.declared.Profile.{Profile}
use Rattle.table_registers.specs.declared.Profile.TheVariants.{Free, HlG2}
use Rattle.table_registers.specs.Table.{grants, allows, up_from, checked}
use Rattle.table_registers.specs.Bits.{masked}
use Rattle.table_registers.specs.Operation.{Operation, read_words, write_words, write_bits, mask_word, words_of_bytes, address_check, after, shows, words_after, is_granted}
use Rattle.table_registers.specs.Profile.{takes, verdict}
use Rattle.table_registers.proofs.Profiles.{fitting-lacking, relays-judged}
use Rattle.station.specs.Site.{said, done}
use Rattle.station.specs.Station.{received, station}
use Rattle.table_cells.specs.Cells.{Cells, has, touches, may_pass, reading, writing, meets_at, lowest, meeting}
use Rattle.table_cells.specs.declared.Meeting.{Meeting}
use Rattle.table_cells.specs.declared.Meeting.TheVariants.{At}
use Rattle.modbus_body.specs.Bytes.{word_at}
use Rattle.modbus_body.specs.Body.{good_read, good_write, good_coil, reply_body, reply_to, asks_by, body_asks}
use Rattle.modbus_counters.specs.Counters.{cleared}
use Rattle.modbus_line.specs.Framing.{whom_at, line_asks}
use Rattle.mewtocol_frame.specs.Frame.{form_in, good_shape, for_station}
use Rattle.mewtocol_frame.specs.Text.{starts, bit}
use Rattle.mewtocol_commands.specs.Fields.{letter}
use Rattle.mewtocol_commands.specs.Rows.{times, widths, every, numbers}
use Rattle.mewtocol_commands.specs.Commands.{named}
use Rattle.mewtocol_requests.specs.Requests.{settings}
use Rattle.mewtocol_requests.specs.Reading.{read_fields, read_as, read_text}
use Rattle.mewtocol_requests.specs.Hearing.{read_frame}
use Rattle.mewtocol_station.specs.Replies.{operation_of}
use Rattle.mewtocol_station.specs.Station.{whom_in}
use Rattle.masters.specs.declared.Line.TheVariants.{Mewtocol, Rtu}
use Rattle.masters.specs.Frames.{frame_cells}
use Rattle.theorems_masters.specs.Masters.{Words, Apart, Master, cells_of, calls, Asks, SameEitherWay}
use Rattle.theorems_masters.specs.Examples as example
use Rattle.theorems_masters.specs.Examples.{master_at, all_open, contact_frame, neighbour_frame, coil_frame, TwoContacts, CoilBesideContact, write_frame, run_frame, mask_frame, clear_frame, rtu_master, ReadAndWrite, TwoWrites, TwoMasks, MaskReads, TouchesNothing, ReadOnly, limit_frame, OutOfRange}
use Rattle.theorems_masters.proofs.Named.{member-first}
use Rattle.theorems_masters.proofs.Writes.{replicate-words}
use Rattle.theorems_masters.proofs.Passing.{passes-at-0, never-passes}
use Rattle.theorems_masters.proofs.Orders.{order-is-free}

abbrev zeros : ℕ → List ℕ
zeros n = replicate n 0

-- ---- side by side

-- the cells of an operation, if it may pass
abbrev cells_by : List ℕ → Profile → Operation → Cells
cells_by us p o way c = both (may_pass (verdict p us) (length us) o) (touches o way c)

abbrev set_bit : ℕ → Operation
set_bit c = write_bits (c ∷ []) (true ∷ [])

contact-cells : (p : Profile) (room : List ℕ) (way c : ℕ) → cells_of (all_open 136) p (master_at Mewtocol 1 contact_frame room) way c ≡ cells_by (all_open 136) p (set_bit 2128) way c
unfolding frame_cells form_in between all_between good_shape for_station whom_in read_frame read_text read_as read_fields named closed_by same fold running decimal_value digits_in hex_digit hex_value starts times widths every numbers letter settings bit contact_of operation_of
contact-cells p room way c = refl

neighbour-cells : (p : Profile) (room : List ℕ) (way c : ℕ) → cells_of (all_open 136) p (master_at Mewtocol 2 neighbour_frame room) way c ≡ cells_by (all_open 136) p (set_bit 2129) way c
unfolding frame_cells form_in between all_between good_shape for_station whom_in read_frame read_text read_as read_fields named closed_by same fold running decimal_value digits_in hex_digit hex_value starts times widths every numbers letter settings bit contact_of operation_of
neighbour-cells p room way c = refl

coil-cells : (p : Profile) (room : List ℕ) (way c : ℕ) → cells_of (all_open 136) p (master_at Rtu 1 coil_frame room) way c ≡ cells_by (all_open 136) p (set_bit 2129) way c
unfolding frame_cells between all_between whom_at line_asks body_asks asks_by good_coil word_at up_from closed_by same fold shifts shifted
coil-cells p room way c = refl

-- ---- two bits

pair-apart : (x y a b : Bool) → (a ≡ true → b ≡ false)
    → either (both (both x (either a false)) (either (both y false) (both y (either b false)))) (both (both x false) (both y (either b false))) ≡ false
pair-apart false y a b h = refl
pair-apart true y false b h = refl
pair-apart true false true b h = refl
pair-apart true true true true h = absurd (false≢true (sym (h refl)))
pair-apart true true true false h = refl

bits-apart : (x y : Bool) (c d : ℕ) → (c ≡ d → ⊥) → Apart (λ way k. both x (touches (set_bit c) way k)) (λ way k. both y (touches (set_bit d) way k))
unfolding has grants some
bits-apart x y c d unlike k = pair-apart x y (eqb c k) (eqb d k) (λ e. ne_eqb d k (λ q. unlike (eqb-true c k e ∙ sym q)))

meets-as : (one other one' other' : Cells) → ((way c : ℕ) → one way c ≡ one' way c) → ((way c : ℕ) → other way c ≡ other' way c) → (c : ℕ) → meets_at one other c ≡ meets_at one' other' c
meets-as one other one' other' e f c = rw (e writing c, e reading c, f reading c, f writing c)

bit-passes : (p : Profile) (c : ℕ) → is_granted (address_check (all_open 136) (length (zeros 136)) (set_bit c)) ≡ true → may_pass (verdict p (all_open 136)) (length (all_open 136)) (set_bit c) ≡ true
bit-passes p c e = passes-at-0 (all_open 136) p (set_bit c) (ap is_granted (relays-judged p (all_open 136) (zeros 136) (set_bit c) refl) ∙ e)

bit-written : (p : Profile) (c : ℕ) → is_granted (address_check (all_open 136) (length (zeros 136)) (set_bit c)) ≡ true → cells_by (all_open 136) p (set_bit c) writing c ≡ true
unfolding has grants
bit-written p c e = ap₂ both (bit-passes p c e) (member-first c [])

-- a master that sets a bit writes its cell
sets-bit : (m : Master) (c : ℕ) → ((p : Profile) (way d : ℕ) → cells_of (all_open 136) p m way d ≡ cells_by (all_open 136) p (set_bit c) way d)
    → is_granted (address_check (all_open 136) (length (zeros 136)) (set_bit c)) ≡ true → (p : Profile) → cells_of (all_open 136) p m writing c ≡ true
sets-bit m c e h p = e p writing c ∙ bit-written p c h

-- two that set two bits may come in either order
two-bits : (one other : Master) (c d : ℕ) → (c ≡ d → ⊥) → Asks one → Asks other
    → ((p : Profile) (way k : ℕ) → cells_of (all_open 136) p one way k ≡ cells_by (all_open 136) p (set_bit c) way k)
    → ((p : Profile) (way k : ℕ) → cells_of (all_open 136) p other way k ≡ cells_by (all_open 136) p (set_bit d) way k)
    → (p : Profile) (words : List ℕ) → Words words → SameEitherWay (calls (all_open 136) p one) (calls (all_open 136) p other) words
two-bits one other c d unlike a b e f p words h =
    order-is-free (all_open 136) words p one other h a b
    (λ k. meets-as (cells_of (all_open 136) p one) (cells_of (all_open 136) p other) (cells_by (all_open 136) p (set_bit c)) (cells_by (all_open 136) p (set_bit d)) (e p) (f p) k
    ∙ bits-apart (may_pass (verdict p (all_open 136)) (length (all_open 136)) (set_bit c)) (may_pass (verdict p (all_open 136)) (length (all_open 136)) (set_bit d)) c d unlike k)

asks-contact : (room : List ℕ) → Asks (master_at Mewtocol 1 contact_frame room)
unfolding all_between between
asks-contact room = record { bytes = bytes-by contact_frame refl; table = refl }

asks-neighbour : (room : List ℕ) → Asks (master_at Mewtocol 2 neighbour_frame room)
unfolding all_between between
asks-neighbour room = record { bytes = bytes-by neighbour_frame refl; table = refl }

asks-coil : (room : List ℕ) → Asks (master_at Rtu 1 coil_frame room)
unfolding all_between between
asks-coil room = record { bytes = bytes-by coil_frame refl; table = refl }

pub two-contacts : TwoContacts
unfolding address_check checked allows grants between
two-contacts room room' =
    let one = master_at Mewtocol 1 contact_frame room in
    let other = master_at Mewtocol 2 neighbour_frame room' in
    record {
      one_writes = sets-bit one 2128 (λ p. contact-cells p room) refl;
      other-writes = sets-bit other 2129 (λ p. neighbour-cells p room') refl;
      one_word = refl;
      free = two-bits one other 2128 2129 (λ q. absurd (omega (arith, q))) (asks-contact room) (asks-neighbour room') (λ p. contact-cells p room) (λ p. neighbour-cells p room');
    }

pub coil-beside-contact : CoilBesideContact
unfolding address_check checked allows grants between
coil-beside-contact room room' =
    let one = master_at Mewtocol 1 contact_frame room in
    let other = master_at Rtu 1 coil_frame room' in
    record {
      one_writes = sets-bit one 2128 (λ p. contact-cells p room) refl;
      other-writes = sets-bit other 2129 (λ p. coil-cells p room') refl;
      one_word = refl;
      free = two-bits one other 2128 2129 (λ q. absurd (omega (arith, q))) (asks-contact room) (asks-coil room') (λ p. contact-cells p room) (λ p. coil-cells p room');
    }

-- ---- meeting

lowest-as : (p q : ℕ → Bool) (k n : ℕ) → ((c : ℕ) → p c ≡ q c) → lowest p k n ≡ lowest q k n
unfolding lowest
lowest-as p q k zero e = refl
lowest-as p q k (suc n) e = ap₂ (λ (b : Bool) (m : Meeting). pick b (At k) m) (e k) (lowest-as p q (suc k) n e)

-- the cells of an operation that words of 0 let pass
sure-cells : (us : List ℕ) (p : Profile) (m : Master) (o : Operation) → ((way c : ℕ) → cells_of us p m way c ≡ cells_by us p o way c)
    → is_granted (verdict p us (zeros (length us)) o) ≡ true → (way c : ℕ) → cells_of us p m way c ≡ touches o way c
sure-cells us p m o e h way c = e way c ∙ ap (λ (b : Bool). both b (touches o way c)) (passes-at-0 us p o h)

read-cells : (way c : ℕ) → cells_of (all_open 4) Free (rtu_master example.read_frame) way c ≡ touches (read_words Registers 1 1) way c
unfolding frame_cells between all_between whom_at line_asks body_asks asks_by good_read word_at closed_by same fold shifts shifted address_check checked allows grants up_from takes
read-cells = sure-cells (all_open 4) Free (rtu_master example.read_frame) (read_words Registers 1 1) (λ way c. refl) refl

write-cells : (way c : ℕ) → cells_of (all_open 4) Free (rtu_master write_frame) way c ≡ touches (write_words Registers 1 (7 ∷ [])) way c
unfolding frame_cells between all_between whom_at line_asks body_asks asks_by word_at closed_by same fold shifts shifted address_check checked allows grants up_from takes
write-cells = sure-cells (all_open 4) Free (rtu_master write_frame) (write_words Registers 1 (7 ∷ [])) (λ way c. refl) refl

run-cells : (way c : ℕ) → cells_of (all_open 4) Free (rtu_master run_frame) way c ≡ touches (write_words Registers 1 (5 ∷ [])) way c
unfolding frame_cells between all_between whom_at line_asks body_asks asks_by good_write word_at words_of_bytes closed_by same fold shifts shifted address_check checked allows grants up_from takes
run-cells = sure-cells (all_open 4) Free (rtu_master run_frame) (write_words Registers 1 (5 ∷ [])) (λ way c. refl) refl

mask-cells : (way c : ℕ) → cells_of (all_open 4) Free (rtu_master mask_frame) way c ≡ touches (mask_word 1 0xFFF0 0x0003) way c
unfolding frame_cells between all_between whom_at line_asks body_asks asks_by word_at closed_by same fold shifts shifted address_check checked allows grants up_from takes
mask-cells = sure-cells (all_open 4) Free (rtu_master mask_frame) (mask_word 1 0xFFF0 0x0003) (λ way c. refl) refl

clear-cells : (way c : ℕ) → cells_of (all_open 4) Free (rtu_master clear_frame) way c ≡ touches (mask_word 1 0xFFFC 0x0000) way c
unfolding frame_cells between all_between whom_at line_asks body_asks asks_by word_at closed_by same fold shifts shifted address_check checked allows grants up_from takes
clear-cells = sure-cells (all_open 4) Free (rtu_master clear_frame) (mask_word 1 0xFFFC 0x0000) (λ way c. refl) refl

meeting-as : (one other : Master) (o q : Operation) → ((way c : ℕ) → cells_of (all_open 4) Free one way c ≡ touches o way c) → ((way c : ℕ) → cells_of (all_open 4) Free other way c ≡ touches q way c)
    → meeting 4 (cells_of (all_open 4) Free one) (cells_of (all_open 4) Free other) ≡ meeting 4 (touches o) (touches q)
meeting-as one other o q e f = lowest-as (meets_at (cells_of (all_open 4) Free one) (cells_of (all_open 4) Free other)) (meets_at (touches o) (touches q)) 0 64
    (meets-as (cells_of (all_open 4) Free one) (cells_of (all_open 4) Free other) (touches o) (touches q) e f)

zeros-words : Words (zeros 4)
zeros-words = replicate-words 4 0 (lit< tt)

-- the last byte of the word that is read: 7 after the write, 0 before it
read-differs : SameEitherWay (calls (all_open 4) Free (rtu_master example.read_frame)) (calls (all_open 4) Free (rtu_master write_frame)) (zeros 4) → ⊥
unfolding station received between all_between whom_at line_asks body_asks asks_by good_read word_at closed_by same fold shifts shifted done said takes address_check checked allows grants up_from after words_after shows reply_body reply_to overwrite each
read-differs r = let z : ◌≡◌ {A = ℕ} 7 0 = ap (λ (l : List ℕ). get_or l 4 0) (r.one_same cleared cleared cleared).1 in absurd (omega (arith, z))

read_meets : meeting 4 (touches (read_words Registers 1 1)) (touches (write_words Registers 1 (7 ∷ []))) ≡ At 16
unfolding lowest has grants some up_from
read_meets = refl

pub read-and-write : ReadAndWrite
read-and-write = record {
  meet = meeting-as (rtu_master example.read_frame) (rtu_master write_frame) (read_words Registers 1 1) (write_words Registers 1 (7 ∷ [])) read-cells write-cells ∙ read_meets;
  over = zeros 4;
  words = zeros-words;
  differs = read-differs;
}

-- word 1: the last value stays
write-differs : SameEitherWay (calls (all_open 4) Free (rtu_master write_frame)) (calls (all_open 4) Free (rtu_master run_frame)) (zeros 4) → ⊥
unfolding station received between all_between whom_at line_asks body_asks asks_by good_write word_at words_of_bytes closed_by same fold shifts shifted done said takes address_check checked allows grants up_from after words_after overwrite
write-differs r = let z : ◌≡◌ {A = ℕ} 5 7 = ap (λ (l : List ℕ). get_or l 1 0) (r.words_same cleared cleared cleared cleared) in absurd (omega (arith, z))

writes-meet : meeting 4 (touches (write_words Registers 1 (7 ∷ []))) (touches (write_words Registers 1 (5 ∷ []))) ≡ At 16
unfolding lowest has grants some up_from
writes-meet = refl

pub two-writes : TwoWrites
two-writes = record {
  meet = meeting-as (rtu_master write_frame) (rtu_master run_frame) (write_words Registers 1 (7 ∷ [])) (write_words Registers 1 (5 ∷ [])) write-cells run-cells ∙ writes-meet;
  over = zeros 4;
  words = zeros-words;
  differs = write-differs;
}

-- word 1: the lowest two bits are cleared last, or set last
mask-differs : SameEitherWay (calls (all_open 4) Free (rtu_master mask_frame)) (calls (all_open 4) Free (rtu_master clear_frame)) (zeros 4) → ⊥
unfolding station received between all_between whom_at line_asks body_asks asks_by word_at closed_by same fold shifts shifted done said takes address_check checked allows grants up_from after words_after masked
mask-differs r = let z : ◌≡◌ {A = ℕ} 0 3 = ap (λ (l : List ℕ). get_or l 1 0) (r.words_same cleared cleared cleared cleared) in absurd (omega (arith, z))

masks-meet : meeting 4 (touches (mask_word 1 0xFFF0 0x0003)) (touches (mask_word 1 0xFFFC 0x0000)) ≡ At 16
unfolding lowest has grants some
masks-meet = refl

pub two-masks : TwoMasks
two-masks = record {
  meet = meeting-as (rtu_master mask_frame) (rtu_master clear_frame) (mask_word 1 0xFFF0 0x0003) (mask_word 1 0xFFFC 0x0000) mask-cells clear-cells ∙ masks-meet;
  over = zeros 4;
  words = zeros-words;
  differs = mask-differs;
}

pub mask-reads : MaskReads
unfolding has grants some
mask-reads = (mask-cells reading 15, mask-cells reading 16, mask-cells reading 31, mask-cells reading 32)

-- ---- refused

-- an operation that no words let pass has no cells
no_cells : (us : List ℕ) (p : Profile) (m : Master) (o : Operation) → ((way c : ℕ) → cells_of us p m way c ≡ cells_by us p o way c)
    → ((v : ℕ) → is_granted (verdict p us (replicate (length us) v) o) ≡ false) → TouchesNothing us p m
no_cells us p m o e h way c = e way c ∙ ap (λ (b : Bool). both b (touches o way c)) (never-passes us p o h)

pub read_only : ReadOnly
unfolding frame_cells between all_between whom_at line_asks body_asks asks_by word_at closed_by same fold shifts shifted address_check checked allows grants up_from
read_only p = no_cells (replicate 4 1) p (rtu_master write_frame) (write_words Registers 1 (7 ∷ [])) (λ way c. refl) (λ v. ap is_granted (fitting-lacking (takes p (write_words Registers 1 (7 ∷ [])) (after (write_words Registers 1 (7 ∷ [])) (replicate 4 v))) 0))

limit-cells : (p : Profile) (way c : ℕ) → cells_of (all_open 54) p (rtu_master limit_frame) way c ≡ cells_by (all_open 54) p (write_words Registers 53 (1 ∷ [])) way c
unfolding frame_cells between all_between whom_at line_asks body_asks asks_by word_at closed_by same fold shifts shifted
limit-cells p way c = refl

pub out_of_range : OutOfRange
unfolding address_check checked allows grants up_from takes after overwrite between some has
out_of_range = (
  no_cells (all_open 54) HlG2 (rtu_master limit_frame) (write_words Registers 53 (1 ∷ [])) (limit-cells HlG2) (λ v. refl),
  sure-cells (all_open 54) Free (rtu_master limit_frame) (write_words Registers 53 (1 ∷ [])) (limit-cells Free) refl writing 848,
)
