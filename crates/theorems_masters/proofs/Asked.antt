-- What a frame of bytes asks of the table, in all three formats: words of 16 bits, and a value for each cell; and that counters change nothing
-- of it. Assumes nothing.
use mathlib.Core.Path.{◌≡◌, refl, sym, ap, subst, ◌∙◌}
use mathlib.Core.Bool.{false}
use mathlib.Core.List.{List, [], ◌∷◌}
use Prim.Native.Nat.{ℕ, zero, suc, ◌-◌}
use native.Mathlib.Omega.{arith}
use lib.Dec.{eqb, lit<}
use lib.ListN.{length, drop, length-map}
use Rattle.rules.proofs.Choose.{pick_no}
use Rattle.checks_shared.specs.Line.{Bytes}
use Rattle.checks_shared.proofs.Bits.{bytes_take, bytes_drop, byte-below}
use Rattle.table_addresses.specs.Areas.{contact_cell, coil_cell}
use Rattle.table_registers.specs.Bits.{bits_from, on_of}
use Rattle.table_registers.specs.Operation.{words_of_bytes}
use Rattle.table_registers.proofs.Lacking.{up_from-length}
use Rattle.station.specs.Site.{Site, Asked, wrong, asks, tells}
use Rattle.station.specs.Station.{Format, received, station}
use Rattle.modbus_body.specs.Bytes.{word_at}
use Rattle.modbus_body.specs.Body.{function, address, quantity, functions, body_asks}
use Rattle.modbus_body.proofs.Rows.{asked-all}
use Rattle.modbus_counters.specs.Counters.{cleared}
use Rattle.modbus_counters.specs.Diagnosis.{diagnosed}
use Rattle.modbus_counters.specs.declared.Counters.{Counters}
use Rattle.modbus_line.specs.Framing.{Framing, line_asks, modbus}
use Rattle.modbus_rtu.specs.Rtu.{rtu, body_of}
use Rattle.modbus_ascii.specs.Ascii.{ascii, count_of, bytes_of, body_in}
use Rattle.modbus_ascii.proofs.Pairs.{pairs-bytes}
use Rattle.mewtocol_frame.specs.declared.Limits.{Limits}
use Rattle.mewtocol_frame.specs.Frame.{limits_in}
use Rattle.mewtocol_requests.specs.Requests.{Setting, Request, read_contacts, write_contacts, read_range, write_range, fill, contacts_in, values_in}
use Rattle.mewtocol_requests.specs.Reading.{Reading, faulty, request}
use Rattle.mewtocol_requests.specs.Hearing.{read_frame}
use Rattle.mewtocol_requests.specs.Sound.{Sound, Answerable}
use Rattle.mewtocol_requests.proofs.Sound.{frame-answerable}
use Rattle.mewtocol_station.specs.Replies.{operation_of}
use Rattle.mewtocol_station.specs.Station.{reading_asks}
use Rattle.masters.specs.declared.Line.{Line}
use Rattle.masters.specs.declared.Line.TheVariants.{Mewtocol, Rtu, Ascii}
use Rattle.masters.specs.Frames.{format_of}
use Rattle.theorems_masters.specs.Masters.{Words, diagnoses}
use Rattle.theorems_masters.proofs.Writes.{Well}

-- an error, or what can be done; nothing beside the table
abbrev pub WellAsked : Asked → Type 0
WellAsked (wrong e) = Unit {0}
WellAsked (asks o reply) = Well o
WellAsked (tells t) = ⊥

-- ---- Modbus

bytes-words : (n : ℕ) (s : List ℕ) → Bytes s → Words (words_of_bytes n s)
unfolding words_of_bytes
bytes-words zero s h i = lit< tt
bytes-words (suc n) s h zero = omega (arith, byte-below s 0 h, byte-below s 1 h)
bytes-words (suc n) s h (suc i) = bytes-words n (drop 2 s) (bytes_drop 2 s h) i

one_word : (b : List ℕ) → Bytes b → Words (quantity b ∷ [])
unfolding word_at
one_word b h zero = omega (arith, byte-below b 3 h, byte-below b 4 h)
one_word b h (suc i) = lit< tt

bits_from-length : (bs : List ℕ) (i n : ℕ) → length (bits_from bs i n) ≡ n
unfolding bits_from
bits_from-length bs i zero = refl
bits_from-length bs i (suc n) = ap suc (bits_from-length bs (suc i) n)

-- function 01, 03, 05, 06, 0F, 10 and 16
body-well : (b : List ℕ) → Bytes b → WellAsked (body_asks functions b)
body-well b h =
    asked-all WellAsked b functions tt tt (
      λ _ _. tt,
      (
        λ _ _. tt,
        (
          λ _ _. up_from-length (coil_cell (address b)) 1,
          (
            λ _ _. one_word b h,
            (
              λ _ _. up_from-length (coil_cell (address b)) (quantity b) ∙ sym (bits_from-length (drop 6 b) 0 (quantity b)),
              (λ _ _. bytes-words (quantity b) (drop 6 b) (bytes_drop 6 b h), (λ _ _. tt, tt)),
            ),
          ),
        ),
      ),
    )

line-asks : (c : Counters) (b : List ℕ) → eqb (function b) 0x08 ≡ false → line_asks c b ≡ body_asks functions b
unfolding line_asks
line-asks c b e = pick_no (eqb (function b) 0x08) (diagnosed c b) (body_asks functions b) e

line-well : (c : Counters) (b : List ℕ) → Bytes b → eqb (function b) 0x08 ≡ false → WellAsked (line_asks c b)
line-well c b h e = subst WellAsked (sym (line-asks c b e)) (body-well b h)

-- ---- MEWTOCOL

sound-well : (l : Limits) (q : Request) → Sound l q → Well (operation_of q)
unfolding operation_of
sound-well l (read_contacts cs) h = tt
sound-well l (write_contacts ss) h =
    length-map (contacts_in ss) contact_cell ∙ length-map ss (λ (s : Setting). s.contact) ∙ sym (length-map ss (λ (s : Setting). s.value)) ∙ sym (length-map (values_in ss) on_of)
sound-well l (read_range a s e) h = tt
sound-well l (write_range a s e ws) h = h.ordered.small
sound-well l (fill s e w) h = h.ordered.1

reading-well : (l : Limits) (r : Reading) → Answerable l r → WellAsked (reading_asks r)
reading-well l (faulty n) h = tt
reading-well l (request q) h = sound-well l q h

-- ---- a line's frames

pub frame-well : (line : Line) (frame : List ℕ) → Bytes frame → diagnoses line frame ≡ false → WellAsked ((format_of line cleared).asked frame)
frame-well Mewtocol f h e = reading-well (limits_in f) (read_frame (limits_in f) f) (frame-answerable (limits_in f) f)
frame-well Rtu f h e = line-well cleared (body_of f) (bytes_take (length f - 3) (drop 1 f) (bytes_drop 1 f h)) e
frame-well Ascii f h e =
    line-well cleared (body_in (bytes_of f)) (bytes_take (length (bytes_of f) - 2) (drop 1 (bytes_of f)) (bytes_drop 1 (bytes_of f) (pairs-bytes (count_of f) (drop 1 f)))) e

-- a Modbus format by what its frames ask
abbrev asking : Framing → Asked → Format
asking m a = record {
  highest = (modbus m cleared).highest;
  room = (modbus m cleared).room;
  errors = (modbus m cleared).errors;
  tests = (modbus m cleared).tests;
  whom = (modbus m cleared).whom;
  asked = λ f. a;
  reply = (modbus m cleared).reply;
}

modbus-same : (m : Framing) (a b : Counters) (site : Site) (words frame room : List ℕ) → line_asks a (m.body frame) ≡ line_asks b (m.body frame)
    → station (modbus m a) site words frame room ≡ station (modbus m b) site words frame room
unfolding station received
modbus-same m a b site words frame room e = ap (λ (x : Asked). station (asking m x) site words frame room) e

-- only function 08 looks at counters
pub counters-same : (line : Line) (a b : Counters) (site : Site) (words frame room : List ℕ) → diagnoses line frame ≡ false
    → station (format_of line a) site words frame room ≡ station (format_of line b) site words frame room
counters-same Mewtocol a b site words frame room e = refl
counters-same Rtu a b site words frame room e = modbus-same rtu a b site words frame room (line-asks a (rtu.body frame) e ∙ sym (line-asks b (rtu.body frame) e))
counters-same Ascii a b site words frame room e = modbus-same ascii a b site words frame room (line-asks a (ascii.body frame) e ∙ sym (line-asks b (ascii.body frame) e))
