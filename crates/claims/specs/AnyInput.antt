-- The first demand: any input (RULES P3, C1 to C5, C7, C8). For each entry its tests stand in the order of RULES C3, each with its number. Proved in
-- proofs/Numbered. Assumes nothing.
use Rattle.std.specs.Prelude.{ℕ, ◌+◌, ◌-◌, ◌/◌, ◌%◌, true, false, not, List, [], ◌∷◌, ◌++◌, ◌⊎◌, ◌≡◌, eqb, leb, ltb, pos, negsuc, length, drop, get_or}
use Rattle.rules.specs.Choice.{pick, between, all_between, same_bytes}
use Rattle.rules.specs.Characters.{bang, dollar, hash}
use Rattle.rules.specs.Tests.{Test, ◌unless◌, first}
use Rattle.rules.specs.Given.{Given, gives, refused}
use Rattle.text_rooms.specs.Room.{overwrite}
use Rattle.text_digits.specs.Digits.{with_number, or_place, is_value, decimal}
use Rattle.text_digits.specs.declared.Number.{Number}
use Rattle.text_hex.specs.Hex.{hex}
use Rattle.checks_bit_count.specs.Differing.{bit_count}
use Rattle.checks_shared.specs.Line.{flipped}
use Rattle.checks_crc.specs.Crc.{right_crc}
use Rattle.checks_lrc.specs.Lrc.{right_lrc}
use Rattle.table_addresses.specs.Catalogue.{register_address, register_number, coil_address, coil_number}
use Rattle.station.specs.Site.{Site, Asked, is_good, Done, done}
use Rattle.station.specs.Outcome.{silent}
use Rattle.station.specs.Station.{heeded, answer}
use Rattle.station.specs.declared.Whom.{Whom}
use Rattle.modbus_body.specs.Body as modbus
use Rattle.modbus_counters.specs.Counters.{stopped, came, counted}
use Rattle.modbus_counters.specs.Diagnosis.{after}
use Rattle.modbus_counters.specs.declared.Counters.{Counters}
use Rattle.modbus_line.specs.Framing.{line_asks, answered, Framing, whom_at}
use Rattle.modbus_line.specs.Calls.{shown, counters_after}
use Rattle.modbus_rtu.specs.Rtu as rtu
use Rattle.modbus_rtu.specs.Rtu.{body_of, rtu_frame, rtu_station}
use Rattle.modbus_ascii.specs.Ascii as ascii
use Rattle.modbus_ascii.specs.Ascii.{good_ascii, bytes_of, body_in, with_lrc, text_frame, ascii_station}
use Rattle.mewtocol_frame.specs.declared.Form.{Form}
use Rattle.mewtocol_frame.specs.Frame.{limits_of, limits_in, good_shape, for_station, good_check, text_of}
use Rattle.mewtocol_frame.specs.Text.{starts}
use Rattle.mewtocol_requests.specs.Requests.{Request, letters}
use Rattle.mewtocol_requests.specs.Reading.{faulty, read_text}
use Rattle.mewtocol_station.specs.Replies.{reply_frame}
use Rattle.mewtocol_station.specs.Station.{errors, reading_asks, whom_in, mewtocol_station}
use Rattle.mewtocol_asking.specs.Asking.{Asking, request_in, ask_tests}
use Rattle.mewtocol_writer.specs.Writing as writing
use Rattle.mewtocol_reader.specs.Replies as replies
use Rattle.laser.specs.Frame as laser
use Rattle.catalogue_format.specs.Format.{Items, is_read, items_of, read_file}
use Rattle.catalogue_files.specs.Refusals as files
use Rattle.host_pairs.specs.Pairs as pairs
use Rattle.claims.specs.Calls.{number_of, read_number, read_place, distance_number, distance_place, frame_number, pair_number}

-- a test with this number fails, and all before it hold
abbrev pub Fails : ℕ → List Test → Type 0
Fails k [] = ⊥
Fails k ((j unless t) ∷ ts) = ((t ≡ false) × (j ≡ k)) ⊎ ((t ≡ true) × Fails k ts)

-- an entry's definition is its tests in their order: the refusal of the first that fails, or the answer. So a call that its promise allows (specs/Calls)
-- gives each number exactly where its test fails and all before it hold, and then leaves what the refusal leaves
pub record Exactly {A : Type 0} (number : A → Given) (refusal : ℕ → A) (tests : List Test) (answer definition : A) : Type 0 where
  pub is : definition ≡ first refusal tests answer
  pub only : (call : A) (k : ℕ) → call ≡ definition → number call ≡ refused k → Fails k tests
  pub each : (call : A) (k : ℕ) → call ≡ definition → Fails k tests → call ≡ refusal k

-- 1, 2 and 3, for stations up to a highest and a least room; then a frame's tests
abbrev pub tests : ℕ → ℕ → Site → List ℕ → List ℕ → List Test → List Test
tests highest least site words room frame =
    (1 unless leb (length words) 65536) ∷ (1 unless eqb (length site.attributes) (length words)) ∷ (1 unless all_between 0 3 site.attributes)
    ∷ (2 unless between 1 highest site.own) ∷ (3 unless leb least (length room)) ∷ frame

-- the stations: on every number of these words and room stay as before; 12 is given unless the frame is for this station, or for all and heeded. Then the
-- reply goes out, or, where the frame is for all, 15 is given. Function 08 is asked of the counters once the frame has counted. MEWTOCOL answers a wrong
-- check with error 40 and a missing `#` with 41; the frame's own form says its limits, and the reply has its header
pub record StationNumbers (c : Counters) (site : Site) (words frame room : List ℕ) : Type 0 where
  pub rtu : let asked : Asked = line_asks (shown rtu.rtu site.own frame c) (body_of frame) in let d : Done = done modbus.exceptions site.judge words asked in
      let whom : Whom = whom_at (get_or frame 0 0) site.own in
      Exactly number_of (silent words room) (tests 247 513 site words room
      ((10 unless between 4 256 (length frame)) ∷ (11 unless right_crc frame) ∷ (12 unless heeded whom asked d.says) ∷ []))
      (answer whom room (rtu_frame site.own (modbus.reply_to (body_of frame) d.says)) d.words)
      (rtu_station c site words frame room)
  pub ascii : let body : List ℕ = body_in (bytes_of frame) in
      let asked : Asked = line_asks (shown ascii.ascii site.own frame c) body in let d : Done = done modbus.exceptions site.judge words asked in
      let whom : Whom = whom_at (get_or (bytes_of frame) 0 0) site.own in
      Exactly number_of (silent words room) (tests 247 513 site words room
      ((10 unless good_ascii frame) ∷ (11 unless right_lrc (bytes_of frame)) ∷ (12 unless heeded whom asked d.says) ∷ []))
      (answer whom room (text_frame (with_lrc site.own (modbus.reply_to body d.says))) d.words)
      (ascii_station c site words frame room)
  pub mewtocol : let asked : Asked = reading_asks (first faulty
      ((0x40 unless good_check frame) ∷ (0x41 unless eqb (get_or frame 3 0) hash) ∷ []) (read_text (limits_in frame) (text_of frame))) in
      let d : Done = done errors site.judge words asked in
      let whom : Whom = whom_in site.own frame in
      Exactly number_of (silent words room) (tests 99 2048 site words room
      ((10 unless good_shape (limits_in frame) 8 frame) ∷ (12 unless heeded whom asked d.says) ∷ []))
      (answer whom room (reply_frame (limits_in frame).header site.own d.says) d.words)
      (mewtocol_station site words frame room)

-- the counters after a call, in either frame: 1, 2, 3 and 10 leave them as they were, and 11 counts as damaged; any other frame counts by whom it is for, and
-- then what its reply leaves is left
abbrev pub CounterNumbers : Framing → Counters → Site → List ℕ → List ℕ → List ℕ → Type 0
CounterNumbers m c site words frame room =
    let whom : Whom = whom_at (m.to frame) site.own in let heard : Counters = counted (came whom) c in
    counters_after m c site words frame room ≡ first (λ k. counted (stopped k) c)
    (tests 247 513 site words room ((10 unless m.shape frame) ∷ (11 unless m.check frame) ∷ []))
    (after (came whom) (is_good (answered heard site.judge words (m.body frame)).says) (m.body frame) heard)

-- the place of a field's first character that is no digit
abbrev pub place_in : Number → ℕ
place_in m = or_place m (λ n. 0) (λ p. p)

-- 13, each with its place: after `!` stand two upper-case hex characters and nothing else; else a `$`, the request's two letters, and as much data as it
-- calls for, each character one that may stand there. Where no one character is wrong, the place is the frame's length
abbrev pub reply_places : Request → ℕ → ℕ → List ℕ → List Test
reply_places q end mark t =
    let d : List ℕ = drop 2 t in
    pick (eqb mark bang) ((end unless eqb (length t) 2) ∷ ((4 + place_in (hex 2 t)) unless is_value (hex 2 t)) ∷ [])
    ((end unless eqb mark dollar) ∷ (end unless starts (letters q) t) ∷ (end unless eqb (length d) (replies.data_size q))
    ∷ ((6 + replies.first_wrong q d) unless eqb (replies.first_wrong q d) (length d)) ∷ [])

-- the MEWTOCOL host, in the form that is asked: writer (on every number the room stays as before) and reader; 14 is given where steps 1 and 6, 4 and 7, or 5
-- fail; the shape is that of the frame's own form; and where the reader gives none of these, 13 with its place, another header among it, or what the frame says
pub record HostNumbers (form : Form) (to : ℕ) (a : Asking) (room frame : List ℕ) : Type 0 where
  pub writer : Exactly (λ (o : writing.Outcome). o.number) (λ k. writing.left k room)
      ((2 unless between 1 99 to) ∷ (3 unless leb (limits_of form).longest (length room)) ∷ ask_tests (limits_of form) a)
      (writing.sent (writing.ask_frame (limits_of form).header to a) room)
      (writing.write (limits_of form) to a room)
  pub reader : Exactly read_number replies.refused
      (((2 unless between 1 99 to) ∷ ask_tests (limits_of form) a)
      ++ ((10 unless good_shape (limits_in frame) 9 frame) ∷ (11 unless good_check frame) ∷ (12 unless for_station to frame) ∷ []))
      (replies.form_reply (limits_of form) (request_in a) frame)
      (replies.read (limits_of form) to a frame)
  pub places : let mark : ℕ = get_or frame 3 0 in let t : List ℕ = text_of frame in
      Exactly read_place replies.unasked
      ((length frame unless eqb (get_or frame 0 0) (limits_of form).header) ∷ reply_places (request_in a) (length frame) mark t)
      (pick (eqb mark bang) (replies.error (with_number (hex 2 t) (λ e. e) 0)) (replies.shows (drop 2 t)))
      (replies.form_reply (limits_of form) (request_in a) frame)

-- the laser head: reader, writer (on every number the room stays as before) and distance (`0D`, then five digits and 00h)
pub record LaserNumbers (frame room bytes : List ℕ) (a b : ℕ) : Type 0 where
  pub reader : Exactly frame_number laser.none ((10 unless laser.good_shape frame) ∷ (11 unless laser.good_check frame) ∷ [])
      (laser.frame (get_or frame 3 0) (get_or frame 4 0) (laser.data_of frame))
      (laser.read frame)
  pub writer : Exactly (λ (o : laser.Outcome). o.number) (laser.left room) ((3 unless leb 118 (length room)) ∷ (14 unless leb (length bytes) 99) ∷ [])
      (record { number = gives (length bytes + 8); room = overwrite room 0 (laser.frame_of a b bytes) })
      (laser.write room a b bytes)
  pub distance : Exactly distance_number laser.declined ((10 unless laser.good_shape frame) ∷ (11 unless laser.good_check frame) ∷ [])
      (laser.distance_in (length frame) (get_or frame 3 0) (get_or frame 4 0) (laser.data_of frame))
      (laser.distance_of frame)
  pub places : let d : List ℕ = laser.data_of frame in let end : ℕ = length frame in
      Exactly distance_place laser.unasked
      ((end unless eqb (get_or frame 3 0) 48) ∷ (end unless eqb (get_or frame 4 0) 68) ∷ (end unless eqb (length d) 6)
      ∷ ((5 + place_in (decimal 5 d)) unless is_value (decimal 5 d)) ∷ (10 unless eqb (get_or d 5 0) 0) ∷ [])
      (laser.measures (with_number (decimal 5 d) (λ v. v) 0))
      (laser.distance_in end (get_or frame 3 0) (get_or frame 4 0) d)

-- the four conversions and the bit count
pub record ConversionNumbers (x : ℕ) (f g : List ℕ) : Type 0 where
  pub register-address : Exactly (λ n. n) refused ((5 unless leb 400001 x) ∷ (5 unless leb x 465536) ∷ []) (gives (x - 400001)) (register_address x)
  pub register-number : Exactly (λ n. n) refused ((5 unless leb x 65535) ∷ []) (gives (x + 400001)) (register_number x)
  pub coil-address : Exactly (λ n. n) refused ((5 unless leb 161 x) ∷ (5 unless leb x 256) ∷ []) (gives (x - 1)) (coil_address x)
  pub coil-number : Exactly (λ n. n) refused ((5 unless leb 160 x) ∷ (5 unless leb x 255) ∷ []) (gives (x + 1)) (coil_number x)
  pub bit-count : Exactly (λ n. n) refused ((6 unless eqb (length f) (length g)) ∷ (6 unless leb (length f) 256) ∷ []) (gives (flipped f g)) (bit_count f g)

-- the pair's writer, of n and of -1 - n: 14 above 950,000 and below -950,000; else the 32 bits of the number, the lower 16 first. -1 is the greatest 32 bits
pub record PairNumbers (n : ℕ) : Type 0 where
  pub from_zero : Exactly pair_number pairs.refused ((14 unless leb n 950000) ∷ []) (pairs.words (n % 65536) (n / 65536)) (pairs.pair_words (pos n))
  pub below-zero : let bits : ℕ = 4294967295 - n in
      Exactly pair_number pairs.refused ((14 unless ltb n 950000) ∷ []) (pairs.words (bits % 65536) (bits / 65536)) (pairs.pair_words (negsuc n))

-- the filling from a catalogue file: each test is made of the whole file before the next, and on every number the attributes stay as before
abbrev pub FileNumbers : List ℕ → List ℕ → List ℕ → Type 0
FileNumbers file asked lent =
    let says : Items = items_of (read_file file) in
    Exactly (λ (o : files.Outcome). o.number) (files.left lent)
    ((1 unless leb (length lent) 65536) ∷ (20 unless is_read (read_file file)) ∷ (21 unless not (files.deeper 4 says)) ∷ (22 unless not (files.unfit (length lent) says))
    ∷ (23 unless not (files.some_pair same_bytes (files.names_of says))) ∷ (24 unless files.named asked says) ∷ [])
    (files.done (files.filled asked says (length lent)))
    (files.outcome file asked lent)
