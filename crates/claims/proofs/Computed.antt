-- The statements of specs/Examples, computed by antt. Assumes nothing.
use mathlib.Core.Bool.{Bool, true, false}
use mathlib.Core.List.{List, [], ◌∷◌}
use mathlib.Core.Logic.{◌≢◌, inl}
use mathlib.Core.Path.{◌≡◌, refl, ap, subst}
use Prim.Native.Nat.{ℕ, suc, ◌%◌, ◌≤◌}
use native.Mathlib.Omega.{arith}
use borrow.Author.Tests.{le-leb, ltb-true, eqb-false}
use lib.Dec.{eqb, ltb}
use lib.ListN.{length, get_or, set, take, drop}
use lib.Seq.{split_at, set_split}
use Rattle.rules.specs.Choice.{some, between, all_between, first_not}
use Rattle.rules.specs.Tests.{first}
use Rattle.text_rooms.specs.Room.{overwrite, each}
use Rattle.text_digits.specs.Digits.{running, decimal_value, digits_in}
use Rattle.text_hex.specs.Hex.{hex_value, hex_digit, all_hex}
use Rattle.text_hex_words.specs.Words.{low_first, low_first_word}
use Rattle.checks_crc.specs.Crc.{shifted, shifts}
use Rattle.checks_shared.specs.Fold.{fold}
use Rattle.checks_shared.specs.Line.{bit_at, total, flipped}
use Rattle.checks_lrc.specs.Lrc.{right_lrc}
use Rattle.checks_shared.specs.Right.{same, closed_by}
use Rattle.checks_shared.proofs.Bits.{bytes-by}
use Rattle.theorems_damage.specs.Damage.{Damage, few, odd, burst, OneChanged, write_one, write_two}
use Rattle.theorems_damage.proofs.Within.{below, differ-within}
use Rattle.theorems_damage.proofs.Shows.{four-bits-pass}
use Rattle.table_addresses.specs.Catalogue.{register_address, coil_address}
use Rattle.table_addresses.specs.Cells.{contact_of}
use Rattle.table_addresses.specs.declared.Area.TheVariants.{Registers}
use Rattle.table_registers.specs.Table.{grants, allows, up_from, checked}
use Rattle.table_registers.specs.Bits.{with_bit, put_cells, masked}
use Rattle.table_registers.specs.Operation.{words_of_bytes, address_check, after, words_after, shows}
use Rattle.table_registers.specs.declared.Profile.TheVariants.{Free}
use Rattle.table_registers.specs.Profile.{takes}
use Rattle.station.specs.Site.{site_of, said, done}
use Rattle.station.specs.Outcome.{Outcome, silent}
use Rattle.station.specs.Station.{call_tests, received, station}
use Rattle.modbus_body.specs.Bytes.{word_at}
use Rattle.modbus_body.specs.Body as modbus
use Rattle.modbus_counters.specs.Counters as cs
use Rattle.modbus_counters.specs.Diagnosis as dg
use Rattle.modbus_counters.specs.declared.Counters.{Counters}
use Rattle.modbus_line.specs.Framing as framing
use Rattle.modbus_line.specs.Framing.{line_asks, whom_at}
use Rattle.modbus_line.specs.Calls.{fate, left, counters_after}
use Rattle.theorems_counters.specs.History.{fate_of, kind_of}
use Rattle.theorems_profiles.specs.Statements as profiles
use Rattle.modbus_rtu.specs.Rtu.{rtu, rtu_station}
use Rattle.modbus_ascii.specs.Ascii as text
use Rattle.modbus_ascii.specs.Ascii.{byte_or0, pair_bytes, bytes_of, good_ascii, ascii_station}
use Rattle.mewtocol_frame.specs.Frame.{ordinary, form_in, limits_in, good_shape, good_check, for_station, opening, sealed}
use Rattle.mewtocol_frame.specs.Text.{starts, bit}
use Rattle.mewtocol_commands.specs.Fields.{letter}
use Rattle.mewtocol_commands.specs.Rows.{times, widths, every, numbers}
use Rattle.mewtocol_requests.specs.Requests.{read_range}
use Rattle.mewtocol_requests.specs.Requests.{settings}
use Rattle.mewtocol_commands.specs.Commands.{named}
use Rattle.mewtocol_requests.specs.Reading.{read_text, read_as, read_fields}
use Rattle.mewtocol_requests.specs.Hearing.{read_frame}
use Rattle.mewtocol_station.specs.Replies.{operation_of, reply_of, reply_frame}
use Rattle.mewtocol_station.specs.Station as mewtocol-station
use Rattle.mewtocol_station.specs.Station.{whom_in, mewtocol_station}
use Rattle.mewtocol_asking.specs.Asking.{characters, filled, ask_text, fit}
use Rattle.mewtocol_writer.specs.Writing as writing
use Rattle.mewtocol_writer.specs.Writing.{ask_frame}
use Rattle.mewtocol_reader.specs.Replies as replies
use Rattle.theorems_modbus.proofs.SameBody as stations
use Rattle.theorems_mewtocol.proofs.Example as pair
use Rattle.theorems_mewtocol.proofs.Either as either
use Rattle.laser.specs.Frame as laser
use Rattle.claims.specs.LineDamage.{Struck, RtuStruck, AsciiStruck, MewtocolStruck, LaserStruck}
use Rattle.claims.specs.Examples.{Sets, ascii, mewtocol, shown, distance, TwoPass, Sharp, one_flipped, five_flipped, four_in_a_row, StruckFrames, LimitKept, NotEmpty, Worked, all_rtu, all_ascii, all_mewtocol, expanded_write, SameWrite}

-- ---- frames that set a word

-- a station and a room that are fit, and a frame that gets a reply
sets : (highest least : ℕ) → between 1 highest 1 ≡ true → (room : List ℕ) → least ≤ length room → (o d : Outcome) → o ≡ d
    → first (silent (0 ∷ 0 ∷ []) room) (call_tests highest least (site_of (3 ∷ 3 ∷ []) Free 1) 2 (length room)) o ≡ d
unfolding all_between between
sets highest least own room long o d e = rw (own, le-leb least (length room) long) e

rtu-sets : (c : Counters) → Sets 513 (rtu_station c) write_one write_one 1 × Sets 513 (rtu_station c) write_two write_two 2
unfolding station received whom_at whom_in between closed_by same fold shifts shifted line_asks modbus.body_asks modbus.asks_by modbus.reply_body modbus.reply_to word_at done said takes address_check checked allows grants up_from after words_after shows overwrite all_between
rtu-sets c = (λ room long. sets 247 513 refl room long _ _ refl, λ room long. sets 247 513 refl room long _ _ refl)

abbrev ascii_one : List ℕ
ascii_one = ascii (49 ∷ 70 ∷ 55 ∷ [])

abbrev ascii_two : List ℕ
ascii_two = ascii (50 ∷ 70 ∷ 54 ∷ [])

ascii-sets : (c : Counters) → Sets 513 (ascii_station c) ascii_one ascii_one 1 × Sets 513 (ascii_station c) ascii_two ascii_two 2
unfolding station received whom_at whom_in good_ascii all_hex hex_value running byte_or0 pair_bytes fold each digits_in hex_digit between line_asks modbus.body_asks modbus.asks_by modbus.reply_body modbus.reply_to word_at done said takes address_check checked allows grants up_from after words_after shows overwrite all_between
ascii-sets c = (λ room long. sets 247 513 refl room long _ _ refl, λ room long. sets 247 513 refl room long _ _ refl)

abbrev mewtocol_one : List ℕ
mewtocol_one = mewtocol (49 ∷ 48 ∷ 48 ∷ 53 ∷ 49 ∷ [])

abbrev mewtocol_two : List ℕ
mewtocol_two = mewtocol (50 ∷ 48 ∷ 48 ∷ 53 ∷ 50 ∷ [])

abbrev written : List ℕ
written = 37 ∷ 48 ∷ 49 ∷ 36 ∷ 87 ∷ 68 ∷ 49 ∷ 51 ∷ 13 ∷ []

mewtocol-sets : Sets 2048 mewtocol_station mewtocol_one written 1 × Sets 2048 mewtocol_station mewtocol_two written 2
unfolding form_in station received whom_at whom_in read_frame done said operation_of reply_of reply_frame between all_between good_shape for_station running decimal_value hex_value closed_by same fold digits_in hex_digit low_first low_first_word letter starts times widths every numbers read_text read_as read_fields named grants allows up_from checked takes address_check after words_after shows opening sealed each overwrite
mewtocol-sets = (λ room long. sets 99 2048 refl room long _ _ refl, λ room long. sets 99 2048 refl room long _ _ refl)

-- ---- two characters

-- one element of a text, changed
one_at : (n v : ℕ) (f : List ℕ) → ltb n (length f) ≡ true → eqb (get_or f n 0) v ≡ false → OneChanged f (set f n v)
one_at n v f l e =
    let h = ltb-true n (length f) l in
    record { before = take n f; after = drop (suc n) f; was = get_or f n 0; is = v; differs = eqb-false (get_or f n 0) v e; sent = split_at f n 0 h; received = set_split f n v h }

-- a good text, one character of it changed, and another
two_at : (shape check : List ℕ → Bool) (n v m w : ℕ) (f g : List ℕ) → all_between 0 255 f ≡ true → shape f ≡ true → check f ≡ true → all_between 0 255 (set f n v) ≡ true
    → ltb n (length f) ≡ true → eqb (get_or f n 0) v ≡ false → ltb m (length (set f n v)) ≡ true → eqb (get_or (set f n v) m 0) w ≡ false → set (set f n v) m w ≡ g
    → TwoPass (Struck shape check OneChanged) f g
two_at shape check n v m w f g b s c b' l e l' e' q = record {
  once = set f n v;
  struck = record { bytes = (bytes-by f b, bytes-by (set f n v) b'); shape-right = s; check-right = c; harm = one_at n v f l e };
  again = subst (OneChanged (set f n v)) q (one_at m w (set f n v) l' e');
}

ascii-two : TwoPass AsciiStruck ascii_one ascii_two
unfolding good_ascii all_hex hex_value running byte_or0 pair_bytes fold between all_between
ascii-two = two_at good_ascii (λ f. right_lrc (bytes_of f)) 12 50 14 54 ascii_one ascii_two refl refl refl refl refl refl refl refl refl

mewtocol-two : TwoPass (MewtocolStruck 8) mewtocol_one mewtocol_two
unfolding form_in good_shape between all_between closed_by same fold digits_in hex_digit
mewtocol-two = two_at (λ f. good_shape (limits_in f) 8 f) good_check 18 50 22 50 mewtocol_one mewtocol_two refl refl refl refl refl refl refl refl refl

host-two : TwoPass (MewtocolStruck 9) (shown 49 55) (shown 50 52)
unfolding form_in good_shape between all_between closed_by same fold digits_in hex_digit
host-two = two_at (λ f. good_shape (limits_in f) 9 f) good_check 7 50 11 52 (shown 49 55) (shown 50 52) refl refl refl refl refl refl refl refl refl

-- the header of a request, changed to that of the other form
header-struck : MewtocolStruck 8 mewtocol_one (set mewtocol_one 0 60)
unfolding form_in good_shape between all_between closed_by same fold digits_in hex_digit
header-struck =
    record { bytes = (bytes-by mewtocol_one refl, bytes-by (set mewtocol_one 0 60) refl); shape-right = refl; check-right = refl; harm = one_at 0 60 mewtocol_one refl refl }

laser-two : TwoPass LaserStruck (distance 53 67) (distance 54 70)
unfolding laser.good_shape running decimal_value between all_between closed_by same fold digits_in hex_digit
laser-two = two_at laser.good_shape laser.good_check 9 54 12 70 (distance 53 67) (distance 54 70) refl refl refl refl refl refl refl refl refl

host-shows : (replies.read_frame ordinary 1 (read_range Registers 1 1) (shown 49 55) ≡ replies.shows (48 ∷ 49 ∷ 48 ∷ 48 ∷ [])) × (replies.read_frame ordinary 1 (read_range Registers 1 1) (shown 50 52) ≡ replies.shows (48 ∷ 50 ∷ 48 ∷ 48 ∷ []))
unfolding form_in replies.read_frame replies.form_reply replies.reply_in replies.data_in replies.data_size first_not starts good_shape for_station running decimal_value hex_value between all_between closed_by same fold digits_in hex_digit
host-shows = (refl, refl)

laser-gives : (laser.distance_of (distance 53 67) ≡ laser.measures 12345) × (laser.distance_of (distance 54 70) ≡ laser.measures 12346)
unfolding laser.distance_of laser.read laser.good_shape laser.distance_in laser.distance_at running decimal_value between all_between closed_by same fold digits_in hex_digit
laser-gives = (refl, refl)

pub sharp : Sharp
sharp = record {
  rtu = (four-bits-pass, rtu-sets);
  ascii-two = ascii-two;
  ascii-sets = ascii-sets;
  mewtocol-two = mewtocol-two;
  mewtocol-sets = mewtocol-sets;
  host-two = host-two;
  host-shows = host-shows;
  laser-two = laser-two;
  laser-gives = laser-gives;
}

-- ---- not empty

-- a frame as long as write_one, whose bits differ in some harmful way
struck-rtu : (came : List ℕ) → all_between 0 255 came ≡ true → length write_one ≡ length came → Damage write_one came → RtuStruck write_one came
unfolding between all_between closed_by same fold shifts shifted
struck-rtu came b l d = record { bytes = (bytes-by write_one refl, bytes-by came b); shape-right = refl; check-right = refl; harm = (l, d) }

-- bits 14 to 17
four-in-a-row : (k : ℕ) → bit_at write_one k ≢ bit_at four_in_a_row k → (14 ≤ k) × (k ≤ 17)
unfolding below bit_at between
four-in-a-row = differ-within write_one four_in_a_row 14 17 8 (omega arith) (omega arith) refl

struck-frames : StruckFrames
unfolding between all_between flipped total bit_at
struck-frames =
    let one : flipped write_one one_flipped ≡ 1 = refl in
    let five : flipped write_one five_flipped ≡ 5 = refl in
    let four : flipped write_one four_in_a_row ≡ 4 = refl in
    record {
      few_bits = (struck-rtu one_flipped refl refl (few (omega (arith, one)) (omega (arith, one))), one);
      odd-bits = (struck-rtu five_flipped refl refl (odd (ap (λ (n : ℕ). n % 2) five)), five);
      burst-bits = (struck-rtu four_in_a_row refl refl (burst 14 (λ k d. omega (arith, four-in-a-row k d)) (omega (arith, four))), four);
      ascii-text = (ascii-two.once, ascii-two.struck);
      mewtocol-text = (mewtocol-two.once, mewtocol-two.struck);
      header-text = header-struck;
      reply-text = (host-two.once, host-two.struck);
      laser-text = (laser-two.once, laser-two.struck);
    }

rtu-all : (c : Counters) → SameWrite (framing.modbus rtu c) all_rtu write_one
unfolding whom_at between all_between closed_by same fold shifts shifted line_asks modbus.body_asks modbus.asks_by word_at done said takes address_check checked allows grants up_from
rtu-all c = (record { fit = refl; right = (refl, refl); whom = (refl, refl); asked = refl }, (refl, refl))

ascii-all : (c : Counters) → SameWrite (framing.modbus text.ascii c) all_ascii ascii_one
unfolding whom_at good_ascii all_hex hex_value running byte_or0 pair_bytes fold between all_between line_asks modbus.body_asks modbus.asks_by word_at done said takes address_check checked allows grants up_from
ascii-all c = (record { fit = refl; right = (refl, refl); whom = (refl, refl); asked = refl }, (refl, refl))

mewtocol-all : SameWrite mewtocol-station.mewtocol all_mewtocol mewtocol_one × SameWrite mewtocol-station.mewtocol (expanded_write 70 70 57) (expanded_write 48 49 56)
unfolding form_in whom_in read_frame done said operation_of reply_of reply_frame between all_between good_shape for_station running decimal_value hex_value closed_by same fold digits_in hex_digit low_first low_first_word letter starts times widths every numbers read_text read_as read_fields named grants allows up_from checked takes address_check after words_after shows opening sealed each overwrite
mewtocol-all =
    ((record { fit = refl; right = (refl, refl); whom = (refl, refl); asked = refl }, (refl, refl)), (record { fit = refl; right = (refl, refl); whom = (refl, refl); asked = refl }, (refl, refl)))

limit-kept : LimitKept
unfolding profiles.wrote profiles.words_after profiles.some_wrote station received whom_at between all_between closed_by same fold shifts shifted line_asks modbus.body_asks modbus.asks_by modbus.good_write modbus.reply_body modbus.reply_to modbus.exception word_at words_of_bytes done said takes address_check checked allows grants up_from after words_after shows overwrite some
limit-kept = record { of-profile = inl refl; most-written = (refl, refl, refl, refl); one-more-refused = (refl, refl, refl, refl) }

pub not-empty : NotEmpty
unfolding fate left counters_after fate_of kind_of cs.counted cs.more dg.diagnosed dg.is_sub dg.count_at dg.after dg.replied station received whom_at whom_in between all_between closed_by same fold digits_in hex_digit shifts shifted line_asks modbus.body_asks modbus.asks_by modbus.reply_body modbus.reply_to modbus.exception word_at done said takes address_check checked allows grants up_from after words_after shows overwrite running decimal_value coil_address laser.good_shape
not-empty = record {
  struck = struck-frames;
  to-all = record { rtu-all = rtu-all; ascii-all = ascii-all; mewtocol-all = mewtocol-all.0; expanded-all = mewtocol-all.1 };
  met = (_, record { answer-is = refl; words-is = refl; room-is = refl });
  met-refused = record { answer-is = refl; words-is = refl; room-is = refl };
  agreed = (pair.example, either.either-example, stations.an-example);
  lost = (refl, refl, refl, refl);
  exception = (refl, refl);
  limits = limit-kept;
  counted = (refl, refl, refl);
}

-- ---- the worked lines

pub worked : Worked
unfolding form_in fate cs.counted cs.more dg.diagnosed dg.is_sub dg.count_at station received whom_at whom_in read_frame done said operation_of reply_of reply_frame between all_between good_shape for_station running decimal_value hex_value closed_by same fold digits_in hex_digit low_first low_first_word letter starts times widths every numbers read_text read_as read_fields named grants allows up_from checked takes address_check after words_after shows opening sealed each overwrite contact_of bit settings with_bit put_cells masked good_ascii all_hex byte_or0 pair_bytes shifts shifted line_asks modbus.body_asks modbus.asks_by modbus.good_read modbus.good_write words_of_bytes modbus.reply_body modbus.reply_to modbus.exception word_at register_address laser.distance_of laser.read laser.good_shape laser.distance_in laser.distance_at writing.write ask_frame ask_text filled characters fit replies.read replies.read_frame replies.form_reply replies.reply_in replies.data_in replies.data_size first_not flipped total bit_at some
worked = refl
