-- For each format the smallest damage that does pass; instances of what the other files ask; the worked lines (RULES D8, P10, W1 to W6, W8 to W14, W17 to W21, W23).
-- Proved in proofs/Computed. Assumes nothing.
use Rattle.std.specs.Prelude.{ℕ, ◌≤◌, true, false, List, [], ◌∷◌, ◌++◌, ◌≡◌, length, take, drop, set, replicate}
use Rattle.rules.specs.Given.{gives}
use Rattle.checks_shared.specs.Line.{flipped}
use Rattle.theorems_damage.specs.Damage.{OneChanged, FourBitsPass, write_one, write_two}
use Rattle.table_addresses.specs.Catalogue.{coil_address}
use Rattle.table_addresses.specs.declared.Area.TheVariants.{Registers}
use Rattle.table_registers.specs.Profile.{Row, pair, rows_of, verdict}
use Rattle.table_registers.specs.declared.Profile.TheVariants.{Free, HlG2}
use Rattle.station.specs.declared.Answer.TheVariants.{Reply, Refused}
use Rattle.station.specs.Site.{Site, site_of}
use Rattle.station.specs.Outcome.{Outcome, sent, Is}
use Rattle.station.specs.Station.{Format}
use Rattle.station.specs.Statements.{SameAsked, Written}
use Rattle.modbus_body.specs.Body as body
use Rattle.modbus_counters.specs.Counters.{counters, cleared}
use Rattle.modbus_counters.specs.declared.Counters.{Counters}
use Rattle.modbus_line.specs.Framing.{answered, modbus}
use Rattle.theorems_profiles.specs.Statements as profiles
use Rattle.theorems_counters.specs.History.{Turn, after, good_reply, wrong_check, kind_of, history}
use Rattle.modbus_rtu.specs.Rtu.{rtu, rtu_station}
use Rattle.modbus_ascii.specs.Ascii as text
use Rattle.modbus_ascii.specs.Ascii.{ascii_station}
use Rattle.theorems_modbus.specs.Statements as stations
use Rattle.mewtocol_frame.specs.Frame.{ordinary}
use Rattle.mewtocol_requests.specs.Requests.{read_range}
use Rattle.mewtocol_station.specs.Station as station
use Rattle.mewtocol_station.specs.Station.{mewtocol_station}
use Rattle.mewtocol_reader.specs.Replies.{shows, read_frame}
use Rattle.theorems_mewtocol.specs.Pair as agreed
use Rattle.theorems_mewtocol.specs.Either as either
use Rattle.laser.specs.Frame as laser
use Rattle.claims.specs.Lines.{write_most, write_one_more, lines}
use Rattle.claims.specs.LineDamage.{RtuStruck, AsciiStruck, MewtocolStruck, LaserStruck}

-- station 1 has two words of 0 that can be read and written: a frame gets a reply in such a room, and the second word is then v
abbrev pub Sets : ℕ → (Site → List ℕ → List ℕ → List ℕ → Outcome) → List ℕ → List ℕ → ℕ → Type 0
Sets least answers frame reply v =
    (room : List ℕ) → least ≤ length room → answers (site_of (3 ∷ 3 ∷ []) Free 1) (0 ∷ 0 ∷ []) frame room ≡ sent room reply (0 ∷ v ∷ [])

-- a 1 or a 2 in a frame, and its check: `:010600010001F7`, `%01#WDD000010000101` `0051`, `%01$RD0100` `17`, `/060D12345` NUL `6C.` for 5 or 6
abbrev pub ascii : List ℕ → List ℕ
ascii end = (58 ∷ 48 ∷ 49 ∷ 48 ∷ 54 ∷ 48 ∷ 48 ∷ 48 ∷ 49 ∷ 48 ∷ 48 ∷ 48 ∷ []) ++ end ++ (13 ∷ 10 ∷ [])

abbrev pub mewtocol : List ℕ → List ℕ
mewtocol end = (37 ∷ 48 ∷ 49 ∷ 35 ∷ 87 ∷ 68 ∷ 68 ∷ 48 ∷ 48 ∷ 48 ∷ 48 ∷ 49 ∷ 48 ∷ 48 ∷ 48 ∷ 48 ∷ 49 ∷ 48 ∷ []) ++ end ++ (13 ∷ [])

abbrev pub shown : ℕ → ℕ → List ℕ
shown digit check = 37 ∷ 48 ∷ 49 ∷ 36 ∷ 82 ∷ 68 ∷ 48 ∷ digit ∷ 48 ∷ 48 ∷ 49 ∷ check ∷ 13 ∷ []

abbrev pub distance : ℕ → ℕ → List ℕ
distance digit check = 47 ∷ 48 ∷ 54 ∷ 48 ∷ 68 ∷ 49 ∷ 50 ∷ 51 ∷ 52 ∷ digit ∷ 0 ∷ 54 ∷ check ∷ 46 ∷ []

-- one changed character is refused (specs/LineDamage), and one more passes
pub record TwoPass (Struck : List ℕ → List ℕ → Type 0) (went came : List ℕ) : Type 0 where
  pub once : List ℕ
  pub struck : Struck went once
  pub again : OneChanged once came

-- the smallest damage that passes: 1 was written to register 400002 and 2 stands there; 123.45 mm was sent and 123.46 mm is read
pub record Sharp : Type 0 where
  pub rtu : FourBitsPass write_one write_two 40 × ((c : Counters) → Sets 513 (rtu_station c) write_one write_one 1 × Sets 513 (rtu_station c) write_two write_two 2)
  pub ascii-two : TwoPass AsciiStruck (ascii (49 ∷ 70 ∷ 55 ∷ [])) (ascii (50 ∷ 70 ∷ 54 ∷ []))
  pub ascii-sets : let one : List ℕ = ascii (49 ∷ 70 ∷ 55 ∷ []) in let two : List ℕ = ascii (50 ∷ 70 ∷ 54 ∷ []) in
      (c : Counters) → Sets 513 (ascii_station c) one one 1 × Sets 513 (ascii_station c) two two 2
  pub mewtocol-two : TwoPass (MewtocolStruck 8) (mewtocol (49 ∷ 48 ∷ 48 ∷ 53 ∷ 49 ∷ [])) (mewtocol (50 ∷ 48 ∷ 48 ∷ 53 ∷ 50 ∷ []))
  pub mewtocol-sets : let reply : List ℕ = 37 ∷ 48 ∷ 49 ∷ 36 ∷ 87 ∷ 68 ∷ 49 ∷ 51 ∷ 13 ∷ [] in
      Sets 2048 mewtocol_station (mewtocol (49 ∷ 48 ∷ 48 ∷ 53 ∷ 49 ∷ [])) reply 1 × Sets 2048 mewtocol_station (mewtocol (50 ∷ 48 ∷ 48 ∷ 53 ∷ 50 ∷ [])) reply 2
  pub host-two : TwoPass (MewtocolStruck 9) (shown 49 55) (shown 50 52)
  pub host-shows : (read_frame ordinary 1 (read_range Registers 1 1) (shown 49 55) ≡ shows (48 ∷ 49 ∷ 48 ∷ 48 ∷ []))
      × (read_frame ordinary 1 (read_range Registers 1 1) (shown 50 52) ≡ shows (48 ∷ 50 ∷ 48 ∷ 48 ∷ []))
  pub laser-two : TwoPass LaserStruck (distance 53 67) (distance 54 70)
  pub laser-gives : (laser.distance_of (distance 53 67) ≡ laser.measures 12345) × (laser.distance_of (distance 54 70) ≡ laser.measures 12346)

-- write_one with its first bit flipped; with five bits flipped, the lowest of each of its first five bytes; with the last two bits of its second byte and
-- the first two of its third, four in a row
abbrev pub one_flipped : List ℕ
one_flipped = 0x00 ∷ 0x06 ∷ 0x00 ∷ 0x01 ∷ 0x00 ∷ 0x01 ∷ 0x19 ∷ 0xCA ∷ []

abbrev pub five_flipped : List ℕ
five_flipped = 0x00 ∷ 0x07 ∷ 0x01 ∷ 0x00 ∷ 0x01 ∷ 0x01 ∷ 0x19 ∷ 0xCA ∷ []

abbrev pub four_in_a_row : List ℕ
four_in_a_row = 0x01 ∷ 0xC6 ∷ 0x03 ∷ 0x01 ∷ 0x00 ∷ 0x01 ∷ 0x19 ∷ 0xCA ∷ []

-- a frame of each format that was struck: in RTU each way, with how many bits; in the texts one character
pub record StruckFrames : Type 0 where
  pub few_bits : RtuStruck write_one one_flipped × (flipped write_one one_flipped ≡ 1)
  pub odd-bits : RtuStruck write_one five_flipped × (flipped write_one five_flipped ≡ 5)
  pub burst-bits : RtuStruck write_one four_in_a_row × (flipped write_one four_in_a_row ≡ 4)
  pub ascii-text : (came : List ℕ) × AsciiStruck (ascii (49 ∷ 70 ∷ 55 ∷ [])) came
  pub mewtocol-text : (came : List ℕ) × MewtocolStruck 8 (mewtocol (49 ∷ 48 ∷ 48 ∷ 53 ∷ 49 ∷ [])) came
  -- the header `%` of a request changed to `<`, that of the other form
  pub header-text : MewtocolStruck 8 (mewtocol (49 ∷ 48 ∷ 48 ∷ 53 ∷ 49 ∷ [])) (set (mewtocol (49 ∷ 48 ∷ 48 ∷ 53 ∷ 49 ∷ [])) 0 60)
  pub reply-text : (came : List ℕ) × MewtocolStruck 9 (shown 49 55) came
  pub laser-text : (came : List ℕ) × LaserStruck (distance 53 67) came

-- the frames that set the second word to 1, as they are sent to all: with their CRC; `:000600010001F8`; `%FF#WDD000010000101` `0050`
abbrev pub all_rtu : List ℕ
all_rtu = 0x00 ∷ 0x06 ∷ 0x00 ∷ 0x01 ∷ 0x00 ∷ 0x01 ∷ 0x18 ∷ 0x1B ∷ []

abbrev pub all_ascii : List ℕ
all_ascii = 58 ∷ 48 ∷ 48 ∷ 48 ∷ 54 ∷ 48 ∷ 48 ∷ 48 ∷ 49 ∷ 48 ∷ 48 ∷ 48 ∷ 49 ∷ 70 ∷ 56 ∷ 13 ∷ 10 ∷ []

abbrev pub all_mewtocol : List ℕ
all_mewtocol = 37 ∷ 70 ∷ 70 ∷ 35 ∷ 87 ∷ 68 ∷ 68 ∷ 48 ∷ 48 ∷ 48 ∷ 48 ∷ 49 ∷ 48 ∷ 48 ∷ 48 ∷ 48 ∷ 49 ∷ 48 ∷ 49 ∷ 48 ∷ 48 ∷ 53 ∷ 48 ∷ 13 ∷ []

-- the last of them in the expanded form, `<FF#WDD000010000101` `0049`, and the same to the own station, `0048`
abbrev pub expanded_write : ℕ → ℕ → ℕ → List ℕ
expanded_write tens ones check =
    60 ∷ tens ∷ ones ∷ 35 ∷ 87 ∷ 68 ∷ 68 ∷ 48 ∷ 48 ∷ 48 ∷ 48 ∷ 49 ∷ 48 ∷ 48 ∷ 48 ∷ 48 ∷ 49 ∷ 48 ∷ 49 ∷ 48 ∷ 48 ∷ 52 ∷ check ∷ 13 ∷ []

-- a frame to all and one to the own station that ask the same, a write that gets a good reply
abbrev pub SameWrite : Format → List ℕ → List ℕ → Type 0
SameWrite m to_all to_own =
    let site : Site = site_of (3 ∷ 3 ∷ []) Free 1 in SameAsked m site (0 ∷ 0 ∷ []) to_all to_own (replicate m.room 0) × Written m site (0 ∷ 0 ∷ []) to_own

pub record ToAllFrames : Type 0 where
  pub rtu-all : (c : Counters) → SameWrite (modbus rtu c) all_rtu write_one
  pub ascii-all : (c : Counters) → SameWrite (modbus text.ascii c) all_ascii (ascii (49 ∷ 70 ∷ 55 ∷ []))
  pub mewtocol-all : SameWrite station.mewtocol all_mewtocol (mewtocol (49 ∷ 48 ∷ 48 ∷ 53 ∷ 49 ∷ []))
  pub expanded-all : SameWrite station.mewtocol (expanded_write 70 70 57) (expanded_write 48 49 56)

-- 01 08 00 0B 00 00 91 C9, at a station with an empty table
abbrev pub ask_bus : List ℕ
ask_bus = 0x01 ∷ 0x08 ∷ 0x00 ∷ 0x0B ∷ 0x00 ∷ 0x00 ∷ 0x91 ∷ 0xC9 ∷ []

abbrev pub turn : List ℕ → Turn
turn frame = record { framing = rtu; site = site_of [] Free 1; words = []; frame = frame; room = replicate 513 0 }

-- the limit of the HL-G2 in words 100 and 101; and a call on a frame, by station 1 with 102 words that may be read and written
abbrev pub limit : Row
limit = pair 100 950000

abbrev pub limit_call : List ℕ → profiles.Call
limit_call frame = record { format = modbus rtu cleared; attributes = replicate 102 3; own = 1; frame = frame; room = replicate 513 0 }

-- a limit that the profile keeps: 950,000 is written over what was out of range, and is in range; 950,001 gets exception 03, the words stay, and without
-- the profile it would be written and out of range
pub record LimitKept : Type 0 where
  pub of-profile : profiles.Of limit (rows_of HlG2)
  pub most-written : let words : List ℕ = replicate 101 0 ++ (0x7FFF ∷ []) in let calls : List profiles.Call = limit_call write_most ∷ [] in
      (profiles.in_range limit words ≡ false) × (profiles.some_wrote HlG2 words calls limit ≡ true)
      × (profiles.words_after HlG2 words calls ≡ replicate 100 0 ++ (0x7EF0 ∷ 0x000E ∷ [])) × (profiles.in_range limit (profiles.words_after HlG2 words calls) ≡ true)
  pub one-more-refused : let words : List ℕ = replicate 102 0 in let call : profiles.Call = limit_call write_one_more in
      (profiles.called HlG2 call words ≡ sent call.room (0x01 ∷ 0x90 ∷ 0x03 ∷ 0x0C ∷ 0x01 ∷ []) words)
      × (profiles.some_wrote HlG2 words (call ∷ []) limit ≡ false)
      × (profiles.some_wrote Free words (call ∷ []) limit ≡ true) × (profiles.in_range limit (profiles.words_after Free words (call ∷ [])) ≡ false)

-- what the other statements ask can be had: frames that were struck, a call that answers and one that refuses, a request and its reply, one body in both
-- Modbus frames, frames for all, a frame written and its NUL lost, an exception, a limit that was written and one that was refused
pub record NotEmpty : Type 0 where
  pub struck : StruckFrames
  pub to-all : ToAllFrames
  pub met : (room : List ℕ) × Is (rtu_station cleared (site_of (3 ∷ 3 ∷ []) Free 1) (0 ∷ 0 ∷ []) write_one (replicate 513 0)) (Reply 8) (0 ∷ 1 ∷ []) room
  pub met-refused : let room : List ℕ = replicate 513 0 in
      Is (rtu_station cleared (site_of (3 ∷ 3 ∷ []) Free 1) (0 ∷ 0 ∷ []) five_flipped room) (Refused (record { 0 = 11 })) (0 ∷ 0 ∷ []) room
  pub agreed : agreed.Example × either.EitherExample × stations.Example
  pub lost : let whole : List ℕ = distance 53 67 in let cut : List ℕ = take 10 whole ++ drop 11 whole in
      (laser.frame_of 48 68 (49 ∷ 50 ∷ 51 ∷ 52 ∷ 53 ∷ 0 ∷ []) ≡ whole) × (laser.good_shape whole ≡ true) × (take 3 cut ≡ take 3 whole) × (length cut ≡ 13)
  pub exception : (coil_address 209 ≡ gives 208)
      × (body.reply_to (8 ∷ []) (answered cleared (verdict Free (3 ∷ [])) (0 ∷ []) (8 ∷ [])).says ≡ body.exception (8 ∷ []) 3)
  pub limits : LimitKept
  -- of two frames that ask for the bus messages, one damaged, the counters after both and what the whole one says
  pub counted : let went : Turn = turn ask_bus in let came : Turn = turn (set ask_bus 7 0xC8) in
      (after cleared (went ∷ came ∷ []) ≡ counters 1 1 0 1 0) × (kind_of went ≡ good_reply) × (history (went ∷ came ∷ []) ≡ good_reply ∷ wrong_check ∷ [])

-- the worked lines (specs/Lines) hold, every one
abbrev pub Worked : Type 0
Worked = lines ≡ replicate 46 true
