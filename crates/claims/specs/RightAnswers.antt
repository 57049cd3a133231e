-- The second demand: right answers. What each promise says is the definition that a paragraph of the rules became (RULES P1, P2, P4, P6 to P9, P15, P16;
-- docs/PROMISES.md); here is that no promise of an entry allows a second answer, what every reply is that a promise allows, and what the definitions have
-- in common. Proved in proofs/Answered and proofs/Called. Assumes nothing.
use Rattle.std.specs.Prelude.{ℕ, List, ◌≡◌, ℤ, take}
use Rattle.checks_bit_count.specs.Differing as count
use Rattle.table_addresses.specs.Catalogue.{register_address, register_number, coil_address, coil_number}
use Rattle.table_addresses.specs.Catalogue.{given_at, given_is, given_coil_at, given_coil_is}
use Rattle.table_addresses.specs.Statements.{ThereAndBack}
use Rattle.rules.specs.Given.{Once}
use Rattle.rules.specs.declared.Refusal.{Refusal}
use Rattle.station.specs.Site.{Site, Done, done}
use Rattle.station.specs.Outcome.{Outcome, Is}
use Rattle.station.specs.Station.{Format, station}
use Rattle.station.specs.declared.Answer.TheVariants.{Reply, Refused, CarriedOut}
use Rattle.station.specs.Statements as stations
use Rattle.modbus_body.specs.Body.{reply_to}
use Rattle.modbus_counters.specs.declared.Counters.{Counters}
use Rattle.modbus_line.specs.Framing.{answered}
use Rattle.modbus_line.specs.Calls.{shown, Counts}
use Rattle.modbus_line.specs.declared.Call.{Call}
use Rattle.theorems_counters.specs.History as counters
use Rattle.modbus_rtu.specs.Rtu as rtu
use Rattle.modbus_rtu.specs.Rtu.{body_of, rtu_frame, rtu_station}
use Rattle.modbus_ascii.specs.Ascii as ascii
use Rattle.modbus_ascii.specs.Ascii.{bytes_of, body_in, with_lrc, text_frame, ascii_station}
use Rattle.theorems_modbus.specs.Statements as modbus
use Rattle.mewtocol_frame.specs.declared.Form.{Form}
use Rattle.mewtocol_frame.specs.Frame.{limits_of, limits_in, Framed}
use Rattle.mewtocol_requests.specs.Hearing.{read_frame}
use Rattle.mewtocol_station.specs.Replies.{reply_frame}
use Rattle.mewtocol_station.specs.Station.{errors, reading_asks, mewtocol_station}
use Rattle.mewtocol_station.specs.Statements as mewtocol
use Rattle.mewtocol_asking.specs.Asking.{Asking}
use Rattle.mewtocol_writer.specs.Writing as writing
use Rattle.mewtocol_writer.specs.declared.Written.TheVariants as request
use Rattle.mewtocol_writer.specs.Statements as host_writer
use Rattle.mewtocol_reader.specs.Replies as replies
use Rattle.mewtocol_reader.specs.Statements as host_reader
use Rattle.theorems_profiles.specs.Statements as profiles
use Rattle.host_pairs.specs.Pairs as pairs
use Rattle.host_pairs.specs.Statements as host_pairs
use Rattle.theorems_mewtocol.specs.Pair as pair
use Rattle.theorems_mewtocol.specs.Either as either
use Rattle.theorems_mewtocol.specs.Lengths as lengths
use Rattle.laser.specs.Frame as laser
use Rattle.laser.specs.Statements as laser_head
use Rattle.laser.specs.declared.Written.{Written}
use Rattle.laser.specs.declared.Written.TheVariants as frame
use Rattle.catalogue_files.specs.Refusals as files
use Rattle.catalogue_files.specs.Statements as catalogue
use Rattle.catalogue_files.specs.declared.Filled.{Filled}
use Rattle.catalogue_files.specs.declared.Filled.TheVariants as filled
use Rattle.theorems_masters.specs.Masters as masters
use Rattle.theorems_masters.specs.Examples as masters_lines
use Rattle.noise_report.specs.Claims as noise
use Rattle.noise_report.specs.Examples as noise_lines
use Rattle.claims.specs.Calls.{Replied}

-- what the promise of a station allows where it replies: the message of what was done, a good frame, and the words that were left
pub record StationReplies (c : Counters) (site : Site) (words frame room : List ℕ) (n : ℕ) (words' room' : List ℕ) : Type 0 where
  pub rtu : let body : List ℕ = body_of frame in let d : Done = answered (shown rtu.rtu site.own frame c) site.judge words body in
      Is (rtu_station c site words frame room) (Reply n) words' room'
      → Replied (rtu_frame site.own (reply_to body d.says)) d.words room n words' room' × modbus.GoodRtu (take n room')
  pub ascii : let body : List ℕ = body_in (bytes_of frame) in let d : Done = answered (shown ascii.ascii site.own frame c) site.judge words body in
      let bytes : List ℕ = with_lrc site.own (reply_to body d.says) in
      Is (ascii_station c site words frame room) (Reply n) words' room'
      → Replied (text_frame bytes) d.words room n words' room' × modbus.GoodAscii bytes (take n room')
  pub mewtocol : let d : Done = done errors site.judge words (reading_asks (read_frame (limits_in frame) frame)) in
      Is (mewtocol_station site words frame room) (Reply n) words' room'
      → Replied (reply_frame (limits_in frame).header site.own d.says) d.words room n words' room' × Framed (limits_in frame) 9 (take n room')

-- a refusal that a promise allows leaves what was lent: words and room at a station, of whatever format, the room at both writers, and the attributes at
-- the filling
pub record RefusalsLeave (r : Refusal) : Type 0 where
  pub station : (m : Format) (site : Site) (words frame room words' room' : List ℕ) → Is (station m site words frame room) (Refused r) words' room'
      → (words' ≡ words) × (room' ≡ room)
  pub writer : (form : Form) (to : ℕ) (a : Asking) (room room' : List ℕ)
      → writing.Is (writing.write (limits_of form) to a room) (request.Refused r) room' → room' ≡ room
  pub laser-writer : (a b : ℕ) (bytes room room' : List ℕ) → laser.Is (laser.write room a b bytes) (frame.Refused r) room' → room' ≡ room
  pub filling : (file asked lent lent' : List ℕ) → files.Is (files.outcome file asked lent) (filled.Refused r) lent' → lent' ≡ lent

pub record RightAnswers : Type 0 where
  -- one answer only, with the words and the room after it: the three stations, the host, the laser head's writer, the filling
  pub stations-once : stations.OneAnswer
  -- and the counters after a Modbus call
  pub calls-once : (o : Outcome) (c : Counters) (r s : Call) (w v x y : List ℕ) → Counts o c r w x → Counts o c s v y → (r ≡ s) × (w ≡ v) × (x ≡ y)
  pub host-once : host_writer.OneWritten × host_reader.OneRead
  pub writer-once : (o : laser.Outcome) (w v : Written) (r s : List ℕ) → laser.Is o w r → laser.Is o v s → (w ≡ v) × (r ≡ s)
  pub filling-once : (o : files.Outcome) (r s : Filled) (a b : List ℕ) → files.Is o r a → files.Is o s b → (r ≡ s) × (a ≡ b)
  -- the laser head's reader and distance, the four conversions, the bit count, the pair's writer
  pub reader-once : (part : List ℕ) → Once (λ r. laser.given r part)
  pub distance-once : Once laser.given_distance
  pub conversions-once : Once given_at × Once given_is × Once given_coil_at × Once given_coil_is
  pub count-once : Once count.given
  pub pair-once : Once pairs.given
  -- the place that is told with 13: below the frame's length where the form is right, and then that of the first character that may not stand where it does
  pub reply-place : host_reader.WrongPlace
  pub distance-place : laser_head.WrongPlace
  -- the parts of a frame that hold data: these bytes, at this place
  pub reply-part-once : (r : replies.Read) (start p q : ℕ × ℕ) (b c : List ℕ) → replies.Part r start b p → replies.Part r start c q → (b ≡ c) × (p ≡ q)
  pub laser-part-once : (r : laser.Read) (start p q : ℕ × ℕ) (b c : List ℕ) → laser.Part r start b p → laser.Part r start c q → (b ≡ c) × (p ≡ q)
  -- every reply that a promise allows has a right shape and a right check; and a body gets the same answer in RTU and in ASCII
  pub replies-stand : (c : Counters) (site : Site) (words frame room : List ℕ) (n : ℕ) (words' room' : List ℕ) → StationReplies c site words frame room n words' room'
  pub same_body : modbus.SameBody
  -- an error reply and an exception leave every word as it was, in every format; so does every number but 15, and it leaves the room too; 15 leaves the room
  pub errors-leave : stations.ErrorKeeps × mewtocol.ErrorOrGood × modbus.ExceptionKeeps
  pub refusals-leave : (r : Refusal) → RefusalsLeave r
  -- function 08 touches no word; the counters are those of the calls since the last clear, cut at FFFFh, function 08 shows them, and they balance
  pub diagnosis-leaves : modbus.DiagnosisKeeps
  pub counters-told : counters.History × counters.Onward × counters.Shows × counters.Balance
  pub counters-of : counters.Since × counters.Replies × counters.Silences
  pub carried-leaves : (m : Format) (site : Site) (words frame room words' room' : List ℕ)
      → Is (station m site words frame room) CarriedOut words' room' → room' ≡ room
  -- a frame for all does what it would have done at the own station, where that is a write with a good reply, and nothing else
  pub as_own : stations.ToAll
  -- without a profile nothing changes, nor the counters that a call leaves; with one, a register of it that any call wrote is in its range, and one in its
  -- range stays so
  pub profile-kept : profiles.NothingChanges × counters.CountersSame × profiles.StaysInRange × profiles.NeverLeaves
  -- a pair of words is one number, and every number of 32 bits a pair's; what a host writes is read as that number, and it writes just what the profile takes
  pub pairs-back : host_pairs.BitsKept × host_pairs.EveryNumber × host_pairs.ReadBack × host_pairs.WrittenBack × host_pairs.AsTheProfile
  -- it writes every number from -950,000 to 950,000 and no other; the ends, worked
  pub pairs-ends : ((z : ℤ) → host_pairs.RefusedOutside z) × host_pairs.ReadEnds × host_pairs.WrittenEnds
  -- a MEWTOCOL station hears every written request as the request it was made from, 14 is where no text asks for it, and host and station agree, in either
  -- form
  pub host-back : host_writer.ReadBack × host_writer.OnlyThese × host_writer.WritesFrames × host_writer.HeardBack
  pub both-agree : pair.EitherForm × pair.Answers × pair.Agree × pair.HeldWords × pair.HeldContacts
  -- how long a reply and a write are, and what can be asked at the limits of each form
  pub form-lengths : lengths.ReplyLength × lengths.WriteLength × lengths.AtLimits
  -- one to eight contacts are asked for by one list, one of them by RCS and more by RCP; a station answers an RCP with n of 1 as the RCS of its contact
  pub contact-lists : host_writer.OneByRCS × host_writer.MoreByRCP × host_writer.OneToEight
  pub either-command : either.EitherCommand
  -- what is written is read back: laser head frames, Modbus ASCII, numbers and addresses; a distance is below 100,000
  pub laser-back : laser_head.ReadBack
  pub ascii_back : modbus.ReadBack
  pub numbers-back : ThereAndBack register_address register_number × ThereAndBack register_number register_address
      × ThereAndBack coil_address coil_number × ThereAndBack coil_number coil_address
  pub small-distance : laser_head.SmallDistance
  -- a catalogue file is read as what it was written from, and no other bytes are read so; what is filled is what the chain says of each address, and a station
  -- takes it
  pub files-read : catalogue.ReadsBack × catalogue.ReadsOnly × catalogue.ReadsSound
  -- an engine of a larger limit fills alike what one of a smaller takes, and none fills a part of what a file says
  pub files-limits : catalogue.SameMeaning × catalogue.NeverShortened
  pub files-filled : catalogue.FilledByAddress × catalogue.AnyOrder × catalogue.FilledSmall
  -- two frames that meet at no cell may come in either order, in any two formats; that they meet nowhere can be asked; what touches nothing is
  -- refused whatever the words hold; side by side in one word, and meeting; which cells a mask write reads; frames that touch nothing
  pub masters-free : masters.OrderIsFree × masters.NeverIsApart × masters.MayPass
  pub masters-shown : masters_lines.TwoContacts × masters_lines.CoilBesideContact × masters_lines.ReadAndWrite × masters_lines.TwoWrites × masters_lines.TwoMasks
  pub masters-cells : masters_lines.MaskReads × masters_lines.ReadOnly × masters_lines.OutOfRange
  -- the noise report: however its input was cut, and record by record, the numbers are those of the records that were written; four flipped bits at least
  -- for each missed pair; its worked lines
  pub noise-told : noise.CutsDontMatter × noise.StepByStep × noise.ReadsWritten × noise.WrittenIsRead
  pub noise-missed : noise.MissedHasFour × noise.FourForEachMissed × noise_lines.Worked
