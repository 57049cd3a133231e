-- The statements of specs/RightAnswers, most of them shown in the crates that they speak of. Assumes nothing.
use mathlib.Core.Path.{sym, ◌∙◌}
use Rattle.checks_bit_count.proofs.OneAnswer as count
use Rattle.table_addresses.proofs.Conversions as addresses
use Rattle.station.proofs.Held as stations
use Rattle.theorems_counters.proofs.Counted as counters
use Rattle.theorems_modbus.proofs.Replies as replies
use Rattle.theorems_modbus.proofs.SameBody as bodies
use Rattle.mewtocol_station.proofs.Errors as errors
use Rattle.mewtocol_writer.proofs.ReadBack as back
use Rattle.mewtocol_writer.proofs.OnlyThese as only
use Rattle.mewtocol_writer.proofs.Contacts as contacts
use Rattle.mewtocol_writer.proofs.Statements as host_writer
use Rattle.mewtocol_reader.proofs.Places as host_places
use Rattle.mewtocol_reader.proofs.Statements as host_reader
use Rattle.theorems_profiles.proofs.Kept as profiles
use Rattle.host_pairs.proofs.ThereAndBack as host_pairs
use Rattle.host_pairs.proofs.WorkedPairs as worked_pairs
use Rattle.theorems_mewtocol.proofs.Agree as pair
use Rattle.theorems_mewtocol.proofs.Lengths as lengths
use Rattle.theorems_mewtocol.proofs.Held as held
use Rattle.theorems_mewtocol.proofs.Either as either
use Rattle.laser.proofs.WrittenFrames as laser_frames
use Rattle.laser.proofs.Distances as distances
use Rattle.laser.proofs.OneAnswer as laser
use Rattle.laser.proofs.Places as laser_places
use Rattle.catalogue_files.proofs.OneAnswer as filling
use Rattle.catalogue_files.proofs.Written as written
use Rattle.theorems_masters.proofs.Orders as orders
use Rattle.theorems_masters.proofs.Never as never
use Rattle.theorems_masters.proofs.Passing as passing
use Rattle.theorems_masters.proofs.Examples as masters_lines
use Rattle.noise_report.proofs.Claimed as noise
use Rattle.noise_report.proofs.Worked as noise_lines
use Rattle.catalogue_files.proofs.Unique as unique
use Rattle.catalogue_files.proofs.Small as small
use Rattle.catalogue_files.proofs.ByAddress as addressed
use Rattle.catalogue_files.proofs.Limits as limits
use Rattle.claims.specs.RightAnswers.{RightAnswers}
use Rattle.claims.proofs.Called.{station-replies, refusals-leave, carried-leaves}

pub right-answers : RightAnswers
right-answers = record {
  stations-once = stations.one_answer;
  calls-once = λ o c r s w v x y p q.
      let e = stations.one_answer o r.answer s.answer w v x y p.outcome q.outcome in
      ((λ i. record { answer = e.0 i; counters = (p.counters-are ∙ sym q.counters-are) i }), e.1, e.2);
  host-once = (host_writer.one_written, host_reader.one-read);
  writer-once = laser.one_written;
  reader-once = λ part x. laser.one-reading x part;
  distance-once = laser.one-distance;
  reply-place = host_places.wrong-place;
  distance-place = laser_places.wrong-place;
  conversions-once = (addresses.one-register-address, addresses.one-register-number, addresses.one-coil-address, addresses.one-coil-number);
  count-once = λ x a b. count.one_answer a b x;
  pair-once = host_pairs.one-pair;
  reply-part-once = λ r start p q b c x y. (x.bytes-are ∙ sym y.bytes-are, x.place_is ∙ sym y.place_is);
  laser-part-once = λ r start p q b c x y. (x.bytes-are ∙ sym y.bytes-are, x.place_is ∙ sym y.place_is);
  replies-stand = station-replies;
  same_body = bodies.same_body;
  errors-leave = (stations.error-keeps, errors.error-or-good, replies.exception-keeps);
  refusals-leave = refusals-leave;
  diagnosis-leaves = replies.diagnosis-keeps;
  counters-told = (counters.counters-are, counters.onward, counters.shows, counters.balance);
  counters-of = (counters.since, counters.replies, counters.silences);
  carried-leaves = carried-leaves;
  as_own = stations.to-all;
  host-back = (back.read_back, only.only-these, host_writer.writes-frames, host_writer.heard-back);
  profile-kept = (profiles.nothing-changes, counters.counters-same, profiles.stays-in-range, profiles.never-leaves);
  pairs-back = (host_pairs.bits-kept, host_pairs.every-number, host_pairs.read_back, host_pairs.written_back, host_pairs.as-the-profile);
  pairs-ends = (host_pairs.refused-outside, worked_pairs.read-ends, worked_pairs.written-ends);
  both-agree = (pair.either-form, pair.answers, pair.agree, held.held-words, held.held-contacts);
  form-lengths = (lengths.reply-length, lengths.write-length, lengths.at-limits);
  contact-lists = (contacts.one-by-rcs, contacts.more-by-rcp, contacts.one-to-eight);
  either-command = either.either-command;
  laser-back = laser_frames.read_back;
  ascii_back = bodies.read_back;
  numbers-back = (addresses.register-there-and-back, addresses.address-there-and-back, addresses.coil-there-and-back, addresses.coil-address-there-and-back);
  small-distance = distances.small-distance;
  filling-once = filling.one_answer;
  files-read = (written.file-reads-back, unique.reads_only, small.reads-sound);
  files-limits = (limits.same-meaning, limits.never-shortened);
  files-filled = (addressed.by_address, addressed.any_order, small.filled-small);
  masters-free = (orders.order-is-free, never.never-is-apart, passing.may-pass);
  masters-shown = (masters_lines.two-contacts, masters_lines.coil-beside-contact, masters_lines.read-and-write, masters_lines.two-writes, masters_lines.two-masks);
  masters-cells = (masters_lines.mask-reads, masters_lines.read_only, masters_lines.out_of_range);
  noise-told = (noise.cuts-dont-matter, noise.step-by-step, noise.reads-written, noise.written-is-read);
  noise-missed = (noise.missed-has-four, noise.four-for-each-missed, noise_lines.worked);
}
