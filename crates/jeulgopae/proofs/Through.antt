-- Each exported function's promise is that of the engine's entry: what is given says which answer it was. Assumes nothing.
use mathlib.Core.Path.{◌≡◌, refl, sym, ap, ◌∙◌}
use mathlib.Core.Bool.{true, false}
use mathlib.Core.List.{List, [], ◌∷◌}
use Prim.Native.Nat.{ℕ}
use lib.IntN.{ℤ}
use lib.ListN.{length}
use Rattle.rules.specs.Given.{Given, gives, refused}
use Rattle.rules.specs.Tests.{Test, ◌unless◌, first}
use Rattle.checks_bit_count.specs.Differing as count
use Rattle.checks_bit_count.specs.declared.BitCount.TheVariants as bits
use Rattle.table_addresses.specs.Catalogue.{table_limit, register_address, register_number, coil_address, coil_number, given_at, given_is, given_coil_at, given_coil_is}
use Rattle.table_addresses.specs.declared.RegisterAt.TheVariants as at
use Rattle.table_addresses.specs.declared.RegisterIs.TheVariants as is
use Rattle.table_addresses.specs.declared.CoilAt.TheVariants as coil_at
use Rattle.table_addresses.specs.declared.CoilIs.TheVariants as coil_is
use Rattle.station.specs.Outcome as station
use Rattle.station.specs.declared.Answer.TheVariants as answered
use Rattle.mewtocol_frame.specs.Frame.{limits_of}
use Rattle.mewtocol_asking.specs.Asking.{asking}
use Rattle.mewtocol_writer.specs.Writing as writing
use Rattle.mewtocol_writer.specs.declared.Written.TheVariants as request
use Rattle.mewtocol_reader.specs.Replies as replies
use Rattle.mewtocol_reader.specs.declared.Reply.{Reply}
use Rattle.mewtocol_reader.specs.declared.Reply.TheVariants as reply
use Rattle.mewtocol_reader.proofs.Shows.{shown}
use Rattle.laser.specs.Frame as laser
use Rattle.laser.specs.declared.Reading.{Reading}
use Rattle.laser.specs.declared.Reading.TheVariants as reading
use Rattle.laser.specs.declared.Written.TheVariants as frame
use Rattle.laser.specs.declared.Distance.TheVariants as distance
use Rattle.catalogue_format.specs.Format.{read_file, items_of}
use Rattle.catalogue_files.specs.Refusals as files
use Rattle.catalogue_files.specs.declared.Filled.TheVariants as filled
use Rattle.host_pairs.specs.Pairs as pairs
use Rattle.host_pairs.specs.declared.Halves.TheVariants as halves
use Rattle.jeulgopae.specs.Codes.{low_code, high_code}
use Rattle.jeulgopae_codes.specs.Codes.{code, distance_code, answer_code, reply_code, laser_code}
use Rattle.jeulgopae.specs.Statements.{Through, EnginePromises}

-- an answer that says this
abbrev Says : {A B : Type 0} → (A → B) → B → Type 0
Says {A} given d = (x : A) × (given x ≡ d)

-- it has the number of what it says
through : {A B : Type 0} (given : A → B) (layout : B → ℤ) (d : B) → Says given d → Through given layout d
through given layout d s r e = (s.0, (s.1, e ∙ ap layout (sym s.1)))

-- ---- an answer for whatever is given

answer : (g : station.Returned) → Says station.given g
answer (station.replied n) = (answered.Reply n, refl)
answer station.carried_out = (answered.CarriedOut, refl)
answer (station.numbered k) = (answered.Refused (record { 0 = k }), refl)

written : (g : Given) → Says writing.given g
written (gives n) = (request.Frame n, refl)
written (refused k) = (request.Refused (record { 0 = k }), refl)

frame-written : (g : Given) → Says laser.given_written g
frame-written (gives n) = (frame.Frame n, refl)
frame-written (refused k) = (frame.Refused (record { 0 = k }), refl)

distance-of : (t : laser.Told) → Says laser.given_distance t
distance-of (laser.measures n) = (distance.Hundredths n, refl)
distance-of (laser.unasked p) = (distance.NotAsked p, refl)
distance-of (laser.declined k) = (distance.Refused (record { 0 = k }), refl)

register-at : (g : Given) → Says given_at g
register-at (gives n) = (at.Address (record { 0 = n }), refl)
register-at (refused k) = (at.Refused (record { 0 = k }), refl)

register-is : (g : Given) → Says given_is g
register-is (gives n) = (is.Number (record { 0 = n }), refl)
register-is (refused k) = (is.Refused (record { 0 = k }), refl)

coil-at : (g : Given) → Says given_coil_at g
coil-at (gives n) = (coil_at.Address (record { 0 = n }), refl)
coil-at (refused k) = (coil_at.Refused (record { 0 = k }), refl)

coil-is : (g : Given) → Says given_coil_is g
coil-is (gives n) = (coil_is.Number (record { 0 = n }), refl)
coil-is (refused k) = (coil_is.Refused (record { 0 = k }), refl)

bits_are : (g : Given) → Says count.given g
bits_are (gives n) = (bits.Bits n, refl)
bits_are (refused k) = (bits.Refused (record { 0 = k }), refl)

halves_are : (s : pairs.Split) → Says pairs.given s
halves_are (pairs.words low high) = (halves.Words low high, refl)
halves_are (pairs.refused k) = (halves.Refused (record { 0 = k }), refl)

-- a filling's number is 0 or one of its tests'
tested : (lent bytes : List ℕ) (ts : List Test) → Says files.given (first (files.left lent) ts (files.done bytes)).number
tested lent bytes [] = (filled.Done, refl)
tested lent bytes ((k unless true) ∷ ts) = tested lent bytes ts
tested lent bytes ((k unless false) ∷ ts) = (filled.Refused (record { 0 = k }), refl)

fill-of : (file asked lent : List ℕ) → Says files.given (files.outcome file asked lent).number
unfolding files.outcome_up_to
fill-of file asked lent =
    let r = read_file file in
    tested lent (files.filled asked (items_of r) (length lent)) (files.tests table_limit r asked (length lent))

-- ---- and for whatever is read

reply-of : (f : List ℕ) (r : replies.Read) → ((t : List ℕ) → r ≡ replies.shows t → t ≡ replies.data_of f) → Says (λ (x : Reply). replies.read_of x f) r
reply-of f (replies.refused k) h = (reply.Refused (record { 0 = k }), refl)
reply-of f (replies.unasked p) h = (reply.NotAsked p, refl)
reply-of f (replies.error e) h = (reply.Error e, refl)
reply-of f (replies.shows t) h = (reply.Shows, ap replies.shows (sym (h t refl)))

reading-of : (r : laser.Read) → Says (λ (x : Reading). laser.given x (laser.bytes_of r)) r
reading-of (laser.frame a b d) = (reading.Frame a b, refl)
reading-of (laser.none k) = (reading.Refused (record { 0 = k }), refl)

pub engine-promises : EnginePromises
engine-promises = record {
  station = λ o r words room p. let s = answer o.result in (s.0, (record { answer-is = s.1; words-is = p.words-is; room-is = p.room-is }, p.number_is ∙ ap answer_code (sym s.1)));
  modbus-station = λ o c r words room counters p.
      let s = answer o.result in
      let st = p.stands in (
        record { answer = s.0; counters = c },
        (
          record { outcome = record { answer-is = s.1; words-is = st.words-is; room-is = st.room-is }; counters-are = refl },
          st.number_is ∙ ap answer_code (sym s.1),
          p.counters-are,
        ),
      );
  writer = λ o r room p. let s = written o.number in (s.0, (record { answer-is = s.1; room-is = p.room-is }, p.number_is ∙ ap code (sym s.1)));
  laser-writer = λ o r room p. let s = frame-written o.number in (s.0, (record { answer-is = s.1; room-is = p.room-is }, p.number_is ∙ ap code (sym s.1)));
  filling = λ file asked lent r attributes p.
      let s = fill-of file asked lent in
      (s.0, (record { number_is = s.1; bytes-is = p.attributes-is }, p.number_is ∙ ap code (sym s.1)));
  reader = λ form station a cs vs ws f.
      let r = replies.read (limits_of form) station (asking a cs vs ws) f in
      through (λ (x : Reply). replies.read_of x f) reply_code r (reply-of f r (λ t e. (shown (limits_of form) station (asking a cs vs ws) f t e).1));
  laser-reader = λ f. through (λ (x : Reading). laser.given x (laser.bytes_of (laser.read f))) laser_code (laser.read f) (reading-of (laser.read f));
  distance = λ f. through laser.given_distance distance_code (laser.distance_of f) (distance-of (laser.distance_of f));
  register-address = λ x. through given_at code (register_address x) (register-at (register_address x));
  register-number = λ x. through given_is code (register_number x) (register-is (register_number x));
  coil-address = λ x. through given_coil_at code (coil_address x) (coil-at (coil_address x));
  coil-number = λ x. through given_coil_is code (coil_number x) (coil-is (coil_number x));
  bits-differing = λ f g. through count.given code (count.bit_count f g) (bits_are (count.bit_count f g));
  pair-low = λ z. through pairs.given low_code (pairs.pair_words z) (halves_are (pairs.pair_words z));
  pair-high = λ z. through pairs.given high_code (pairs.pair_words z) (halves_are (pairs.pair_words z));
}
