-- The example of specs/Pair, computed. Assumes nothing.
use mathlib.Core.Path.{refl}
use Rattle.rules.specs.Choice.{between, all_between, first_not}
use Rattle.text_rooms.specs.Room.{overwrite, each}
use Rattle.text_digits.specs.Digits.{running, digits_in, decimal_value}
use Rattle.text_hex.specs.Hex.{hex_value, hex_digit, all_hex}
use Rattle.text_hex_words.specs.Words.{low_first, low_first_word}
use Rattle.checks_shared.specs.Fold.{fold}
use Rattle.checks_shared.specs.Right.{same, closed_by}
use Rattle.table_registers.specs.Table.{grants, allows, up_from, checked}
use Rattle.table_registers.specs.Operation as operation
use Rattle.table_registers.specs.Operation.{address_check, words_after}
use Rattle.table_registers.specs.Profile.{takes}
use Rattle.station.specs.Site.{said, done}
use Rattle.station.specs.Station.{received, station}
use Rattle.mewtocol_frame.specs.declared.Form.TheVariants.{Ordinary}
use Rattle.mewtocol_frame.specs.Frame.{form_in, good_shape, for_station, opening, sealed}
use Rattle.mewtocol_frame.specs.Text.{starts}
use Rattle.mewtocol_commands.specs.Fields.{letter}
use Rattle.mewtocol_commands.specs.Rows.{times, widths, every, numbers}
use Rattle.mewtocol_commands.specs.Commands.{named}
use Rattle.mewtocol_requests.specs.Reading.{read_fields, read_as, read_text}
use Rattle.mewtocol_requests.specs.Hearing as hearing
use Rattle.mewtocol_station.specs.Replies.{operation_of, reply_of, reply_frame}
use Rattle.mewtocol_station.specs.Station.{whom_in}
use Rattle.mewtocol_asking.specs.Asking.{characters, filled, ask_text, fit, can_ask}
use Rattle.mewtocol_writer.specs.Writing.{ask_frame}
use Rattle.mewtocol_reader.specs.Replies.{data_size, data_in, reply_in, form_reply, read_frame, read}
use Rattle.theorems_mewtocol.specs.Pair.{word_one, Example}
use Rattle.theorems_mewtocol.proofs.Agree.{either-form}

pub example : Example
unfolding can_ask fit ask_frame ask_text filled characters hearing.read_frame read_text read_as read_fields named times widths every numbers letter starts good_shape whom_in for_station opening sealed station received said done operation_of reply_of reply_frame operation.shows operation.after words_after address_check checked allows grants up_from takes read read_frame form_reply form_in reply_in data_in data_size first_not overwrite each all_hex hex_value hex_digit low_first low_first_word running digits_in decimal_value fold same closed_by between all_between
example = record {
  in-form = either-form Ordinary word_one refl;
  heard-as = refl;
  ready = refl;
  replies = refl;
  taken = refl;
  granted = refl;
  relays = (refl, refl);
  contacts = (refl, refl);
}
