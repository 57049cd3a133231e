-- The operation that a request comes to, and its good reply (RULES M18, M20 to M22). Assumes nothing.
use Rattle.std.specs.Prelude.{ℕ, ◌+◌, List, [], ◌++◌, map}
use Rattle.rules.specs.Characters.{bang, dollar, digit0}
use Rattle.text_hex.specs.Hex.{hex_byte}
use Rattle.table_addresses.specs.Areas.{word_in, contact_cell}
use Rattle.table_registers.specs.Bits.{on_of}
use Rattle.table_registers.specs.Operation.{Operation, read_words, read_bits, write_words, fill_words, write_bits}
use Rattle.station.specs.Site.{Says, good, error}
use Rattle.mewtocol_frame.specs.Frame.{opening, sealed}
use Rattle.mewtocol_frame.specs.Text.{span, words_text}
use Rattle.mewtocol_requests.specs.Requests.{Request, read_contacts, write_contacts, read_range, write_range, fill, contacts_in, values_in, letters}

-- the operation on the table; contacts and relay words go to the relay words only
unfoldable pub operation_of : Request → Operation
operation_of (read_contacts cs) = read_bits (map contact_cell cs)
operation_of (write_contacts ss) = write_bits (map contact_cell (contacts_in ss)) (map on_of (values_in ss))
operation_of (read_range a s e) = read_words a (word_in a s) (span s e)
operation_of (write_range a s e ws) = write_words a (word_in a s) ws
operation_of (fill s e w) = fill_words s (span s e) w

-- a contact is `0` or `1`
abbrev pub contacts_text : List ℕ → List ℕ
contacts_text bits = map (λ (b : ℕ). digit0 + b) bits

-- the data of a good reply, from what the operation shows: that of a read
abbrev pub data_text : Request → List ℕ → List ℕ
data_text (read_contacts cs) shown = contacts_text shown
data_text (write_contacts ss) shown = []
data_text (read_range a s e) shown = words_text shown
data_text (write_range a s e ws) shown = []
data_text (fill s e w) shown = []

unfoldable pub reply_of : Request → List ℕ → List ℕ
reply_of q shown = letters q ++ data_text q shown

-- header, station, `$` and data or `!` and the number; check, CR
unfoldable pub reply_frame : ℕ → ℕ → Says → List ℕ
reply_frame header own (good t) = sealed (opening header own dollar ++ t)
reply_frame header own (error e) = sealed (opening header own bang ++ hex_byte e)
