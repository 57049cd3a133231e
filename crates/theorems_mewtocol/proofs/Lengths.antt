-- The lengths are those of the fields; the limits are computed. Assumes nothing.
use mathlib.Core.Path.{◌≡◌, refl, ap, ◌∙◌}
use mathlib.Core.List.{List, [], ◌∷◌, ◌++◌}
use Prim.Native.Nat.{ℕ, ◌*◌}
use native.Mathlib.Omega.{arith}
use lib.ListN.{length, take, drop}
use Rattle.rules.specs.Choice.{between}
use Rattle.rules.specs.Characters.{dollar, hash, letter_r}
use Rattle.text_digits.specs.Digits.{running, digits_in, decimal_value}
use Rattle.text_hex.specs.Hex.{hex_value, hex_digit}
use Rattle.text_hex_words.specs.Words.{low_first, low_first_word}
use Rattle.table_addresses.specs.Areas.{word_in}
use Rattle.table_addresses.specs.declared.Area.TheVariants.{Relays, Registers}
use Rattle.table_registers.specs.Operation as operation
use Rattle.mewtocol_frame.specs.Frame.{limits_of, opening}
use Rattle.mewtocol_frame.specs.declared.Form.{Form}
use Rattle.mewtocol_frame.specs.Text.{span, starts, words_text}
use Rattle.mewtocol_frame.specs.declared.Form.TheVariants.{Ordinary, Expanded}
use Rattle.mewtocol_frame.proofs.Sealed.{sealed-length, words_text-length}
use Rattle.mewtocol_commands.specs.Fields.{letter}
use Rattle.mewtocol_commands.specs.Rows.{times, widths, every, numbers}
use Rattle.mewtocol_requests.specs.Requests.{name_letter, write_range}
use Rattle.mewtocol_commands.specs.Commands.{named, layout, entry, fields_of}
use Rattle.mewtocol_requests.specs.Reading.{read_fields, read_as, read_text}
use Rattle.mewtocol_commands.specs.declared.Command.TheVariants.{WCC, WD}
use Rattle.mewtocol_station.specs.Replies.{operation_of, reply_of, reply_frame}
use Rattle.mewtocol_asking.specs.Asking.{◌for◌, numbers_of, characters, filled, ask_text, fit, can_ask}
use Rattle.mewtocol_writer.specs.Writing.{ask_frame}
use Rattle.mewtocol_writer.proofs.Filled.{filled-length}
use Rattle.mewtocol_writer.proofs.Ways.{four-each, text-length}
use Rattle.theorems_mewtocol.specs.Lengths.{ReplyLength, WriteLength, AtLimit, AtLimits}
use Rattle.theorems_mewtocol.proofs.Data.{run_length}
use Rattle.theorems_mewtocol.proofs.Held.{range-in}

pub reply-length : ReplyLength
unfolding reply_frame reply_of operation_of operation.shows opening digits_in
reply-length p header own us words a s e h granted =
    let ws : List ℕ = take (span s e) (drop (word_in a s) words) in
    let n : length (words_text ws) ≡ 4 * span s e = words_text-length ws ∙ ap (λ (k : ℕ). 4 * k) (run_length words (word_in a s) (span s e) (range-in p words us a s e h granted)) in
    omega (arith, n, sealed-length (opening header own dollar ++ ((letter_r ∷ name_letter a ∷ []) ++ words_text ws)))

pub write-length : WriteLength
unfolding ask_frame opening digits_in widths
write-length header to s e cs vs ws =
    let d = write_range Registers s e ws in
    let r = write_range Relays s e ws in
    let words = filled-length (fields_of (layout (entry WD).kind) (length ws)) (numbers_of d) in
    let relays = filled-length (fields_of (layout (entry WCC).kind) (length ws)) (numbers_of r) in (
      omega (arith, text-length WD d, words, four-each (length ws), sealed-length (opening header to hash ++ ask_text (WD for d))),
      omega (arith, text-length WCC r, relays, four-each (length ws), sealed-length (opening header to hash ++ ask_text (WCC for r))),
    )

each : (form : Form) → AtLimit (limits_of form)
unfolding can_ask fit ask_text filled characters read_text read_as read_fields named times widths every numbers letter starts hex_value hex_digit low_first low_first_word running digits_in decimal_value between
each Ordinary = record { reads = refl; reads-no-more = refl; reads-60 = refl; writes = refl; writes-no-more = refl; writes-60 = refl }
each Expanded = record { reads = refl; reads-no-more = refl; reads-60 = refl; writes = refl; writes-no-more = refl; writes-60 = refl }

pub at-limits : AtLimits
at-limits = record { each = each; ordinary-long = (refl, refl); expanded-long = (refl, refl) }
