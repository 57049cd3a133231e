-- Every reply is a frame: its characters are from 20h to 7Eh, its length follows from what the steps guarantee, its check is its own.
-- Assumes nothing.
use mathlib.Core.List.{List, [], ◌∷◌, ◌++◌, map}
use Prim.Native.Nat.{ℕ, ◌+◌, ◌≤◌}
use native.Mathlib.Omega.{arith}
use lib.ListN.{length, take, drop, length-take}
use Rattle.rules.specs.Characters.{bang, dollar, letter_c, letter_d, letter_r, letter_s, letter_w}
use Rattle.text_digits.specs.Digits.{digits_in}
use Rattle.text_hex.specs.Hex.{hex_byte}
use Rattle.table_addresses.specs.Areas.{contact_cell, word_in}
use Rattle.table_addresses.specs.declared.Area.{Area}
use Rattle.table_addresses.specs.declared.Area.TheVariants.{Relays, Registers}
use Rattle.table_registers.specs.Bits.{cell_at}
use Rattle.table_registers.specs.declared.Verdict.{Verdict}
use Rattle.table_registers.specs.declared.Verdict.TheVariants.{Granted, Lacking, Unfit}
use Rattle.table_registers.specs.Operation.{Judge, shows}
use Rattle.station.specs.Site.{good, error, said, done}
use Rattle.mewtocol_frame.specs.declared.Limits.{Limits}
use Rattle.mewtocol_frame.specs.Frame.{Roomy, Framed}
use Rattle.mewtocol_frame.specs.Text.{span, words_text}
use Rattle.mewtocol_frame.proofs.Sealed.{Plain, plain-none, plain-cons, hex_byte-plain, framed, words_text-length, words_text-plain}
use Rattle.mewtocol_requests.specs.Requests.{Request, read_contacts, write_contacts, read_range, write_range, fill, name_letter}
use Rattle.mewtocol_requests.specs.Reading.{Reading, faulty, request}
use Rattle.mewtocol_requests.specs.Sound.{Sound, Answerable}
use Rattle.mewtocol_station.specs.Replies.{operation_of, contacts_text, reply_of, reply_frame}
use Rattle.mewtocol_station.specs.Station.{errors, reading_asks}
use Rattle.mewtocol_station.proofs.Texts.{contacts-length}

contacts_text-plain : (words cells : List ℕ) → Plain (contacts_text (map (cell_at words) cells))
contacts_text-plain words [] = plain-none
contacts_text-plain words (c ∷ cs) = plain-cons (48 + cell_at words c) _ (omega arith) (omega arith) (contacts_text-plain words cs)

abbrev Letter : ℕ → Type 0
Letter a = (65 ≤ a) × (a ≤ 90)

area-letter : (a : Area) → Letter (name_letter a)
area-letter Relays = (omega arith, omega arith)
area-letter Registers = (omega arith, omega arith)

module _ (l : Limits) (roomy : Roomy l) (own : ℕ) where
  error-framed : (e : ℕ) → Framed l 9 (reply_frame l.header own (error e))
  unfolding reply_frame digits_in
  error-framed e = framed l own bang (hex_byte e) 9 (omega arith) (omega arith) (hex_byte-plain e) (omega arith) (omega (arith, roomy.contacts))

  good-framed : (a b : ℕ) (text : List ℕ) → Letter a → Letter b → Plain text → length text + 9 ≤ l.longest → Framed l 9 (reply_frame l.header own (good ((a ∷ b ∷ []) ++ text)))
  unfolding reply_frame
  good-framed a b text ha hb p most =
      framed l own dollar (a ∷ b ∷ text) 9 (omega arith) (omega arith)
      (plain-cons a _ (omega (arith, ha.0)) (omega (arith, ha.1)) (plain-cons b _ (omega (arith, hb.0)) (omega (arith, hb.1)) p))
      (omega arith) (omega arith)

  -- a write's reply has no data
  bare-framed : (a b : ℕ) → Letter a → Letter b → Framed l 9 (reply_frame l.header own (good ((a ∷ b ∷ []) ++ [])))
  bare-framed a b ha hb = good-framed a b [] ha hb plain-none (omega (arith, roomy.contacts))

  reply-framed : (words : List ℕ) (q : Request) → Sound l q → Framed l 9 (reply_frame l.header own (good (reply_of q (shows (operation_of q) words))))
  unfolding reply_of operation_of shows
  reply-framed words (read_contacts cs) s =
      good-framed letter_r letter_c _ (omega arith, omega arith) (omega arith, omega arith) (contacts_text-plain words (map contact_cell cs)) (omega (arith, contacts-length words cs, s.ordered.most, roomy.contacts))
  reply-framed words (write_contacts ss) s = bare-framed letter_w letter_c (omega arith, omega arith) (omega arith, omega arith)
  reply-framed words (read_range a start end) s =
      let ws : List ℕ = take (span start end) (drop (word_in a start) words) in
      good-framed letter_r (name_letter a) (words_text ws) (omega arith, omega arith) (area-letter a) (words_text-plain ws) (omega (arith, words_text-length ws, length-take (span start end) (drop (word_in a start) words), s.ordered.few, roomy.reads))
  reply-framed words (write_range a start end ws) s = bare-framed letter_w (name_letter a) (omega arith, omega arith) (area-letter a)
  reply-framed words (fill start end w) s = bare-framed letter_s letter_d (omega arith, omega arith) (omega arith, omega arith)

  said-framed : (judge : Judge) (words : List ℕ) (q : Request) (v : Verdict) → Sound l q → Framed l 9 (reply_frame l.header own (said errors (reply_of q (shows (operation_of q) words)) v))
  unfolding said
  said-framed judge words q Granted s = reply-framed words q s
  said-framed judge words q (Lacking i) s = error-framed 0x66
  said-framed judge words q Unfit s = error-framed 0x61

  -- whatever a reading asks, its reply is a frame
  pub reading-framed : (judge : Judge) (words : List ℕ) (r : Reading) → Answerable l r → Framed l 9 (reply_frame l.header own (done errors judge words (reading_asks r)).says)
  unfolding done
  reading-framed judge words (faulty n) h = error-framed n
  reading-framed judge words (request q) h = said-framed judge words q (judge words (operation_of q)) h
