-- How long requests and replies are, in any form, and what can be asked at the limits of a form (RULES M9, P9). Proved in proofs/Lengths. Assumes nothing.
use Rattle.std.specs.Prelude.{ℕ, ◌+◌, ◌-◌, ◌*◌, ◌≤◌, ◌≡◌, List, [], true, false, length, replicate}
use Rattle.table_addresses.specs.declared.Area.{Area}
use Rattle.table_registers.specs.Operation as operation
use Rattle.table_registers.specs.declared.Verdict.TheVariants.{Granted}
use Rattle.table_registers.specs.declared.Profile.{Profile}
use Rattle.table_registers.specs.Profile.{verdict}
use Rattle.station.specs.Site.{good}
use Rattle.mewtocol_frame.specs.Frame.{limits_of}
use Rattle.mewtocol_frame.specs.Text.{span}
use Rattle.mewtocol_frame.specs.declared.Form.{Form}
use Rattle.mewtocol_frame.specs.declared.Form.TheVariants.{Ordinary, Expanded}
use Rattle.mewtocol_frame.specs.declared.Limits.{Limits}
use Rattle.mewtocol_requests.specs.Requests.{Request, read_range}
use Rattle.mewtocol_requests.specs.Reading.{faulty, read_text}
use Rattle.mewtocol_station.specs.Replies.{operation_of, reply_of, reply_frame}
use Rattle.mewtocol_asking.specs.Asking.{Asking, asking, ask_text, can_ask}
use Rattle.mewtocol_asking.specs.declared.Ask.TheVariants.{ReadWords, WriteRelays, WriteWords}
use Rattle.mewtocol_writer.specs.Writing.{ask_frame}
use Rattle.theorems_mewtocol.specs.Pair.{decided}

-- the good reply to a read of words has nine characters, and four a word
abbrev pub ReplyLength : Type 0
ReplyLength = (p : Profile) (header own : ℕ) (attributes words : List ℕ) (area : Area) (s e : ℕ) → s ≤ e → let q : Request = read_range area s e in
    decided (verdict p attributes) words q ≡ Granted → length (reply_frame header own (good (reply_of q (operation.shows (operation_of q) words)))) ≡ 9 + 4 * span s e

-- a WD has 20 characters and a WCC 19, and four a word
abbrev pub WriteLength : Type 0
WriteLength = (header to s e : ℕ) (cs vs ws : List ℕ)
    → (length (ask_frame header to (asking (WriteWords s e) cs vs ws)) ≡ 20 + 4 * length ws)
    × (length (ask_frame header to (asking (WriteRelays s e) cs vs ws)) ≡ 19 + 4 * length ws)

-- the first so many words, read and written
abbrev pub read_of : ℕ → Asking
read_of n = asking (ReadWords 0 (n - 1)) [] [] []

abbrev pub write_of : ℕ → Asking
write_of n = asking (WriteWords 0 (n - 1)) [] [] (replicate n 0)

-- as many words as a form allows can be asked for; one more can't, and a station that hears it says 60
pub record AtLimit (l : Limits) : Type 0 where
  pub reads : can_ask l (read_of l.reads) ≡ true
  pub reads-no-more : can_ask l (read_of (l.reads + 1)) ≡ false
  pub reads-60 : read_text l (ask_text (read_of (l.reads + 1))) ≡ faulty 0x60
  pub writes : can_ask l (write_of l.writes) ≡ true
  pub writes-no-more : can_ask l (write_of (l.writes + 1)) ≡ false
  pub writes-60 : read_text l (ask_text (write_of (l.writes + 1))) ≡ faulty 0x60

-- 27 words are answered in 117 characters and 24 written in 116; 509 in 2,045, and 507 in 2,048
pub record AtLimits : Type 0 where
  pub each : (form : Form) → AtLimit (limits_of form)
  pub ordinary-long : (9 + 4 * (limits_of Ordinary).reads ≡ 117) × (20 + 4 * (limits_of Ordinary).writes ≡ 116)
  pub expanded-long : (9 + 4 * (limits_of Expanded).reads ≡ 2045) × (20 + 4 * (limits_of Expanded).writes ≡ 2048)
