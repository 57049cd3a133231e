-- The nine commands as one table, and what the text after the name of each kind is: its fields, and its range (RULES M6, M7, M12 to M17).
-- Assumes nothing.
use Rattle.std.specs.Prelude.{ℕ, Bool, true, false, List, [], ◌∷◌, ◌++◌, leb}
use Rattle.rules.specs.Choice.{pick}
use Rattle.rules.specs.Characters.{letter_c, letter_d, letter_p, letter_r, letter_s, letter_w}
use Rattle.table_addresses.specs.declared.Area.TheVariants.{Relays, Registers}
use Rattle.mewtocol_frame.specs.declared.Limits.{Limits}
use Rattle.mewtocol_frame.specs.Text.{up_to, starts}
use Rattle.mewtocol_commands.specs.declared.Command.{Command}
use Rattle.mewtocol_commands.specs.declared.Command.TheVariants.{RCS, RCP, RCC, WCS, WCP, WCC, RD, WD, SD}
use Rattle.mewtocol_commands.specs.declared.Named.{Named}
use Rattle.mewtocol_commands.specs.declared.Named.TheVariants.{Is, Unknown}
use Rattle.mewtocol_commands.specs.declared.Kind.{Kind}
use Rattle.mewtocol_commands.specs.declared.Kind.TheVariants.{ReadContacts, WriteContacts, ReadRange, WriteRange, Fill}
use Rattle.mewtocol_commands.specs.declared.Field.{Field}
use Rattle.mewtocol_commands.specs.declared.Field.TheVariants.{Word}
use Rattle.mewtocol_commands.specs.Rows.{contact, setting, range_in, times}

-- ---- the table

pub record Entry : Type 0 where
  pub name : List ℕ
  pub kind : Kind

abbrev pub row : List ℕ → Kind → Entry
row name kind = record { name = name; kind = kind }

-- contacts are named once, or counted
abbrev pub entry : Command → Entry
entry RCS = row (letter_r ∷ letter_c ∷ letter_s ∷ []) (ReadContacts false)
entry RCP = row (letter_r ∷ letter_c ∷ letter_p ∷ []) (ReadContacts true)
entry RCC = row (letter_r ∷ letter_c ∷ letter_c ∷ []) (ReadRange Relays)
entry WCS = row (letter_w ∷ letter_c ∷ letter_s ∷ []) (WriteContacts false)
entry WCP = row (letter_w ∷ letter_c ∷ letter_p ∷ []) (WriteContacts true)
entry WCC = row (letter_w ∷ letter_c ∷ letter_c ∷ []) (WriteRange Relays)
entry RD = row (letter_r ∷ letter_d ∷ []) (ReadRange Registers)
entry WD = row (letter_w ∷ letter_d ∷ []) (WriteRange Registers)
entry SD = row (letter_s ∷ letter_d ∷ []) Fill

abbrev pub commands : List Command
commands = RCS ∷ RCP ∷ RCC ∷ WCS ∷ WCP ∷ WCC ∷ RD ∷ WD ∷ SD ∷ []

-- the first of some commands whose name the text begins with
unfoldable pub named : List Command → List ℕ → Named
named [] b = Unknown
named (c ∷ cs) b = pick (starts (entry c).name b) (Is c) (named cs b)

-- ---- the text after the name

-- a row of fields; n, and the row n times; or the row, and a word for each of its range
pub data Layout : Type 0 where
  once : List Field → Layout
  counted : List Field → Layout
  with_words : List Field → Layout

abbrev pub layout : Kind → Layout
layout (ReadContacts many) = pick many (counted contact) (once contact)
layout (WriteContacts many) = pick many (counted setting) (once setting)
layout (ReadRange a) = once (range_in a)
layout (WriteRange a) = with_words (range_in a)
layout Fill = once (range_in Registers ++ (Word ∷ []))

abbrev pub row_in : Layout → List Field
row_in (once r) = r
row_in (counted r) = r
row_in (with_words r) = r

-- its fields, where n contacts or words are listed
abbrev pub fields_of : Layout → ℕ → List Field
fields_of (once r) n = r
fields_of (counted r) n = times n r
fields_of (with_words r) n = r ++ times n (Word ∷ [])

-- ---- its range

-- step 5: no range, start ≤ end and so many words at most, or start ≤ end alone
abbrev pub good_range : Limits → Kind → ℕ → ℕ → Bool
good_range l (ReadContacts many) start end = true
good_range l (WriteContacts many) start end = true
good_range l (ReadRange a) start end = up_to l.reads start end
good_range l (WriteRange a) start end = up_to l.writes start end
good_range l Fill start end = leb start end
