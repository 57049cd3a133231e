-- The parts of the text after a command's name, and steps 1 to 7 in their order, each over the whole text before the next (RULES M10 to M17).
-- Assumes nothing.
use Rattle.std.specs.Prelude.{ℕ, ◌+◌, ◌-◌, Bool, List, [], ◌∷◌, eqb, leb, ltb, length, get_or, drop}
use Rattle.rules.specs.Choice.{between}
use Rattle.rules.specs.Characters.{digit0}
use Rattle.rules.specs.Tests.{Test, ◌unless◌}
use Rattle.mewtocol_frame.specs.declared.Limits.{Limits}
use Rattle.mewtocol_frame.specs.Text.{span}
use Rattle.mewtocol_commands.specs.declared.Kind.{Kind}
use Rattle.mewtocol_commands.specs.declared.Field.{Field}
use Rattle.mewtocol_commands.specs.Rows.{widths, every, numbers}
use Rattle.mewtocol_commands.specs.Commands.{Layout, once, counted, with_words, layout, row_in, fields_of, good_range}
use Rattle.mewtocol_steps.specs.declared.MewtocolError.{MewtocolError}
use Rattle.mewtocol_steps.specs.declared.MewtocolError.TheVariants.{Check, Format, Command, Parameter, Data, Address}
use Rattle.mewtocol_steps.specs.declared.Passed.{Passed}
use Rattle.mewtocol_steps.specs.declared.Passed.TheVariants.{Fine, Wrong}

-- ---- the parts of a text

-- n of a counted list, and what follows it
abbrev pub count_in : Layout → List ℕ → ℕ
count_in (once r) t = 0
count_in (counted r) t = get_or t 0 0 - digit0
count_in (with_words r) t = 0

abbrev pub after_count : Layout → List ℕ → List ℕ
after_count (once r) t = t
after_count (counted r) t = drop 1 t
after_count (with_words r) t = t

-- the part whose length is known is there; except where words follow, nothing else does
abbrev pub is_there : Layout → ℕ → List ℕ → Bool
is_there (once r) n t = eqb (length t) (widths r)
is_there (counted r) n t = eqb (length t) (widths (fields_of (counted r) n))
is_there (with_words r) n t = leb (widths r) (length t)

-- start and end, where the text names a range
abbrev pub start_in : Layout → List ℕ → ℕ
start_in y t = get_or (numbers (row_in y) t) 0 0

abbrev pub end_in : Layout → List ℕ → ℕ
end_in y t = get_or (numbers (row_in y) t) 1 0

-- how many contacts or words are listed: n, or a word for each of the range
abbrev pub listed : Layout → ℕ → ℕ → ℕ → ℕ
listed (once r) n start end = n
listed (counted r) n start end = n
listed (with_words r) n start end = span start end

-- all its fields
abbrev pub all_fields : Layout → ℕ → List ℕ → List Field
all_fields y n t = fields_of y (listed y n (start_in y t) (end_in y t))

-- ---- the steps

-- 1: n is there, and is `1` to `8`
abbrev pub count_tests : Layout → List ℕ → List Test
count_tests (once r) t = []
count_tests (counted r) t = (0x41 unless ltb 0 (length t)) ∷ (0x60 unless between (digit0 + 1) (digit0 + 8) (get_or t 0 0)) ∷ []
count_tests (with_words r) t = []

-- 2 to 7: all is there; letters; numbers; the range; its data; the data's characters
abbrev pub field_tests : Limits → Kind → ℕ → List ℕ → List Test
field_tests l k n t =
    (0x41 unless is_there (layout k) n t)
    ∷ (0x60 unless every 3 (fields_of (layout k) n) t)
    ∷ (0x41 unless every 4 (fields_of (layout k) n) t)
    ∷ (0x60 unless good_range l k (start_in (layout k) t) (end_in (layout k) t))
    ∷ (0x41 unless eqb (length t) (widths (all_fields (layout k) n t)))
    ∷ (0x61 unless every 7 (all_fields (layout k) n t) t)
    ∷ []

-- what they come to: the number of the first that fails, or a start and an end
pub data Outcome : Type 0 where
  wrong : ℕ → Outcome
  range : ℕ → ℕ → Outcome

-- where none fails, those that the text names
abbrev pub fine : Kind → List ℕ → Outcome
fine k t = range (start_in (layout k) t) (end_in (layout k) t)

-- ---- what the code's values say

abbrev pub number : MewtocolError → ℕ
number Check = 0x40
number Format = 0x41
number Command = 0x42
number Parameter = 0x60
number Data = 0x61
number Address = 0x66

abbrev pub says : Passed → Outcome
says (Fine start end) = range start end
says (Wrong e) = wrong (number e)
