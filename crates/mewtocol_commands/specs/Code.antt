-- What the code's values say: rows, layouts and entries of the table, and what a look at a row tells. Assumes nothing.
use Rattle.std.specs.Prelude.{ℕ, List, [], ◌∷◌, ◌≡◌, eqb, take, get_or}
use Rattle.rules.specs.Choice.{pick, both}
use Rattle.mewtocol_commands.specs.declared.Field.{Field}
use Rattle.mewtocol_commands.specs.declared.Row.{Row}
use Rattle.mewtocol_commands.specs.declared.Name as code-name
use Rattle.mewtocol_commands.specs.declared.Entry as code-entry
use Rattle.mewtocol_commands.specs.declared.Layout as code-layout
use Rattle.mewtocol_commands.specs.declared.Layout.TheVariants.{Once, Counted, WithWords}
use Rattle.mewtocol_commands.specs.declared.Found.{Found}
use Rattle.mewtocol_commands.specs.declared.Found.TheVariants.{Nothing, One, Two}
use Rattle.mewtocol_commands.specs.declared.Seen.{Seen}
use Rattle.mewtocol_commands.specs.Fields.{amount}
use Rattle.mewtocol_commands.specs.Rows.{passing, every, is_letter, numbers, also}
use Rattle.mewtocol_commands.specs.Commands.{Entry, Layout, once, counted, with_words}

-- two letters, and a third where there is one
abbrev pub name_of : code-name.Name → List ℕ
name_of n = n.0 ∷ n.1 ∷ pick (eqb n.2 0) [] (n.2 ∷ [])

abbrev pub entry_of : code-entry.Entry → Entry
entry_of e = record { name = name_of e.name; kind = e.kind }

abbrev pub row_of : Row → List Field
row_of r = take r.size r.fields

abbrev pub layout_of : code-layout.Layout → Layout
layout_of (Once r) = once (row_of r)
layout_of (Counted r) = counted (row_of r)
layout_of (WithWords r) = with_words (row_of r)

-- number j that the text of a row says
abbrev pub number_in : ℕ → List Field → List ℕ → ℕ
number_in j r t = get_or (numbers r t) j 0

-- ---- one look at a text

abbrev pub found_of : Found → List ℕ
found_of Nothing = []
found_of (One a) = a ∷ []
found_of (Two a b) = a ∷ b ∷ []

-- what was seen, and one field more
pub record Onward (seen : Seen) (f : Field) (s : List ℕ) (r : Seen) : Type 0 where
  pub letters : r.letters ≡ both seen.letters (passing 3 f s)
  pub digits : r.digits ≡ both seen.digits (passing 4 f s)
  pub values : r.values ≡ both seen.values (passing 7 f s)
  pub found : r.found ≡ pick (is_letter f) seen.found (also seen.found (amount f s))

-- a look at some fields tells steps 3, 4 and 7 over them, and their first two numbers
pub record Looks (fs : List Field) (t : List ℕ) (r : Seen) : Type 0 where
  pub letters : r.letters ≡ every 3 fs t
  pub digits : r.digits ≡ every 4 fs t
  pub values : r.values ≡ every 7 fs t
  pub found : found_of r.found ≡ take 2 (numbers fs t)
