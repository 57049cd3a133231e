-- Rows of fields: how wide they are, a step over a whole text, and the numbers that a text says (RULES M6, M7). Assumes nothing.
use Rattle.std.specs.Prelude.{ℕ, zero, suc, ◌+◌, List, [], ◌∷◌, ◌++◌, Bool, true, drop, eqb}
use Rattle.rules.specs.Choice.{pick, both}
use Rattle.table_addresses.specs.declared.Area.{Area}
use Rattle.table_addresses.specs.declared.Area.TheVariants.{Relays, Registers}
use Rattle.mewtocol_commands.specs.Fields.{width, step_of, right, amount}
use Rattle.mewtocol_commands.specs.declared.Field.{Field}
use Rattle.mewtocol_commands.specs.declared.Field.TheVariants.{LetterR, LetterD, Relay, Register, Contact, Value}
use Rattle.mewtocol_commands.specs.declared.Found.{Found}
use Rattle.mewtocol_commands.specs.declared.Found.TheVariants.{Nothing, One, Two}

abbrev pub contact : List Field
contact = LetterR ∷ Contact ∷ []

abbrev pub setting : List Field
setting = LetterR ∷ Contact ∷ Value ∷ []

-- a range from start to end, in the numbers of its area
abbrev pub range_in : Area → List Field
range_in Relays = LetterR ∷ Relay ∷ Relay ∷ []
range_in Registers = LetterD ∷ Register ∷ Register ∷ []

unfoldable pub times : ℕ → List Field → List Field
times zero u = []
times (suc k) u = u ++ times k u

-- what is said k times, each as many characters after the one before
unfoldable pub repeated : {A : Type 0} → ℕ → ℕ → (List ℕ → A) → List ℕ → List A
repeated zero w g t = []
repeated (suc k) w g t = g t ∷ repeated k w g (drop w t)

-- how many characters a row has
unfoldable pub widths : List Field → ℕ
widths [] = 0
widths (f ∷ fs) = width f + widths fs

-- a step wants its own fields right and passes over the others
abbrev pub passing : ℕ → Field → List ℕ → Bool
passing step f t = pick (eqb step (step_of f)) (right f t) true

-- and over a whole text
unfoldable pub every : ℕ → List Field → List ℕ → Bool
every step [] t = true
every step (f ∷ fs) t = both (passing step f t) (every step fs (drop (width f) t))

abbrev pub is_letter : Field → Bool
is_letter f = eqb (step_of f) 3

-- the numbers that a text says
unfoldable pub numbers : List Field → List ℕ → List ℕ
numbers [] t = []
numbers (f ∷ fs) t = pick (is_letter f) (numbers fs (drop (width f) t)) (amount f t ∷ numbers fs (drop (width f) t))

-- the first two numbers, as far as they were met, and one more; a third is passed over
abbrev pub also : Found → ℕ → Found
also Nothing v = One v
also (One a) v = Two a v
also (Two a b) v = Two a b
