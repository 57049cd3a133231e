-- What a word of a command line means, and which station a text names. Assumes nothing.
use Rattle.std.specs.Prelude.{ℕ, Bool, true, false, List, [], ◌∷◌, length, get_or, eqb, Option, Some, None}
use Rattle.rules.specs.Choice.{pick, same_bytes}
use Rattle.tools_typed.specs.Typed.{with_typed, number_up_to}
use Rattle.tools_options.specs.declared.Word.{Word}
use Rattle.tools_options.specs.declared.Word.TheVariants.{Operand, Help, Version, Ending, Letter}

abbrev pub dash : ℕ
dash = 45

-- `--help`
abbrev pub help : List ℕ
help = dash ∷ dash ∷ 104 ∷ 101 ∷ 108 ∷ 112 ∷ []

-- `--version`
abbrev pub version : List ℕ
version = dash ∷ dash ∷ 118 ∷ 101 ∷ 114 ∷ 115 ∷ 105 ∷ 111 ∷ 110 ∷ []

-- `--`
abbrev pub ending : List ℕ
ending = dash ∷ dash ∷ []

-- with a dash in front, and more than that
unfoldable pub is_option : List ℕ → Bool
is_option s = pick (eqb (get_or s 0 0) dash) (pick (eqb (length s) 1) false true) false

-- the letter of a setting stands behind its dash
unfoldable pub meaning : List ℕ → Word
meaning s =
    pick (is_option s)
    (pick (same_bytes s help) Help
    (pick (same_bytes s version) Version
    (pick (same_bytes s ending) Ending
    (Letter (get_or s 1 0)))))
    Operand

-- 1 to 247
unfoldable pub station : List ℕ → Option ℕ
station s = with_typed (number_up_to false 247 s) (λ n. pick (eqb n 0) None (Some n)) None
