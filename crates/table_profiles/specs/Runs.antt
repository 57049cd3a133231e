-- A write of words as the code is given it: a run of the table, and what it brings. Assumes nothing.
use Rattle.std.specs.Prelude.{ℕ, ◌-◌, Bool, List, leb, ltb, get_or, replicate}
use Rattle.rules.specs.Choice.{both}
use Rattle.table_registers.specs.declared.Profile.{Profile}
use Rattle.table_registers.specs.Operation.{words_of_bytes, words_of_text}
use Rattle.table_registers.specs.Profile.{Row, rows_of, keeps, all_kept}
use Rattle.table_profiles.specs.declared.Data.{Data}
use Rattle.table_profiles.specs.declared.Data.TheVariants.{Bytes, Text, Same}

-- n words: of bytes, of a text, or one for all
abbrev pub brought : Data → ℕ → List ℕ → List ℕ
brought Bytes n s = words_of_bytes n s
brought Text n s = words_of_text n s
brought (Same w) n s = replicate n w

abbrev pub in_run : ℕ → ℕ → ℕ → Bool
in_run start n k = both (leb start k) (ltb (k - start) n)

-- the value that it brings for word k of the table
abbrev pub brings_for : Data → ℕ → ℕ → List ℕ → ℕ → ℕ
brings_for d start n s k = get_or (brought d n s) (k - start) 0

-- a row of a profile, and all of them, over such a write
abbrev pub kept_in : Data → ℕ → ℕ → List ℕ → Row → Bool
kept_in d start n s r = keeps (in_run start n) (brings_for d start n s) r

unfoldable pub run_taken : Profile → Data → ℕ → ℕ → List ℕ → Bool
run_taken p d start n s = all_kept (in_run start n) (brings_for d start n s) (rows_of p)
