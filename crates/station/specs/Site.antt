-- Where requests of either protocol arrive: the site, what a request comes to before a table is looked at, and what it leaves. Assumes nothing.
use Rattle.std.specs.Prelude.{ℕ, Bool, true, false, List, ltb}
use Rattle.table_registers.specs.Operation.{Operation, need, shows, words_after, Judge}
use Rattle.table_registers.specs.Profile.{verdict, address_verdict}
use Rattle.table_registers.specs.declared.Profile.{Profile}
use Rattle.table_registers.specs.declared.Verdict.{Verdict}
use Rattle.table_registers.specs.declared.Verdict.TheVariants.{Granted, Lacking, Unfit}

-- what a station is besides its words (RULES N14): as many attributes, what decides whether an operation may be done, and its own number
pub record Site : Type 0 where
  pub attributes : List ℕ
  pub judge : Judge
  pub own : ℕ

-- attributes and a profile decide
abbrev pub site_of : List ℕ → Profile → ℕ → Site
site_of attributes profile own = record { attributes = attributes; judge = verdict profile attributes; own = own }

-- the attributes alone decide, as before there were profiles
abbrev pub plain_site : List ℕ → ℕ → Site
plain_site attributes own = record { attributes = attributes; judge = address_verdict attributes; own = own }

-- ---- what is asked, and what is left

-- an error's number; an operation, and the data of its good reply, made from what the operation shows; or that data alone, and nothing of the table
pub data Asked : Type 0 where
  wrong : ℕ → Asked
  asks : Operation → (List ℕ → List ℕ) → Asked
  tells : List ℕ → Asked

-- whether something is to be written
abbrev pub writes : Asked → Bool
writes (wrong n) = false
writes (asks o reply) = ltb 1 (need o)
writes (tells t) = false

-- what a station says: a good reply's data, or an error's number
pub data Says : Type 0 where
  good : List ℕ → Says
  error : ℕ → Says

abbrev pub is_good : Says → Bool
is_good (good t) = true
is_good (error n) = false

-- what a request leaves
pub record Done : Type 0 where
  pub says : Says
  pub words : List ℕ

-- which error says that a word is lacking: 02 (Modbus), 66 (MEWTOCOL); and which that the profile does not take what would be left: 03, 61
pub record Errors : Type 0 where
  pub address : ℕ
  pub value : ℕ

unfoldable pub said : Errors → List ℕ → Verdict → Says
said e reply Granted = good reply
said e reply (Lacking i) = error e.address
said e reply Unfit = error e.value

-- done whole, with its reply, or refused whole, with its error
unfoldable pub done : Errors → Judge → List ℕ → Asked → Done
done e judge words (wrong n) = record { says = error n; words = words }
done e judge words (asks o reply) = record { says = said e (reply (shows o words)) (judge words o); words = words_after (judge words o) o words }
done e judge words (tells t) = record { says = good t; words = words }
