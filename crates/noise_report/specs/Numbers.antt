-- The five numbers of a list of records (RULES Q3, Q4). Assumes nothing.
use Rattle.std.specs.Prelude.{Bool, not, List, [], ◌∷◌, ◌++◌, ◌≡◌, ℕ, ◌+◌, ◌≤◌, ◌<◌, length, Result, Ok, Err}
use Rattle.rules.specs.Choice.{pick, both}
use Rattle.checks_shared.specs.Line.{flipped}
use Rattle.checks_shared.specs.Right.{same}
use Rattle.checks_crc.specs.Crc.{right_crc}
use Rattle.noise_report.specs.Records.{Pair, Fine, AllFine, Input, these, bad, limit}
use Rattle.noise_report.specs.declared.Report.{Report}
use Rattle.noise_report.specs.declared.BadInput.{BadInput}

-- the sum of a number of each record
unfoldable pub sum : (Pair → ℕ) → List Pair → ℕ
sum f [] = 0
sum f (p ∷ rs) = f p + sum f rs

-- 1 where the test holds
abbrev pub one : Bool → ℕ
one t = pick t 1 0

-- the sent frame has a wrong CRC: such a record counts in pairs and as faulty, and nowhere else
abbrev pub is_faulty : Pair → Bool
is_faulty p = not (right_crc p.sent)

-- the received CRC is wrong
abbrev pub is_refused : Pair → Bool
is_refused p = both (right_crc p.sent) (not (right_crc p.received))

-- received differs, and its CRC is right
abbrev pub is_missed : Pair → Bool
is_missed p = both (right_crc p.sent) (both (not (same p.sent p.received)) (right_crc p.received))

-- the differing bits
abbrev pub flips : Pair → ℕ
flips p = pick (right_crc p.sent) (flipped p.sent p.received) 0

-- pairs, faulty, flipped, refused, missed
abbrev pub numbers : ℕ → ℕ → ℕ → ℕ → ℕ → Report
numbers p f l r m = record { pairs = p; faulty = f; flipped = l; refused = r; missed = m }

abbrev pub report_of : List Pair → Report
report_of rs =
    numbers (length rs) (sum (λ p. one (is_faulty p)) rs) (sum flips rs) (sum (λ p. one (is_refused p)) rs) (sum (λ p. one (is_missed p)) rs)

-- no number is above that of 1,000,000 records of 2,048 bits
pub record Small (r : Report) : Type 0 where
  pub pairs : r.pairs ≤ 2048000000
  pub faulty : r.faulty ≤ 2048000000
  pub flipped : r.flipped ≤ 2048000000
  pub refused : r.refused ≤ 2048000000
  pub missed : r.missed ≤ 2048000000

-- number by number
abbrev pub sum_of : Report → Report → Report
sum_of a b =
    numbers (a.pairs + b.pairs) (a.faulty + b.faulty) (a.flipped + b.flipped) (a.refused + b.refused) (a.missed + b.missed)

-- what `step` promises of a record: of the report of any list of fewer than 1,000,000, the report of the list with this one more
abbrev pub Steps : Report → Pair → Report → Type 0
Steps r p r₁ = (rs : List Pair) → AllFine rs → length rs < limit → r ≡ report_of rs → Fine p → r₁ ≡ report_of (rs ++ (p ∷ []))

-- an `Outcome`, since antt has no name for an alias
abbrev pub Outcome : Type 0
Outcome = Result Report BadInput

-- what is printed of an input
abbrev pub outcome : Input → Outcome
outcome (these rs) = Ok (report_of rs)
outcome bad = Err (record {})
