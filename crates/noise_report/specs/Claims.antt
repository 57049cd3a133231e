-- What is claimed of the report besides the promises of the functions (RULES Q6, Q7). Each statement is proved in proofs/Claimed. Assumes nothing.
use Rattle.std.specs.Prelude.{true, List, [], ◌∷◌, ◌++◌, ◌≡◌, ℕ, ◌*◌, ◌/◌, ◌%◌, ◌≤◌, length}
use Rattle.text_rooms.specs.Room.{each}
use Rattle.checks_shared.specs.Line.{Bytes, flipped}
use Rattle.noise_report.specs.Records.{Pair, Fine, AllFine, these, limit, reading}
use Rattle.noise_report.specs.Numbers.{is_missed, numbers, report_of, Steps, Outcome, outcome}
use Rattle.noise_report.specs.Heard.{Reader, Starts, Hears, Finishes}
use Rattle.noise_report.specs.declared.Report.{Report}

-- a missed pair has at least four flipped bits
abbrev pub MissedHasFour : Type 0
MissedHasFour = (p : Pair) → Fine p → Bytes p.sent → Bytes p.received → is_missed p ≡ true → 4 ≤ flipped p.sent p.received

-- and so any input has at least four for each that is missed
abbrev pub FourForEachMissed : Type 0
FourForEachMissed = (s : List ℕ) (rs : List Pair) → Bytes s → reading s ≡ these rs → 4 * (report_of rs).missed ≤ (report_of rs).flipped

-- a record as the input has it
abbrev pub written : Pair → List ℕ
written p = length p.sent / 256 ∷ length p.sent % 256 ∷ (p.sent ++ p.received)

abbrev pub all_written : List Pair → List ℕ
all_written = each written

-- what is read are the records that were written, and what was written is read: nothing is taken for something else
abbrev pub ReadsWritten : Type 0
ReadsWritten = (rs : List Pair) → AllFine rs → length rs ≤ limit → reading (all_written rs) ≡ these rs

abbrev pub WrittenIsRead : Type 0
WrittenIsRead = (s : List ℕ) (rs : List Pair) → Bytes s → reading s ≡ these rs → s ≡ all_written rs

-- pieces, one after the other
abbrev pub joined : List (List ℕ) → List ℕ
joined = each (λ p. p)

-- pieces that were heard in order, from a reader and a room to those at the end
pub data Run : Reader → List ℕ → List (List ℕ) → Reader → List ℕ → Type 0 where
  none : {r : Reader} {room : List ℕ} → Run r room [] r room
  more : {r r₁ r₂ : Reader} {room room₁ room₂ : List ℕ} {p : List ℕ} {ps : List (List ℕ)} → Hears r room p r₁ room₁ → Run r₁ room₁ ps r₂ room₂ → Run r room (p ∷ ps) r₂ room₂

-- however an input was cut, what is given at the end is the outcome of the whole
abbrev pub CutsDontMatter : Type 0
CutsDontMatter =
    (ps : List (List ℕ)) (r r₁ : Reader) (room room₁ : List ℕ) (o : Outcome) → 514 ≤ length room
    → Starts r → Run r room ps r₁ room₁ → Finishes r₁ o → o ≡ outcome (reading (joined ps))

-- only one reader has heard nothing
abbrev pub StartsOnce : Type 0
StartsOnce = (r q : Reader) → Starts r → Starts q → r ≡ q

-- records that were counted in order, from a report to the one at the end
pub data Stepped : Report → List Pair → Report → Type 0 where
  none : {r : Report} → Stepped r [] r
  more : {r r₁ r₂ : Report} {p : Pair} {ps : List Pair} → Steps r p r₁ → Stepped r₁ ps r₂ → Stepped r (p ∷ ps) r₂

-- record by record, from zeros on, the numbers of any list are those of the definitions
abbrev pub StepByStep : Type 0
StepByStep = (ps : List Pair) (r : Report) → AllFine ps → length ps ≤ limit → Stepped (numbers 0 0 0 0 0) ps r → r ≡ report_of ps
