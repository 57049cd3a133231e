-- What a reader has heard of an input that comes in pieces (RULES Q6). Assumes nothing.
use Rattle.std.specs.Prelude.{List, [], ◌++◌, ◌≡◌, ℕ, ◌+◌, ◌-◌, ◌≤◌, ◌<◌, length, take, Result, Ok, Err}
use Rattle.noise_report.specs.Records.{Pair, AllFine, length_at, size_at, bad, after, at_most, limit, reading}
use Rattle.noise_report.specs.Numbers.{report_of, Outcome, outcome}
use Rattle.noise_report.specs.declared.Progress.{Progress}
use Rattle.noise_report.specs.declared.BadInput.{BadInput}

-- a `Reader`, since antt has no name for an alias
abbrev pub Reader : Type 0
Reader = Result Progress BadInput

-- s is the records rs, and then q: whatever comes next comes after these
pub record Between (s : List ℕ) (rs : List Pair) (q : List ℕ) : Type 0 where
  pub fine : AllFine rs
  pub few : length rs ≤ limit
  pub next : (t : List ℕ) → reading (s ++ t) ≡ after rs (at_most (limit - length rs) (q ++ t))

-- a part of a record, from which it can't be told that the input is bad: less than its length, or a length that may be and not all of its frames
pub data Part (p : List ℕ) : Type 0 where
  short : length p < 2 → Part p
  begun : 2 ≤ length p → 4 ≤ length_at p → length_at p ≤ 256 → length p < size_at p → Part p

-- whole records, whose report stands in the progress, and a part of one, which stands at the front of the room, are what s is
pub record Goes (s : List ℕ) (p : Progress) (room : List ℕ) : Type 0 where
  pub within : p.have ≤ length room
  pub records : List Pair
  pub report_is : p.report ≡ report_of records
  pub between : Between s records (take p.have room)
  pub begun_is : Part (take p.have room)

-- a reader and its room have heard s: it goes on from there, or is bad whatever comes
abbrev pub Heard : List ℕ → Reader → List ℕ → Type 0
Heard s (Ok p) room = Goes s p room
Heard s (Err _) room = (t : List ℕ) → reading (s ++ t) ≡ bad

-- no more than a record's length, or than the record
abbrev pub Within : List ℕ → Type 0
Within q = 2 < length q → length q ≤ size_at q

-- k bytes after a part of a record are at most what is lacking: of its length, and once that is there of its frames
pub record UpTo (p : List ℕ) (k : ℕ) : Type 0 where
  pub first : length p < 2 → length p + k ≤ 2
  pub frames : 2 ≤ length p → length p < size_at p → length p + k ≤ size_at p

-- what `start` promises of the reader that it gives: in any room it has heard nothing
abbrev pub Starts : Reader → Type 0
Starts r = (room : List ℕ) → Heard [] r room

-- what `hear` promises of a piece: what was heard before it, and the piece, has been heard
pub record Hears (r : Reader) (room piece : List ℕ) (r₁ : Reader) (room₁ : List ℕ) : Type 0 where
  pub heard : 514 ≤ length room → (s : List ℕ) → Heard s r room → Heard (s ++ piece) r₁ room₁
  pub kept : length room₁ ≡ length room

-- what `finish` promises: the outcome of the input that was heard
abbrev pub Finishes : Reader → Outcome → Type 0
Finishes r o = (s room : List ℕ) → Heard s r room → o ≡ outcome (reading s)
