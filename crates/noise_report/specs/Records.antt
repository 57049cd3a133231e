-- A record of what was sent and what arrived, and an input as a list of records, or bad (RULES Q1, Q2). Assumes nothing.
use Rattle.std.specs.Prelude.{Bool, List, [], ◌∷◌, ◌++◌, ◌≡◌, ℕ, zero, suc, ◌+◌, ◌*◌, ◌≤◌, eqb, leb, length, get_or, take, drop}
use Rattle.rules.specs.Choice.{pick, both, between}

-- the sent frame and the received one
pub record Pair : Type 0 where
  pub sent : List ℕ
  pub received : List ℕ

abbrev pub pair_of : List ℕ → List ℕ → Pair
pair_of s r = record { sent = s; received = r }

-- both 4 to 256 bytes long, and as long as each other
pub record Fine (p : Pair) : Type 0 where
  pub least : 4 ≤ length p.sent
  pub most : length p.sent ≤ 256
  pub alike : length p.sent ≡ length p.received

-- every record is
unfoldable pub AllFine : List Pair → Type 0
AllFine [] = Unit {0}
AllFine (p ∷ rs) = Fine p × AllFine rs

-- the two-byte length at the front, high byte first
abbrev pub length_at : List ℕ → ℕ
length_at s = 256 * get_or s 0 0 + get_or s 1 0

-- the bytes that a record takes: its length, and twice as many as that says
abbrev pub size_at : List ℕ → ℕ
size_at s = 2 + (length_at s + length_at s)

-- a whole record, of a length from 4 to 256, stands at the front
unfoldable pub whole : List ℕ → Bool
whole s = both (leb 2 (length s)) (both (between 4 256 (length_at s)) (leb (size_at s) (length s)))

abbrev pub pair_at : List ℕ → Pair
pair_at s = pair_of (take (length_at s) (drop 2 s)) (take (length_at s) (drop (2 + length_at s) s))

-- what an input is
pub data Input : Type 0 where
  these : List Pair → Input
  bad : Input

-- an input with records before it
unfoldable pub after : List Pair → Input → Input
after rs (these qs) = these (rs ++ qs)
after rs bad = bad

-- at most n records, one after the other, to the end; anything else is bad
unfoldable pub at_most : ℕ → List ℕ → Input
at_most zero s = pick (eqb (length s) 0) (these []) bad
at_most (suc n) s =
    pick (eqb (length s) 0) (these [])
    (pick (whole s) (after (pair_at s ∷ []) (at_most n (drop (size_at s) s))) bad)

abbrev pub limit : ℕ
limit = 1000000

-- an input: at most 1,000,000 records
abbrev pub reading : List ℕ → Input
reading = at_most limit
