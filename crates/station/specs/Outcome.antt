-- What a station's call gives back, in the numbers of the rules, and what stands in the lent places after it (RULES C1, C2, C4 to
-- C6). Assumes nothing.
use Rattle.std.specs.Prelude.{ℕ, ◌≡◌, List, length}
use Rattle.text_rooms.specs.Room.{overwrite}
use Rattle.station.specs.Site.{Says, Done}
use Rattle.station.specs.declared.Answer.{Answer}
use Rattle.station.specs.declared.Answer.TheVariants.{Reply, CarriedOut, Refused}

-- what a call gives: a reply of n bytes; 15, carried out without a reply; or another number of RULES C2
pub data Returned : Type 0 where
  replied : ℕ → Returned
  carried_out : Returned
  numbered : ℕ → Returned

abbrev pub given : Answer → Returned
given (Reply n) = replied n
given CarriedOut = carried_out
given (Refused r) = numbered r.0

-- what a call gives, and what the words and the room are after it
pub record Outcome : Type 0 where
  pub result : Returned
  pub words : List ℕ
  pub room : List ℕ

-- a number other than 15 returns itself only: table and room stay as before
abbrev pub silent : List ℕ → List ℕ → ℕ → Outcome
silent words room k = record { result = numbered k; words = words; room = room }

-- a reply of n bytes is written to the first n bytes of the room; later bytes stay
abbrev pub sent : List ℕ → List ℕ → List ℕ → Outcome
sent room message words = record { result = replied (length message); words = words; room = overwrite room 0 message }

-- 15: what a frame to all asked is done, and nothing is said
abbrev pub carried : List ℕ → List ℕ → Outcome
carried room words = record { result = carried_out; words = words; room = room }

-- the call's answer, words and room are those of the definition
pub record Is (o : Outcome) (a : Answer) (words room : List ℕ) : Type 0 where
  pub answer-is : given a ≡ o.result
  pub words-is : words ≡ o.words
  pub room-is : room ≡ o.room

-- the message of what was done stands in a room from index at on, r bytes of it, and the rest is as it was; the words are those of what was done
pub record Served (message : Says → List ℕ) (d : Done) (room₀ : List ℕ) (at r : ℕ) (words room₁ : List ℕ) : Type 0 where
  pub size : r ≡ length (message d.says)
  pub room : room₁ ≡ overwrite room₀ at (message d.says)
  pub words-is : words ≡ d.words
