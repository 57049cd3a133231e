-- The MEWTOCOL writer: a row of tests in their order, and the frame (RULES H3, H4, M7). Assumes nothing.
use Rattle.std.specs.Prelude.{ℕ, ◌+◌, ◌≤◌, ◌≡◌, true, List, ◌∷◌, ◌++◌, leb, length}
use Rattle.rules.specs.Choice.{between}
use Rattle.rules.specs.Characters.{hash}
use Rattle.rules.specs.Given.{Given, gives, refused}
use Rattle.rules.specs.Tests.{◌unless◌, first}
use Rattle.text_rooms.specs.Room.{overwrite}
use Rattle.mewtocol_frame.specs.Frame.{highest, opening, sealed}
use Rattle.mewtocol_frame.specs.declared.Limits.{Limits}
use Rattle.mewtocol_asking.specs.Asking.{Asking, ◌for◌, listed_by, numbers_of, fit, count_text, filled, ask_text, ask_tests}
use Rattle.mewtocol_commands.specs.Commands.{entry, Layout, once, counted, with_words, layout, fields_of}
use Rattle.mewtocol_writer.specs.declared.Written.{Written}
use Rattle.mewtocol_writer.specs.declared.Written.TheVariants.{Frame, Refused}

-- what it gives, and what stands in the room after it
pub record Outcome : Type 0 where
  pub number : Given
  pub room : List ℕ

abbrev pub left : ℕ → List ℕ → Outcome
left k room = record { number = refused k; room = room }

abbrev pub sent : List ℕ → List ℕ → Outcome
sent m room = record { number = gives (length m); room = overwrite room 0 m }

-- header, station, `#`, the text, its check and CR
unfoldable pub ask_frame : ℕ → ℕ → Asking → List ℕ
ask_frame header to a = sealed (opening header to hash ++ ask_text a)

-- the room is that of the form's longest frame
unfoldable pub write : Limits → ℕ → Asking → List ℕ → Outcome
write l to a room =
    first (λ (k : ℕ). left k room) ((2 unless between 1 highest to) ∷ (3 unless leb l.longest (length room)) ∷ ask_tests l a)
    (sent (ask_frame l.header to a) room)

abbrev pub given : Written → Given
given (Frame n) = gives n
given (Refused r) = refused r.0

pub record Is (o : Outcome) (w : Written) (room : List ℕ) : Type 0 where
  pub answer-is : given w ≡ o.number
  pub room-is : room ≡ o.room

-- a text stands in a room from an index on, the rest is as it was, and the index after it is given
pub record Puts (at : ℕ) (text room₀ : List ℕ) (r : ℕ) (room₁ : List ℕ) : Type 0 where
  pub after : r ≡ at + length text
  pub room : room₁ ≡ overwrite room₀ at text

-- ---- what the parts of a text ask for

abbrev pub body_text : Layout → ℕ → List ℕ → List ℕ
body_text y n ns = count_text y n ++ filled (fields_of y n) ns

-- so many contacts or words can be written
abbrev pub Countable : Layout → ℕ → Type 0
Countable (once r) n = Unit
Countable (counted r) n = n ≤ 8
Countable (with_words r) n = n ≤ 4294967296

abbrev pub Askable : Asking → Type 0
Askable (c for q) = Countable (layout (entry c).kind) (listed_by q) × (fit (fields_of (layout (entry c).kind) (listed_by q)) (numbers_of q) ≡ true)
