-- What holds of the writer besides its promise (RULES H1, H2, H5); proved in proofs/ReadBack, OnlyThese, Contacts and Statements. Assumes nothing.
use Rattle.std.specs.Prelude.{ℕ, ◌+◌, ◌≤◌, ◌≡◌, List, [], ◌∷◌, true, length, take}
use Rattle.rules.specs.Choice.{both, between, all_between}
use Rattle.rules.specs.Characters.{digit0, letter_c, letter_p, letter_r, letter_s}
use Rattle.mewtocol_frame.specs.Frame.{Roomy, Framed, for_station}
use Rattle.mewtocol_frame.specs.declared.Limits.{Limits}
use Rattle.mewtocol_commands.specs.declared.Field.TheVariants.{Contact}
use Rattle.mewtocol_commands.specs.Rows.{contact, times}
use Rattle.mewtocol_requests.specs.Reading.{request, read_text}
use Rattle.mewtocol_requests.specs.Hearing.{read_frame}
use Rattle.mewtocol_asking.specs.Asking.{Asking, asking, request_in, characters, filled, ask_text, can_ask}
use Rattle.mewtocol_asking.specs.declared.Ask.{Ask}
use Rattle.mewtocol_asking.specs.declared.Ask.TheVariants.{ReadContacts}
use Rattle.mewtocol_writer.specs.Writing as writing
use Rattle.mewtocol_writer.specs.declared.Written.{Written}
use Rattle.mewtocol_writer.specs.declared.Written.TheVariants.{Frame}

-- steps 1 to 7 read every request that can be written back as the request that it was made from
abbrev pub ReadBack : Type 0
ReadBack =
    (l : Limits) (a : Ask) (cs vs ws : List ℕ) → can_ask l (asking a cs vs ws) ≡ true
    → read_text l (ask_text (asking a cs vs ws)) ≡ request (request_in (asking a cs vs ws))

-- and no text asks for any other: 14 is given exactly where no text passes the steps as that request
abbrev pub OnlyThese : Type 0
OnlyThese =
    (l : Limits) (a : Ask) (cs vs ws text : List ℕ) → read_text l text ≡ request (request_in (asking a cs vs ws)) → can_ask l (asking a cs vs ws) ≡ true

-- ---- contacts, read as a list

-- a list of one goes out as RCS
abbrev pub OneByRCS : Type 0
OneByRCS = (c : ℕ) (vs ws : List ℕ) → ask_text (asking ReadContacts (c ∷ []) vs ws) ≡ letter_r ∷ letter_c ∷ letter_s ∷ letter_r ∷ characters Contact c

-- a longer one as RCP, with how many they are
abbrev pub MoreByRCP : Type 0
MoreByRCP = (cs vs ws : List ℕ) → 2 ≤ length cs
    → ask_text (asking ReadContacts cs vs ws) ≡ letter_r ∷ letter_c ∷ letter_p ∷ (digit0 + length cs) ∷ filled (times (length cs) contact) cs

-- no contact and more than eight can't be asked for, nor one that has no characters; all else can, whatever is named twice
abbrev pub OneToEight : Type 0
OneToEight = (l : Limits) (cs vs ws : List ℕ) → can_ask l (asking ReadContacts cs vs ws) ≡ both (between 1 8 (length cs)) (all_between 0 15999 cs)

-- ---- frames

-- a call of the writer that gives n, whatever it was lent: the room after it
abbrev pub Wrote : Limits → ℕ → Asking → List ℕ → ℕ → List ℕ → Type 0
Wrote l to a room n room' = writing.Is (writing.write l to a room) (Frame n) room'

-- its first n bytes are a frame: 8 characters to the form's longest, its header first, CR last, 20h to 7Eh between, and a right check
abbrev pub WritesFrames : Type 0
WritesFrames = (l : Limits) → Roomy l → (to : ℕ) (a : Ask) (cs vs ws room : List ℕ) (n : ℕ) (room' : List ℕ)
    → Wrote l to (asking a cs vs ws) room n room' → Framed l 8 (take n room')

-- they are for the station that was to hear them, and ask the request
abbrev pub HeardBack : Type 0
HeardBack = (l : Limits) → Roomy l → (to : ℕ) (a : Ask) (cs vs ws room : List ℕ) (n : ℕ) (room' : List ℕ)
    → Wrote l to (asking a cs vs ws) room n room'
    → (for_station to (take n room') ≡ true) × (read_frame l (take n room') ≡ request (request_in (asking a cs vs ws)))

-- ---- one answer only

abbrev pub OneWritten : Type 0
OneWritten = (o : writing.Outcome) (a b : Written) (r s : List ℕ) → writing.Is o a r → writing.Is o b s → (a ≡ b) × (r ≡ s)
