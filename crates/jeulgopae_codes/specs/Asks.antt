-- What a C caller asks, by the numbers of its profile, its form and its command (include/jeulgopae.h, "profiles" and "MEWTOCOL host"). Assumes nothing.
use Rattle.std.specs.Prelude.{ℕ, ◌≤◌, false, List, ◌⊎◌, ◌≡◌, eqb, leb}
use Rattle.rules.specs.Choice.{pick}
use Rattle.table_registers.specs.declared.Profile.TheVariants.{Free, HlG2}
use Rattle.jeulgopae_codes.specs.declared.asks.Chosen.{Chosen}
use Rattle.jeulgopae_codes.specs.declared.asks.Chosen.TheVariants.{Named, Unknown}
use Rattle.mewtocol_frame.specs.declared.Form.{Form}
use Rattle.mewtocol_frame.specs.declared.Form.TheVariants.{Ordinary, Expanded}
use Rattle.mewtocol_frame.specs.declared.Limits.{Limits}
use Rattle.mewtocol_asking.specs.Asking.{asking, can_ask}
use Rattle.mewtocol_asking.specs.declared.Ask.{Ask}
use Rattle.mewtocol_asking.specs.declared.Ask.TheVariants.{ReadContacts, ReadRelays, ReadWords}
use Rattle.mewtocol_asking.specs.declared.Ask.TheVariants.{WriteContact, WriteContacts, WriteRelays, WriteWords, FillWords}

-- the profile of a number (RULES F7): 0 is none, 1 the HL-G2, 50 mm type
unfoldable pub profile_of : ℕ → Chosen
profile_of n = pick (eqb n 0) (Named Free) (pick (eqb n 1) (Named HlG2) Unknown)

-- and no other number names one; proved in proofs/AskNothing
abbrev pub OtherProfilesAreNone : Type 0
OtherProfilesAreNone = (n : ℕ) → 2 ≤ n → profile_of n ≡ Unknown

-- the form of a number (RULES F3): 1 is the expanded one
unfoldable pub form_of : ℕ → Form
form_of n = pick (eqb n 1) Expanded Ordinary

-- a number that is no form asks for nothing, as command 0 does
unfoldable pub command_in : ℕ → ℕ → ℕ
command_in form command = pick (leb form 1) command 0

-- the eight ways of asking in the order of the rules (RULES F3); any other number asks for the words from 1 to 0, which is no range: it is no request, 14
unfoldable pub ask_of : ℕ → ℕ → ℕ → ℕ → Ask
ask_of command first second value =
    pick (eqb command 1) ReadContacts
    (pick (eqb command 2) (ReadRelays first second)
    (pick (eqb command 3) (WriteContact first value)
    (pick (eqb command 4) WriteContacts
    (pick (eqb command 5) (WriteRelays first second)
    (pick (eqb command 6) (ReadWords first second)
    (pick (eqb command 7) (WriteWords first second)
    (pick (eqb command 8) (FillWords first second value)
    (ReadWords 1 0))))))))

-- so 0, and every number from 9 on, asks for what can't be a request, whatever stands beside it; proved in proofs/AskNothing
abbrev pub OthersAskNothing : Type 0
OthersAskNothing = (l : Limits) (command first second value : ℕ) (cs vs ws : List ℕ) → (command ≡ 0) ⊎ (9 ≤ command)
    → can_ask l (asking (ask_of command first second value) cs vs ws) ≡ false

-- and so does every form from 2 on, whatever the command
abbrev pub OtherFormsAskNothing : Type 0
OtherFormsAskNothing = (l : Limits) (form command first second value : ℕ) (cs vs ws : List ℕ) → 2 ≤ form
    → can_ask l (asking (ask_of (command_in form command) first second value) cs vs ws) ≡ false
