-- What the code's asking says. Assumes nothing.
use Rattle.std.specs.Prelude.{ℕ, ◌+◌, List, [], ◌∷◌}
use Rattle.rules.specs.Choice.{pick}
use Rattle.mewtocol_commands.specs.declared.Kind.{Kind}
use Rattle.mewtocol_commands.specs.declared.Kind.TheVariants.{ReadContacts, WriteContacts, ReadRange, WriteRange, Fill}
use Rattle.mewtocol_requests.specs.Requests.{Request, read_contacts, write_contacts, read_range, write_range, fill}
use Rattle.mewtocol_commands.specs.Commands.{entry}
use Rattle.mewtocol_asking.specs.Asking.{Asking, ◌for◌, settings_of, numbers_of, says}
use Rattle.mewtocol_commands.specs.declared.Field.{Field}
use Rattle.mewtocol_asking.specs.declared.Asking as code

-- how many numbers a row says
unfoldable pub says_all : List Field → ℕ
says_all [] = 0
says_all (f ∷ fs) = says f + says_all fs

-- the request of a kind that has up to three numbers of its own: contact and value, or start, end and word; contacts that are read stand in a list
abbrev pub request_for : Kind → ℕ → ℕ → ℕ → List ℕ → List ℕ → List ℕ → Request
request_for (ReadContacts many) a b c cs vs ws = read_contacts cs
request_for (WriteContacts many) a b c cs vs ws = write_contacts (pick many (settings_of cs vs) (record { contact = a; value = b } ∷ []))
request_for (ReadRange area) a b c cs vs ws = read_range area a b
request_for (WriteRange area) a b c cs vs ws = write_range area a b ws
request_for Fill a b c cs vs ws = fill a b c

-- the request of an asking, and it with its command, where any lists stand beside it
abbrev pub request_with : code.Asking → List ℕ → List ℕ → List ℕ → Request
request_with k cs vs ws = request_for (entry k.command).kind k.first k.second k.third cs vs ws

abbrev pub asking_with : code.Asking → List ℕ → List ℕ → List ℕ → Asking
asking_with k cs vs ws = k.command for (request_with k cs vs ws)

-- and where its own do
abbrev pub request_of : code.Asking → Request
request_of k = request_with k k.contacts.now k.values.now k.words.now

abbrev pub asking_of : code.Asking → Asking
asking_of k = asking_with k k.contacts.now k.values.now k.words.now

abbrev pub numbers_for : code.Asking → List ℕ
numbers_for k = numbers_of (request_of k)
