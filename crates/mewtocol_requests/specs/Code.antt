-- What the code's values say: a request whose lists stand beside it, and what was read. Assumes nothing.
use Rattle.std.specs.Prelude.{ℕ, ◌-◌, ◌*◌, ◌≡◌, List, [], ◌∷◌, length, drop, get_or}
use Rattle.text_rooms.specs.Room.{overwrite}
use Rattle.mewtocol_frame.specs.Text.{span}
use Rattle.mewtocol_commands.specs.declared.Field.TheVariants.{Word}
use Rattle.mewtocol_requests.specs.declared.Request as code-request
use Rattle.mewtocol_requests.specs.declared.Request.TheVariants.{ReadContacts, WriteContacts, ReadRange, WriteRange, Fill}
use Rattle.mewtocol_requests.specs.declared.Reading as code-reading
use Rattle.mewtocol_requests.specs.declared.Reading.TheVariants.{Faulty, Asks}
use Rattle.mewtocol_commands.specs.Rows.{times, repeated, numbers}
use Rattle.mewtocol_steps.specs.Steps.{number}
use Rattle.mewtocol_requests.specs.Requests.{Setting, Request, read_contacts, write_contacts, read_range, write_range, fill, contacts_of, values_of}
use Rattle.mewtocol_requests.specs.Reading.{Reading, faulty, request}

-- each contact with its value
unfoldable pub paired : List ℕ → List ℕ → List Setting
paired [] vs = []
paired (c ∷ cs) vs = record { contact = c; value = get_or vs 0 0 } ∷ paired cs (drop 1 vs)

-- the first n of some places, 0 where there are fewer
abbrev pub front : ℕ → List ℕ → List ℕ
front n xs = repeated n 1 (λ (s : List ℕ). get_or s 0 0) xs

-- a request, with the places that its contacts and values stand in and what finds its words, so many of them
abbrev pub request_of : code-request.Request → List ℕ → List ℕ → (ℕ → List ℕ) → Request
request_of (ReadContacts n) contacts values words = read_contacts (front n contacts)
request_of (WriteContacts n) contacts values words = write_contacts (paired (front n contacts) values)
request_of (ReadRange a s e) contacts values words = read_range a s e
request_of (WriteRange a s e) contacts values words = write_range a s e (words (span s e))
request_of (Fill s e w) contacts values words = fill s e w

-- a text's last n words, four characters each
abbrev pub data_in : ℕ → List ℕ → List ℕ
data_in n t = drop (length t - 4 * n) t

unfoldable pub words_in : List ℕ → ℕ → List ℕ
words_in t n = numbers (times n (Word ∷ [])) (data_in n t)

abbrev pub reading_of : code-reading.Reading → List ℕ → List ℕ → List ℕ → Reading
reading_of (Faulty e) contacts values t = faulty (number e)
reading_of (Asks q) contacts values t = request (request_of q contacts values (words_in t))

-- ---- the lists of what was read

abbrev pub contacts_read : Reading → List ℕ
contacts_read (faulty e) = []
contacts_read (request q) = contacts_of q

abbrev pub values_read : Reading → List ℕ
values_read (faulty e) = []
values_read (request q) = values_of q

-- an answer says what was read, of every text that ends with this one; the contacts and the values of it stand at the start of the places
-- lent for them, and all else is as it was
pub record ReadsAs (o : Reading) (t : List ℕ) (r : code-reading.Reading) (contacts values contacts' values' : List ℕ) : Type 0 where
  pub says : (k : ℕ) (b : List ℕ) → drop k b ≡ t → reading_of r contacts' values' b ≡ o
  pub contacts-are : contacts' ≡ overwrite contacts 0 (contacts_read o)
  pub values-are : values' ≡ overwrite values 0 (values_read o)
