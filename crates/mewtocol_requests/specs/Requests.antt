-- What a MEWTOCOL request asks, the letters of its good reply, and the request that numbers make (RULES M7, M21). Assumes nothing.
use Rattle.std.specs.Prelude.{ℕ, List, [], ◌∷◌, map, drop, get_or}
use Rattle.rules.specs.Characters.{letter_c, letter_d, letter_r, letter_s, letter_w}
use Rattle.table_addresses.specs.declared.Area.{Area}
use Rattle.table_addresses.specs.declared.Area.TheVariants.{Relays, Registers}
use Rattle.mewtocol_commands.specs.declared.Kind.{Kind}
use Rattle.mewtocol_commands.specs.declared.Kind.TheVariants.{ReadContacts, WriteContacts, ReadRange, WriteRange, Fill}

-- a contact and the value that it is to have
pub record Setting : Type 0 where
  pub contact : ℕ
  pub value : ℕ

-- contacts are numbers, 16 × relay word + bit; ranges are from start to end; words stand in the order of their addresses
pub data Request : Type 0 where
  read_contacts : List ℕ → Request
  write_contacts : List Setting → Request
  read_range : Area → ℕ → ℕ → Request
  write_range : Area → ℕ → ℕ → List ℕ → Request
  fill : ℕ → ℕ → ℕ → Request

abbrev pub contacts_in : List Setting → List ℕ
contacts_in ss = map (λ (s : Setting). s.contact) ss

abbrev pub values_in : List Setting → List ℕ
values_in ss = map (λ (s : Setting). s.value) ss

-- the contacts that a request names, left to right, and the values that it has for them
abbrev pub contacts_of : Request → List ℕ
contacts_of (read_contacts cs) = cs
contacts_of (write_contacts ss) = contacts_in ss
contacts_of (read_range a s e) = []
contacts_of (write_range a s e ws) = []
contacts_of (fill s e w) = []

abbrev pub values_of : Request → List ℕ
values_of (read_contacts cs) = []
values_of (write_contacts ss) = values_in ss
values_of (read_range a s e) = []
values_of (write_range a s e ws) = []
values_of (fill s e w) = []

-- the area's letter in a name
abbrev pub name_letter : Area → ℕ
name_letter Relays = letter_c
name_letter Registers = letter_d

-- the two letters of a good reply
abbrev pub letters : Request → List ℕ
letters (read_contacts cs) = letter_r ∷ letter_c ∷ []
letters (write_contacts ss) = letter_w ∷ letter_c ∷ []
letters (read_range a s e) = letter_r ∷ name_letter a ∷ []
letters (write_range a s e ws) = letter_w ∷ name_letter a ∷ []
letters (fill s e w) = letter_s ∷ letter_d ∷ []

-- ---- the request that the numbers of a text make

-- a contact, its value, a contact, its value, …
unfoldable pub settings : List ℕ → List Setting
settings [] = []
settings (c ∷ []) = []
settings (c ∷ v ∷ ns) = record { contact = c; value = v } ∷ settings ns

abbrev pub makes : Kind → List ℕ → Request
makes (ReadContacts many) ns = read_contacts ns
makes (WriteContacts many) ns = write_contacts (settings ns)
makes (ReadRange a) ns = read_range a (get_or ns 0 0) (get_or ns 1 0)
makes (WriteRange a) ns = write_range a (get_or ns 0 0) (get_or ns 1 0) (drop 2 ns)
makes Fill ns = fill (get_or ns 0 0) (get_or ns 1 0) (get_or ns 2 0)
