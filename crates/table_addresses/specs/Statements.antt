-- What holds of the conversions and of the names of a cell; proved in proofs/Conversions. Assumes nothing.
use Rattle.std.specs.Prelude.{ℕ, ◌+◌, ◌*◌, ◌≤◌, ◌<◌, [], ◌∷◌, ◌≡◌}
use Rattle.rules.specs.Given.{Given, gives}
use Rattle.text_digits.specs.declared.Number.TheVariants.{Value}
use Rattle.table_addresses.specs.Catalogue.{coil_address}
use Rattle.table_addresses.specs.Cells.{contact_of}
use Rattle.table_addresses.specs.Areas.{cell, first_wr, first_coil, first_relay, last_relay, relay_word, contact_cell, coil_cell}

-- what one way gives, the other way gives back
abbrev pub ThereAndBack : (ℕ → Given) → (ℕ → Given) → Type 0
ThereAndBack there back = (x y : ℕ) → there x ≡ gives y → back y ≡ gives x

-- bit b of relay word 100 + i has one cell, whether its word is named, or the bit as a contact or as a coil: all 96
abbrev pub OneCell : Type 0
OneCell = (i b : ℕ) → i < 6 → b < 16
    → (cell (relay_word (first_wr + i)) b ≡ cell (first_relay + i) b)
    × (contact_cell (cell (first_wr + i) b) ≡ cell (first_relay + i) b)
    × (coil_cell (first_coil + 16 * i + b) ≡ cell (first_relay + i) b)
    × (first_relay + i ≤ last_relay)

-- the three names of one bit: coil number 000209, contact R1030, bit 0 of word 133
pub record ThreeNames : Type 0 where
  pub coil : coil_address 209 ≡ gives 208
  pub contact : contact_of (49 ∷ 48 ∷ 51 ∷ 48 ∷ []) ≡ Value 1648
  pub one_cell : (coil_cell 208 ≡ cell 133 0) × (contact_cell 1648 ≡ cell 133 0)
