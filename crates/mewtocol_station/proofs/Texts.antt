-- The texts of replies: a front that is closed, and what contacts show. Assumes nothing.
use mathlib.Core.Path.{◌≡◌, refl, sym, ap, ◌∙◌}
use mathlib.Core.List.{List, [], ◌∷◌, ◌++◌, append_assoc, map}
use Prim.Native.Nat.{ℕ, suc, ◌+◌}
use native.Mathlib.Omega.{arith}
use lib.ListN.{length, take}
use Rattle.rules.specs.Characters.{CR, dollar, digit0}
use Rattle.text_rooms.specs.Room.{overwrite, each, Put}
use Rattle.text_rooms.proofs.Overwrite.{overwrite-next}
use Rattle.text_digits.specs.Digits.{digits_in}
use Rattle.checks_xor.specs.Xor.{closing}
use Rattle.table_addresses.specs.Areas.{contact_cell}
use Rattle.table_registers.specs.Bits.{cell_at}
use Rattle.station.specs.Site.{good}
use Rattle.mewtocol_frame.specs.Frame.{opening, sealed}
use Rattle.mewtocol_frame.proofs.Sealed.{sealed-put}
use Rattle.mewtocol_station.specs.Replies.{reply_frame, contacts_text}

-- ---- a front, its check and CR

pub sealed-as : (room front : List ℕ) {n r : ℕ} {room₁ room₂ : List ℕ} → room₁ ≡ overwrite room 0 front → n ≡ length front
    → (r ≡ n + 3) × (room₂ ≡ overwrite room₁ n (closing (take n room₁) CR)) → Put room 0 (sealed front) r room₂
sealed-as room front stands e p = let s = sealed-put room front stands e p in record { size = s.0; room = s.1 }

-- a good reply has six characters before its data
front_length : (header own a b : ℕ) (text : List ℕ) → length (opening header own dollar ++ ((a ∷ b ∷ []) ++ text)) ≡ 6 + length text
unfolding opening digits_in
front_length header own a b text = omega arith

-- a heading, data and a closing make a good reply
pub good-put : (room : List ℕ) (header own a b : ℕ) (text : List ℕ) {n r : ℕ} {room₁ room₂ room₃ : List ℕ}
    → room₁ ≡ overwrite room 0 (opening header own dollar ++ (a ∷ b ∷ [])) → room₂ ≡ overwrite room₁ 6 text → n ≡ 6 + length text
    → (r ≡ n + 3) × (room₃ ≡ overwrite room₂ n (closing (take n room₂) CR)) → Put room 0 (reply_frame header own (good ((a ∷ b ∷ []) ++ text))) r room₃
unfolding reply_frame
good-put room header own a b text {room₁ = room₁} p q e s =
    let h = opening header own dollar ++ (a ∷ b ∷ []) in
    sealed-as room (opening header own dollar ++ ((a ∷ b ∷ []) ++ text))
    (q ∙ overwrite-next room h text room₁ 6 p (sym (front_length header own a b [])) ∙ ap (overwrite room 0) (append_assoc (opening header own dollar) (a ∷ b ∷ []) text))
    (e ∙ sym (front_length header own a b text)) s

-- ---- contacts

abbrev pub contact_text : List ℕ → ℕ → List ℕ
contact_text words c = (digit0 + cell_at words (contact_cell c)) ∷ []

pub contacts-each : (words cs : List ℕ) → each (contact_text words) cs ≡ contacts_text (map (cell_at words) (map contact_cell cs))
unfolding each
contacts-each words [] = refl
contacts-each words (c ∷ cs) = ap (λ (t : List ℕ). (digit0 + cell_at words (contact_cell c)) ∷ t) (contacts-each words cs)

pub contacts-length : (words cs : List ℕ) → length (contacts_text (map (cell_at words) (map contact_cell cs))) ≡ length cs
contacts-length words [] = refl
contacts-length words (c ∷ cs) = ap suc (contacts-length words cs)
