-- The opening and the number's two characters, closed. Assumes nothing.
use mathlib.Core.Path.{◌≡◌, refl, ap, ◌∙◌}
use mathlib.Core.List.{List, [], ◌∷◌, ◌++◌, append_assoc}
use Prim.Native.Nat.{ℕ}
use lib.ListN.{length}
use Rattle.rules.specs.Characters.{bang}
use Rattle.text_rooms.specs.Room.{overwrite}
use Rattle.text_rooms.proofs.Overwrite.{overwrite-next}
use Rattle.text_digits.specs.Digits.{digits_in}
use Rattle.text_hex.specs.Hex.{hex_byte}
use Rattle.mewtocol_frame.specs.Frame.{opening}
use Rattle.mewtocol_steps.specs.Steps.{number}
use Rattle.mewtocol_station.specs.Replies.{reply_frame}
use Rattle.mewtocol_station.proofs.Texts.{sealed-as}
use Rattle.mewtocol_station.proofs.replies.refuse.Goals as goal

-- an error reply has six characters before its check, and four before its number
six : (header own e : ℕ) → 6 ≡ length (opening header own bang ++ hex_byte e)
unfolding opening digits_in
six header own e = refl

joined : (f : List ℕ) (x y : ℕ) (t : List ℕ) → x ∷ y ∷ [] ≡ t → f ++ (x ∷ []) ++ (y ∷ []) ≡ f ++ t
joined f x y t e = append_assoc f (x ∷ []) (y ∷ []) ∙ ap (λ (l : List ℕ). f ++ l) e

pub returns : goal.returns
unfolding reply_frame opening digits_in
returns c = let a = c.args in
    let x = c.characters-digits.result.0 in
    let y = c.characters-digits.result.1 in
    let f : List ℕ = opening a.sender.header a.sender.own bang in
    let r = c.put_byte.ensures ∙ overwrite-next a.room.now f (x ∷ []) _ 4 c.put_opening.ensures refl in
    let s = c.put_byte-2.ensures ∙ overwrite-next a.room.now (f ++ (x ∷ [])) (y ∷ []) _ 5 r refl in
    sealed-as a.room.now (f ++ hex_byte (number a.e)) (s ∙ ap (overwrite a.room.now 0) (joined f x y (hex_byte (number a.e)) c.characters-digits.ensures)) (six a.sender.header a.sender.own (number a.e)) c.put_xor.ensures
