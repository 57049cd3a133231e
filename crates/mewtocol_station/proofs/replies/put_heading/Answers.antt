-- The opening and two letters. Assumes nothing.
use mathlib.Core.Path.{refl, ◌∙◌}
use mathlib.Core.List.{List, [], ◌∷◌, ◌++◌}
use Prim.Native.Nat.{ℕ}
use Rattle.rules.specs.Characters.{dollar}
use Rattle.text_rooms.proofs.Overwrite.{overwrite-next}
use Rattle.text_digits.specs.Digits.{digits_in}
use Rattle.mewtocol_frame.specs.Frame.{opening}
use Rattle.mewtocol_station.proofs.replies.put_heading.Goals as goal

pub returns : goal.returns
unfolding opening digits_in
returns c = let a = c.args in
    let f : List ℕ = opening a.sender.header a.sender.own dollar in
    let r = c.put_byte.ensures ∙ overwrite-next a.room.now f (a.a ∷ []) _ 4 c.put_opening.ensures refl in
    c.put_byte-2.ensures ∙ overwrite-next a.room.now (f ++ (a.a ∷ [])) (a.b ∷ []) _ 5 r refl
