-- Three writes, one after the other, are one. Assumes nothing.
use mathlib.Core.Path.{refl, ◌∙◌}
use mathlib.Core.List.{List, [], ◌∷◌, ◌++◌}
use Prim.Native.Nat.{ℕ}
use Rattle.text_rooms.proofs.Overwrite.{overwrite-next}
use Rattle.text_digits.specs.Digits.{digits_in, decimals}
use Rattle.mewtocol_frame.specs.Frame.{opening}
use Rattle.mewtocol_frame.proofs.frame.put_opening.Goals as goal

pub returns : goal.returns
unfolding opening digits_in
returns c =
    let a = c.args in
    let f : List ℕ = a.header ∷ [] in
    let r = c.put_decimal.ensures ∙ overwrite-next a.room.now f (decimals 2 a.station) _ 1 c.put_byte.ensures refl in
    c.put_byte-2.ensures ∙ overwrite-next a.room.now (f ++ decimals 2 a.station) (a.mark ∷ []) _ 3 r refl
