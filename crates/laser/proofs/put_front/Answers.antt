-- Five writes, one after the other, are one. Assumes nothing.
use mathlib.Core.Path.{refl, ◌∙◌}
use mathlib.Core.List.{List, [], ◌∷◌, ◌++◌}
use Prim.Native.Nat.{ℕ}
use native.Mathlib.Omega.{arith}
use lib.ListN.{length}
use Rattle.rules.specs.Characters.{slash}
use Rattle.text_rooms.proofs.Overwrite.{overwrite-next}
use Rattle.text_digits.specs.Digits.{digits_in, decimals}
use Rattle.laser.proofs.put_front.Goals as goal

pub returns : goal.returns
unfolding digits_in
returns c =
    let room = c.args.room.now in
    let d = c.args.bytes.now in
    let a = c.args.first in
    let b = c.args.second in
    let f1 : List ℕ = slash ∷ [] in
    let f2 = f1 ++ decimals 2 (length d) in
    let f3 = f2 ++ (a ∷ []) in
    let r2 = c.put_decimal.ensures ∙ overwrite-next room f1 (decimals 2 (length d)) _ 1 c.put_byte.ensures refl in
    let r3 = c.put_byte-2.ensures ∙ overwrite-next room f2 (a ∷ []) _ 3 r2 refl in
    let r4 = c.put_byte-3.ensures ∙ overwrite-next room f3 (b ∷ []) _ 4 r3 refl in
    (omega arith, c.put_part.ensures ∙ overwrite-next room (f3 ++ (b ∷ [])) d _ 5 r4 refl)
