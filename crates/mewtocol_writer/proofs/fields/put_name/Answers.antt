-- Two or three writes, one after the other, are one. Assumes nothing.
use mathlib.Core.Path.{refl, ap, ◌∙◌}
use mathlib.Core.List.{List, [], ◌∷◌}
use Prim.Native.Nat.{ℕ}
use native.Mathlib.Omega.{arith}
use borrow.Author.Tests.{eq-eqb, ne_eqb}
use Rattle.text_rooms.specs.Room.{overwrite}
use Rattle.text_rooms.proofs.Overwrite.{overwrite-join}
use Rattle.mewtocol_writer.proofs.fields.put_name.Goals as goal

pub returns-then-name-eq0 : goal.returns-then-name-eq0
returns-then-name-eq0 c =
    let a = c.args in
    let r = a.room.now in
    let two = c.put_byte-2.ensures ∙ ap (λ (l : List ℕ). overwrite l 5 (a.name.1 ∷ [])) c.put_byte.ensures ∙ overwrite-join r (a.name.0 ∷ []) (a.name.1 ∷ []) 4 5 (omega (arith, c.requires)) refl in
    record { after = rw (eq-eqb _ _ c.if-name-eq0.true) refl; room = rw (eq-eqb _ _ c.if-name-eq0.true) two }

pub returns : goal.returns
returns c =
    let a = c.args in
    let r = a.room.now in
    let two = c.put_byte-2.ensures ∙ ap (λ (l : List ℕ). overwrite l 5 (a.name.1 ∷ [])) c.put_byte.ensures ∙ overwrite-join r (a.name.0 ∷ []) (a.name.1 ∷ []) 4 5 (omega (arith, c.requires)) refl in
    let three = c.put_byte-3.ensures ∙ ap (λ (l : List ℕ). overwrite l 6 (a.name.2 ∷ [])) two ∙ overwrite-join r (a.name.0 ∷ a.name.1 ∷ []) (a.name.2 ∷ []) 4 6 (omega (arith, c.requires)) refl in
    record { after = rw (ne_eqb _ _ c.if-name-eq0.false) refl; room = rw (ne_eqb _ _ c.if-name-eq0.false) three }
