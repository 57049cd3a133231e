-- Four writes, one after the other, are one. Assumes nothing.
use mathlib.Core.Path.{◌≡◌, refl, ◌∙◌}
use mathlib.Core.List.{List, [], ◌∷◌, ◌++◌}
use Prim.Native.Nat.{ℕ, ◌+◌, ◌*◌}
use native.Mathlib.Omega.{arith}
use lib.ListN.{length, length-append}
use Rattle.rules.specs.Characters.{colon, CR, LF}
use Rattle.text_rooms.proofs.Overwrite.{overwrite-next}
use Rattle.modbus_ascii.specs.Ascii.{hex_pairs}
use Rattle.modbus_ascii.proofs.Pairs.{hex_pairs-length}
use Rattle.modbus_ascii.proofs.encode.Goals as goal

pub returns : goal.returns
returns c = let room = c.args.reply.now in
    let bs = c.args.bytes.now in
    let head : List ℕ = colon ∷ [] in
    let f2 : List ℕ = head ++ hex_pairs bs in
    let f3 : List ℕ = f2 ++ (CR ∷ []) in
    let n = 2 * length bs in
    let l2 : n + 1 ≡ length f2 = omega (arith, hex_pairs-length bs) in
    let l3 : n + 2 ≡ length f3 = omega (arith, length-append f2 (CR ∷ []), l2) in
    let r2 = c.put_pairs.ensures ∙ overwrite-next room head (hex_pairs bs) _ 1 c.put_byte.ensures refl in
    let r3 = c.put_byte-2.ensures ∙ overwrite-next room f2 (CR ∷ []) _ (n + 1) r2 l2 in
    record { size = omega (arith, length-append f3 (LF ∷ []), l3); room = c.put_byte-3.ensures ∙ overwrite-next room f3 (LF ∷ []) _ (n + 2) r3 l3 }
