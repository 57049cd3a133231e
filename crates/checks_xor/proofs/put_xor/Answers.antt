-- Two writes, one after the other, are one. Assumes nothing.
use mathlib.Core.Path.{refl, ap, ◌∙◌}
use mathlib.Core.List.{List, [], ◌∷◌, ◌++◌}
use Prim.Native.Nat.{ℕ, ◌+◌, ◌≤◌}
use native.Mathlib.Omega.{arith}
use lib.ListN.{length}
use Rattle.text_rooms.specs.Room.{overwrite}
use Rattle.text_rooms.proofs.Overwrite.{overwrite-join}
use Rattle.text_hex.specs.Hex.{hex_digit, hex_byte}
use Rattle.text_digits.proofs.Back.{digits_in-length}
use Rattle.checks_xor.proofs.put_xor.Goals as goal

pub returns : goal.returns
returns c =
    let a = c.args in
    let x : ℕ = c.xor_of-x.result in
    let h : a.n ≤ length a.out.now = omega arith in (
      refl,
      c.put_byte.ensures
          ∙ ap (λ (r : List ℕ). overwrite r (a.n + 2) (a.last ∷ [])) c.put_hex.ensures
          ∙ overwrite-join a.out.now (hex_byte x) (a.last ∷ []) a.n (a.n + 2) h (rw (digits_in-length 16 hex_digit 2))
          ∙ ap (λ (y : ℕ). overwrite a.out.now a.n (hex_byte y ++ (a.last ∷ []))) c.xor_of-x.ensures,
    )
