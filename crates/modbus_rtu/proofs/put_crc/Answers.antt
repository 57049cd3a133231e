-- Two stores are one write. Assumes nothing.
use mathlib.Core.Path.{refl, ap, ◌∙◌}
use mathlib.Core.List.{[], ◌∷◌}
use Prim.Native.Nat.{ℕ, ◌/◌, ◌%◌}
use native.Mathlib.Numerals.{add-one}
use native.Mathlib.Omega.{arith}
use Rattle.text_rooms.specs.Room.{overwrite}
use Rattle.text_rooms.proofs.Overwrite.{overwrite-run}
use Rattle.modbus_rtu.proofs.put_crc.Goals as goal

pub returns : goal.returns
returns c =
    let a = c.args in
    let x : ℕ = c.reply_crc-x.result in (
      refl,
      rw add-one (overwrite-run a.reply.now (x % 256 ∷ x / 256 ∷ []) a.n (omega arith))
          ∙ ap (λ (y : ℕ). overwrite a.reply.now a.n (y % 256 ∷ y / 256 ∷ [])) c.reply_crc-x.ensures,
    )
