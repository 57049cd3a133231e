-- Two stores are one write. Assumes nothing.
use mathlib.Core.Path.{refl}
use mathlib.Core.List.{[], ◌∷◌}
use native.Mathlib.Numerals.{add-one}
use native.Mathlib.Omega.{arith}
use lib.Bits.{bit_or}
use Rattle.text_rooms.proofs.Overwrite.{overwrite-run}
use Rattle.modbus_body.specs.Body.{exception}
use Rattle.modbus_body.proofs.replies.refuse.Goals as goal

pub returns : goal.returns
unfolding exception
returns c =
    record {
      size = refl;
      room = rw (← c.byte_at.ensures, add-one) (overwrite-run _ (bit_or c.byte_at.result 128 ∷ c.args.e ∷ []) _ (omega arith));
    }
