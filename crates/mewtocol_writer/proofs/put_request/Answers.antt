-- The opening, the text, and a closing. Assumes nothing.
use mathlib.Core.Path.{◌≡◌}
use native.Mathlib.Omega.{arith}
use lib.ListN.{length}
use Rattle.mewtocol_asking.specs.Code.{asking_of}
use Rattle.mewtocol_writer.proofs.Ways.{text-short, askable, puts-frame}
use Rattle.mewtocol_writer.proofs.put_request.Goals as goal

pub put_text-n-requires : goal.put_text-n-requires
put_text-n-requires c =
    let a = c.args in
    let q = asking_of a.asking.now in
    let p = c.requires in
    let k : length c.put_opening.new.room ≡ length a.room.now = c.put_opening.auto.room in (
      omega (arith, p.0.contacts, p.1, k),
      omega (arith, p.1, k, text-short a.limits p.0 q p.2),
      askable a.limits q p.2,
    )

pub put_xor-requires : goal.put_xor-requires
put_xor-requires c =
    let a = c.args in
    let q = asking_of a.asking.now in
    let p = c.requires in
    let k : length c.put_opening.new.room ≡ length a.room.now = c.put_opening.auto.room in
    let m : length c.put_text-n.new.room ≡ length c.put_opening.new.room = c.put_text-n.auto.room in
    omega (arith, p.1, k, m, c.put_text-n.ensures.after, text-short a.limits p.0 q p.2)

pub returns : goal.returns
returns c =
    let a = c.args in
    let p = c.requires in
    puts-frame a.limits.header a.station (asking_of a.asking.now) (omega (arith, p.0.contacts, p.1)) c.put_opening.ensures c.put_text-n.ensures c.put_xor.ensures
