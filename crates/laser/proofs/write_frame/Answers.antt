-- The front and its closing make the frame. Assumes nothing.
use mathlib.Core.Path.{sym, ap, ◌∙◌}
use mathlib.Core.List.{List}
use Prim.Native.Nat.{ℕ, ◌+◌}
use native.Mathlib.Omega.{arith}
use lib.ListN.{length, take}
use Rattle.rules.specs.Characters.{period}
use Rattle.text_rooms.specs.Room.{overwrite}
use Rattle.text_rooms.proofs.Overwrite.{overwrite-next, overwrite-front}
use Rattle.checks_xor.specs.Xor.{closing}
use Rattle.laser.specs.Frame.{front_of}
use Rattle.laser.proofs.WrittenFrames.{front_length, frame-length, refused-small, refused-long, written}
use Rattle.laser.proofs.write_frame.Goals as goal

pub returns-then-room-lt-ROOM : goal.returns-then-room-lt-ROOM
returns-then-room-lt-ROOM c = let a = c.args in refused-small a.room.now a.first a.second a.bytes.now (omega arith)

pub returns-then-bytes-gt99 : goal.returns-then-bytes-gt99
returns-then-bytes-gt99 c =
    let a = c.args in
    refused-long a.room.now a.first a.second a.bytes.now (omega arith) (omega arith)

pub put_xor-requires : goal.put_xor-requires
put_xor-requires c = omega (arith, c.put_front-n.ensures.0, c.put_front-n.auto.room, front_length c.args.first c.args.second c.args.bytes.now)

pub returns : goal.returns
returns c =
    let a = c.args in
    let front = front_of a.first a.second a.bytes.now in
    let n = c.put_front-n.ensures.0 in
    let stands = c.put_front-n.ensures.1 in
    let seen = ap (λ (k : ℕ). take k c.put_front-n.new.room) n ∙ ap (take (length front)) stands ∙ overwrite-front a.room.now front in
    written a.room.now a.first a.second a.bytes.now _ _ (omega arith) (omega arith)
    (c.put_xor.ensures.0 ∙ ap (λ (k : ℕ). k + 3) n ∙ sym (frame-length a.first a.second a.bytes.now))
    (c.put_xor.ensures.1 ∙ ap (λ (m : List ℕ). overwrite c.put_front-n.new.room c.put_front-n.result (closing m period)) seen ∙ overwrite-next a.room.now front (closing front period) _ _ stands n)
