-- Three bytes, and a word behind them. Assumes nothing.
use mathlib.Core.Path.{ap, ◌∙◌}
use mathlib.Core.List.{List}
use Prim.Native.Nat.{ℕ, ◌+◌, ◌≤◌}
use native.Mathlib.Omega.{arith}
use lib.ListN.{length, take, length-take, length-append}
use Rattle.text_rooms.specs.Room.{overwrite}
use Rattle.text_rooms.proofs.Overwrite.{overwrite-join}
use Rattle.modbus_body.specs.Bytes.{word_bytes}
use Rattle.modbus_counters.proofs.diagnosis.show.Goals as goal

pub returns : goal.returns
returns c = let a = c.args in
    let three : List ℕ = take 3 a.body.now in
    let few : length three ≤ 3 = omega (arith, length-take 3 a.body.now) in
    record {
      size = omega (arith, c.echo-three.ensures.size, length-append three (word_bytes a.n));
      room = c.put_word.ensures ∙ ap (λ (l : List ℕ). overwrite l (a.at + c.echo-three.result) (word_bytes a.n)) c.echo-three.ensures.room
          ∙ overwrite-join a.out.now three (word_bytes a.n) a.at (a.at + c.echo-three.result) (omega arith) (ap (λ (k : ℕ). a.at + k) c.echo-three.ensures.size);
    }
