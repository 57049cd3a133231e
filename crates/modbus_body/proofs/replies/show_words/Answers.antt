-- Two stores and the words are one write. Assumes nothing.
use mathlib.Core.Path.{sym, ◌∙◌}
use Prim.Native.Nat.{◌*◌}
use native.Mathlib.Omega.{arith}
use lib.ListN.{length}
use Rattle.modbus_body.specs.Bytes.{bytes_of_words}
use Rattle.modbus_body.proofs.Packed.{front, bytes_of_words-length}
use Rattle.modbus_body.proofs.replies.show_words.Goals as goal

pub returns : goal.returns
returns c =
    let a = c.args in
    let bs = bytes_of_words a.ws.now in
    record {
      size = omega (arith, bytes_of_words-length a.ws.now);
      room = c.put_words.ensures ∙ front a.out.now bs a.at c.byte_at.result (2 * length a.ws.now) _ c.requires.0 c.byte_at.ensures (sym (bytes_of_words-length a.ws.now));
    }
