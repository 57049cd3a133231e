-- Two stores and the bytes are one write. Assumes nothing.
use mathlib.Core.Path.{◌∙◌}
use native.Mathlib.Omega.{arith}
use Rattle.modbus_body.specs.Bytes.{packed, bytes_for}
use Rattle.modbus_body.proofs.Packed.{cells, front, packed-length}
use Rattle.modbus_body.proofs.coils.show_cells.Goals as goal

pub returns : goal.returns
returns c =
    let a = c.args in
    let bs = cells a.words.now a.cell a.count in
    let l = packed-length (bytes_for a.count) bs in
    record {
      size = omega (arith, l);
      room = c.put_run.ensures ∙ front a.out.now (packed (bytes_for a.count) bs) a.at c.byte_at.result c.div_ceil-n.result _ c.requires.0 c.byte_at.ensures (omega (arith, l, c.div_ceil-n.ensures));
    }
