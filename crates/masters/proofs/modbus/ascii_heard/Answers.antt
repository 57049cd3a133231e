-- The bytes that the frame says are heard. Assumes nothing.
use mathlib.Core.Path.{sym, ap, ◌∙◌}
use native.Mathlib.Omega.{arith}
use lib.ListN.{length, drop}
use Rattle.modbus_ascii.specs.Ascii.{count_of, ascii}
use Rattle.modbus_ascii.proofs.Pairs.{pair_bytes-length}
use Rattle.masters.proofs.Lines.{wrong-shape}
use Rattle.masters.proofs.modbus.ascii_heard.Goals as goal

pub bytes_heard-requires : goal.bytes_heard-requires
bytes_heard-requires c =
    let f = c.args.frame.now in
    let e = c.part_of.ensures ∙ c.in-Some.ensures.bytes-are in
    (c.requires, omega (arith, c.in-Some.ensures.least, c.in-Some.ensures.count-is, ap length e, pair_bytes-length (count_of f) (drop 1 f)))

pub returns-in-Some : goal.returns-in-Some
returns-in-Some c = c.bytes_heard.ensures c.args.frame.now c.in-Some.ensures.shape (sym (c.part_of.ensures ∙ c.in-Some.ensures.bytes-are))

pub returns-in-None : goal.returns-in-None
returns-in-None c =
    let a = c.args in
    wrong-shape ascii a.attributes.now a.profile a.own a.frame.now _ c.in-None.ensures c.nothing.ensures
