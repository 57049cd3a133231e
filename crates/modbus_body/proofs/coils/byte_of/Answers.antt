-- The invariant: the value is that of the cells passed, from the last on. Assumes nothing.
use mathlib.Core.Path.{◌≡◌, sym, ap, subst, ◌∙◌}
use Prim.Native.Nat.{ℕ, ◌+◌, ◌-◌, ◌^◌, ◌<◌}
use native.Mathlib.Omega.{arith}
use Rattle.modbus_body.specs.Bytes.{byte_of}
use Rattle.modbus_body.proofs.Packed.{cells, byte-turn, byte-end, more-bits}
use Rattle.modbus_body.proofs.coils.byte_of.Goals as goal

pub loop-i-init : goal.loop-i-init
loop-i-init c =
    let a = c.args in
    let e : 0 ≡ a.count - a.count = omega arith in
    (byte-end a.words.now a.cell a.count, rw (sym e) (omega arith))

pub loop-i-preserved : goal.loop-i-preserved
loop-i-preserved c =
    let a = c.args in
    let l = c.loop-i in
    let j = l.i - 1 in
    let e : j + 1 ≡ l.i = omega arith in
    let v : l.v ≡ byte_of (cells a.words.now (a.cell + (j + 1)) (a.count - (j + 1))) = l.invariant.0 ∙ ap (λ (x : ℕ). byte_of (cells a.words.now (a.cell + x) (a.count - x))) (sym e) in
    let s : l.v < 2 ^ (a.count - (j + 1)) = subst (λ (x : ℕ). l.v < 2 ^ (a.count - x)) (sym e) l.invariant.1 in (
      omega (arith, byte-turn a.words.now a.cell j a.count (omega arith), c.cell_at.ensures, v),
      more-bits l.v c.cell_at.result j a.count (omega arith) s (omega (arith, c.cell_at.ensures)),
    )
