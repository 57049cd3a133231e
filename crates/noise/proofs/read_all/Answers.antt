-- What came so far has been heard, and with each piece more. Assumes nothing.
use mathlib.Core.List.{[], ◌++◌}
use mathlib.Core.Path.{refl, ◌∙◌}
use native.Mathlib.Omega.{arith}
use Rattle.noise.proofs.read_all.Goals as goal

pub loop-init : goal.loop-init
loop-init g c = (refl, refl, λ big. ([], c.start-reader.ensures _))

pub returns-then-is_err : goal.returns-then-is_err
returns-then-is_err g c = λ big.
    let inv = c.loop.invariant in
    let h = inv.2 big in
    (h.0 ++ _, c.hear-reader.ensures.heard (omega (arith, inv.0)) h.0 h.1)

pub loop-preserved : goal.loop-preserved
loop-preserved g c =
    let inv = c.loop.invariant in (
      c.hear-reader.auto.room ∙ inv.0,
      c.read.auto.buf ∙ inv.1,
      λ big. let h = inv.2 big in (h.0 ++ _, c.hear-reader.ensures.heard (omega (arith, inv.0)) h.0 h.1),
    )
