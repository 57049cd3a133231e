-- The invariant: lanes and what is left make one answer for both. Assumes nothing.
use mathlib.Core.Path.{◌≡◌, ap, ◌∙◌}
use Prim.Native.Nat.{ℕ, ◌+◌, ◌<◌}
use native.Mathlib.Omega.{arith}
use lib.Bits.{bit_or}
use lib.ListN.{length, drop, get_or, set, length-set}
use Rattle.rules.specs.Choice.{both, all_between}
use Rattle.station.proofs.SmallOr.{lane-turn}
use Rattle.station.proofs.order.or_into.Goals as goal

pub loop-j-preserved : goal.loop-j-preserved
loop-j-preserved c =
    let a = c.args in
    let l = c.loop-j in
    let h : l.j < length l.lanes = omega (arith, l.invariant.0) in
    let m : a.at + (l.j + 1) ≡ a.at + l.j + 1 = omega arith in (
      length-set l.lanes l.j _ ∙ l.invariant.0,
      ap (λ (n : ℕ). both (all_between 0 3 (set l.lanes l.j (bit_or (get_or l.lanes l.j 0) (get_or a.s.now (a.at + l.j) 0)))) (all_between 0 3 (drop n a.s.now))) m
          ∙ lane-turn l.lanes a.s.now l.j (a.at + l.j) h (omega (arith, c.requires.1))
          ∙ l.invariant.1,
    )
