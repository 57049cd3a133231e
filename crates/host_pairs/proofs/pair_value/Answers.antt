-- From 2^31 on it is -1 less what is left up to the greatest bits. Assumes nothing.
use mathlib.Core.Path.{sym, ◌∙◌}
use Prim.Native.Nat.{◌+◌, ◌-◌, ◌*◌, ◌<◌}
use native.Mathlib.Omega.{arith}
use borrow.Author.Tests.{lt-ltb, le-ltb}
use lib.Dec.{ltb}
use mir.Syntax.{w32}
use mir.Facts.{to_z-of_z, to_z_pos}
use Rattle.rules.proofs.Choose.{pick_yes, pick_no}
use Rattle.host_pairs.specs.Pairs.{pair_value}
use Rattle.host_pairs.proofs.Signed.{below-is, below-fits}
use Rattle.host_pairs.proofs.pair_value.Goals as goal

pub returns-then-v-lt-SIGN : goal.returns-then-v-lt-SIGN
unfolding pair_value
returns-then-v-lt-SIGN c =
    let v = c.args.low + 65536 * c.args.high in
    let h : v < 2147483648 = omega (arith, c.if-v-lt-SIGN.true) in
    to_z_pos w32 h ∙ sym (pick_yes (ltb v 2147483648) _ _ (lt-ltb v 2147483648 h))

pub returns : goal.returns
unfolding pair_value
returns c =
    let v = c.args.low + 65536 * c.args.high in
    let h : 4294967295 - v < 2147483648 = omega (arith, c.if-v-lt-SIGN.false) in
    to_z-of_z (below-fits (4294967295 - v) h) ∙ below-is (4294967295 - v) h
    ∙ sym (pick_no (ltb v 2147483648) _ _ (le-ltb v 2147483648 (omega (arith, c.if-v-lt-SIGN.false))))
