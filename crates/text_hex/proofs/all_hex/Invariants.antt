-- The invariant: what was seen and what is left make the answer for the whole. Assumes nothing.
use Rattle.std.proofs.Common.{◌≡◌, drop}
use Rattle.rules.specs.Choice.{both}
use Rattle.text_hex.specs.Hex.{all_hex}
use Rattle.text_hex.proofs.all_hex.Given as goal

abbrev pub invariant-loop-i : goal.invariant-loop-i
invariant-loop-i l = both l.fine (all_hex (drop l.i l.s)) ≡ all_hex l.s
