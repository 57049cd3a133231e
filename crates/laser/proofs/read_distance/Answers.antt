-- What was read tells the distance; a refusal keeps its number. Assumes nothing.
use mathlib.Core.Path.{sym, ap, ◌∙◌}
use native.Mathlib.Omega.{arith}
use lib.ListN.{length}
use Rattle.laser.specs.Frame.{distance_in}
use Rattle.laser.proofs.ReadFrames.{read_is, told, distance_read, distance_read-is}
use Rattle.laser.proofs.read_distance.Goals as goal

pub overflow_sub-frame : goal.overflow_sub-frame
overflow_sub-frame c = omega (arith, read_is _ _ _ _ (told _ _ _ c.read_frame.ensures c.in-Frame.is))

pub returns-in-Frame : goal.returns-in-Frame
returns-in-Frame c =
    let end = length c.args.frame.now in
    let r = told _ _ _ c.read_frame.ensures c.in-Frame.is in
    c.distance_in.ensures ∙ ap (distance_in end _ _) (c.part_of.ensures ∙ sym (read_is _ _ _ _ r).0) ∙ sym (distance_read-is _ ∙ ap (distance_read end) r)

pub returns-in-Refused : goal.returns-in-Refused
returns-in-Refused c = sym (distance_read-is _ ∙ ap (distance_read _) (told _ _ _ c.read_frame.ensures c.in-Refused.is))
