-- The writer's answer as a number, and its room. Assumes nothing.
use mathlib.Core.Path.{sym, ◌∙◌}
use Rattle.jeulgopae.proofs.Bounds.{frame_small}
use Rattle.jeulgopae.proofs.head.jeulgopae_laser_write.Goals as goal

pub frame_code-requires : goal.frame_code-requires
frame_code-requires c = λ n e. frame_small _ _ _ _ n (sym c.write_frame.ensures.answer-is ∙ e)
