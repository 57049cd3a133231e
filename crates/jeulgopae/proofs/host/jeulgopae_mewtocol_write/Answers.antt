-- The writer's answer as a number, and its room. Assumes nothing.
use mathlib.Core.Path.{sym, ◌∙◌}
use Rattle.jeulgopae.proofs.Bounds.{request-small}
use Rattle.jeulgopae.proofs.host.jeulgopae_mewtocol_write.Goals as goal

pub request_code-requires : goal.request_code-requires
request_code-requires c = λ n e. request-small c.form_of.result _ _ _ n (sym c.write_request.ensures.answer-is ∙ e)
