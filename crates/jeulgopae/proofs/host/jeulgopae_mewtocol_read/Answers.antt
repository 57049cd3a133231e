-- What was read as a number. Assumes nothing.
use mathlib.Core.Path.{sym, ◌∙◌}
use Rattle.jeulgopae.proofs.Bounds.{reply-short}
use Rattle.jeulgopae.proofs.host.jeulgopae_mewtocol_read.Goals as goal

pub reply_code-requires : goal.reply_code-requires
reply_code-requires c =
    let form = c.form_of.result in
    (λ t e. (reply-short form _ _ _).0 t (sym c.read_reply.ensures ∙ e), λ p e. (reply-short form _ _ _).1 p (sym c.read_reply.ensures ∙ e))
