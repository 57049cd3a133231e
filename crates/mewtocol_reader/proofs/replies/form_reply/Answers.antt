-- The header first; then each way rewrites with the tests that led there. Assumes nothing.
use borrow.Author.Tests.{eq-eqb, ne_eqb}
use mathlib.Core.Path.{sym, ap, ◌∙◌}
use lib.ListN.{length}
use Rattle.rules.proofs.Choose.{via}
use Rattle.mewtocol_asking.specs.Code.{request_of}
use Rattle.mewtocol_reader.specs.Replies.{error_in, data_in, reply_in, form_reply}
use Rattle.mewtocol_reader.proofs.replies.form_reply.Goals as goal

pub returns-then-byte_at-limits : goal.returns-then-byte_at-limits
unfolding form_reply
returns-then-byte_at-limits c = rw (ne_eqb _ _ (λ e. c.if-byte_at-limits.true (c.byte_at.ensures ∙ e)))

pub returns-then-mark-eq33 : goal.returns-then-mark-eq33
unfolding form_reply reply_in
returns-then-mark-eq33 c =
    let f = c.args.frame.now in
    rw (
      eq-eqb _ _ (via c.byte_at.ensures c.if-byte_at-limits.false),
      eq-eqb _ _ (via c.byte_at-mark.ensures c.if-mark-eq33.true),
    ) (c.error_in.ensures f ∙ ap (error_in (length f)) c.text_of.ensures)

pub returns-then-mark-eq36 : goal.returns-then-mark-eq36
unfolding form_reply reply_in
returns-then-mark-eq36 c =
    let a = c.args in
    let f = a.frame.now in
    let q = request_of a.asking.now in
    rw (
      eq-eqb _ _ (via c.byte_at.ensures c.if-byte_at-limits.false),
      ne_eqb _ _ (λ e. c.if-mark-eq33.false (c.byte_at-mark.ensures ∙ e)),
      eq-eqb _ _ (via c.byte_at-mark.ensures c.if-mark-eq36.true),
    ) (c.data_in.ensures f (sym c.text_of-then-mark-eq36.ensures) ∙ ap (data_in q (length f)) c.text_of-then-mark-eq36.ensures)

pub returns : goal.returns
unfolding form_reply reply_in
returns c =
    rw (
      eq-eqb _ _ (via c.byte_at.ensures c.if-byte_at-limits.false),
      ne_eqb _ _ (λ e. c.if-mark-eq33.false (c.byte_at-mark.ensures ∙ e)),
      ne_eqb _ _ (λ e. c.if-mark-eq36.false (c.byte_at-mark.ensures ∙ e)),
    )
