-- Each way rewrites with the tests that led there. Assumes nothing.
use mathlib.Core.Path.{◌≡◌, refl, sym, ap, ◌∙◌}
use borrow.Author.Tests.{eq-eqb, ne_eqb}
use Rattle.rules.proofs.Choose.{via}
use Rattle.mewtocol_frame.specs.Frame.{text_of}
use Rattle.mewtocol_requests.specs.Reading.{read_text}
use Rattle.mewtocol_requests.specs.Hearing.{read_frame}
use Rattle.mewtocol_requests.proofs.Answers.{reads_same, reads-after, faulty-reads}
use Rattle.mewtocol_requests.proofs.read_frame.Goals as goal

pub returns-then-not-good_check : goal.returns-then-not-good_check
unfolding read_frame
returns-then-not-good_check c =
    let a = c.args in
    faulty-reads _ _ (text_of a.frame.now) a.contacts.now a.values.now (rw (via c.good_check.ensures c.if-not-good_check.true) refl)

pub returns-then-byte_at-ne35 : goal.returns-then-byte_at-ne35
unfolding read_frame
returns-then-byte_at-ne35 c =
    let a = c.args in
    faulty-reads _ _ (text_of a.frame.now) a.contacts.now a.values.now
    (rw (via c.good_check.ensures c.if-not-good_check.false, ne_eqb _ _ (λ e. c.if-byte_at-ne35.true (c.byte_at.ensures ∙ e))) refl)

pub returns : goal.returns
unfolding read_frame
returns c =
    let a = c.args in
    let f = a.frame.now in
    let is : read_frame a.limits f ≡ read_text a.limits (text_of f) =
    rw (via c.good_check.ensures c.if-not-good_check.false, eq-eqb _ _ (via c.byte_at.ensures c.if-byte_at-ne35.false)) refl in
    reads_same (ap (read_text a.limits) c.text_of.ensures ∙ sym is) (reads-after 0 (text_of f) c.text_of.result.now c.text_of.ensures c.read_text.ensures)
