-- All tests held, or one failed. Assumes nothing.
use mathlib.Core.Path.{sym, ap}
use Rattle.rules.proofs.Choose.{via}
use Rattle.mewtocol_steps.specs.Steps.{field_tests, says}
use Rattle.mewtocol_requests.specs.Reading.{read_fields}
use Rattle.mewtocol_requests.proofs.Tests.{held, held_first, failed-first}
use Rattle.mewtocol_requests.proofs.Making.{made}
use Rattle.mewtocol_requests.proofs.Answers.{reads_same, faulty-reads}
use Rattle.mewtocol_requests.proofs.texts.read_fields.Goals as goal

pub returns-in-Fine : goal.returns-in-Fine
unfolding read_fields
returns-in-Fine c =
    let m = c in
    let t = m in
    let a = t.args in
    let ts = field_tests a.limits a.kind a.n a.text.now in
    let h = held ts _ _ _ _ (via t.tested.ensures (ap says m.in-Fine.is)) in
    reads_same (sym (held_first ts (made a.kind a.n a.text.now) h.0)) m.make.ensures

pub returns-in-Wrong : goal.returns-in-Wrong
unfolding read_fields
returns-in-Wrong c =
    let a = c.args in
    faulty-reads c.in-Wrong.e _ a.text.now a.contacts.now a.values.now
    (failed-first (field_tests a.limits a.kind a.n a.text.now) _ _ (made a.kind a.n a.text.now) _ (via c.tested.ensures (ap says c.in-Wrong.is)))
