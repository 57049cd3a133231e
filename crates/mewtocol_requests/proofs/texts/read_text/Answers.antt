-- The name, and then the steps. Assumes nothing.
use mathlib.Core.Path.{sym, ap, ap₂, ◌∙◌}
use mathlib.Core.List.{List}
use Prim.Native.Nat.{ℕ}
use lib.ListN.{length, drop}
use Rattle.rules.proofs.Choose.{via}
use Rattle.mewtocol_commands.specs.Commands.{Entry, entry}
use Rattle.mewtocol_requests.specs.Reading.{read_named, read_text, read_as}
use Rattle.mewtocol_commands.specs.declared.Named.{Named}
use Rattle.mewtocol_commands.specs.declared.Kind.{Kind}
use Rattle.mewtocol_requests.proofs.Answers.{reads_same, reads-after, faulty-reads}
use Rattle.mewtocol_requests.proofs.texts.read_text.Goals as goal

pub returns-in-Is : goal.returns-in-Is
unfolding read_text
returns-in-Is c =
    let a = c.args in
    let t = a.text.now in
    let is = ap (λ (n : Named). read_named a.limits n t) (via c.named.ensures c.in-Is.is) in
    let after = c.rest.ensures ∙ ap (λ (n : ℕ). drop n t) (c.name_len.ensures ∙ ap (λ (e : Entry). length e.name) c.entry-e.ensures) in
    reads_same (ap₂ (λ (k : Kind) (s : List ℕ). read_as a.limits k s) (ap (λ (e : Entry). e.kind) c.entry-e.ensures) after ∙ sym is)
    (reads-after (length (entry c.in-Is.c).name) t c.rest.result.now after c.read_as.ensures)

pub returns-in-Unknown : goal.returns-in-Unknown
unfolding read_text
returns-in-Unknown c =
    let a = c.args in
    faulty-reads _ _ a.text.now a.contacts.now a.values.now (ap (λ (n : Named). read_named a.limits n a.text.now) (via c.named.ensures c.in-Unknown.is))
