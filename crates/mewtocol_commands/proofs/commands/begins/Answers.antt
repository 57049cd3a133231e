-- Two letters, and the third where there is one. Assumes nothing.
use mathlib.Core.Path.{sym, ◌∙◌}
use borrow.Author.Tests.{ne_eqb}
use Rattle.rules.proofs.Choose.{via}
use Rattle.mewtocol_frame.proofs.Starts.{starts-name}
use Rattle.mewtocol_commands.proofs.commands.begins.Goals as goal

pub returns-then-not-starts_2 : goal.returns-then-not-starts_2
returns-then-not-starts_2 c =
    let a = c.args in
    sym (starts-name a.name.0 a.name.1 a.name.2 a.text.now ∙ rw (via c.starts_2.ensures c.if-not-starts_2.true))

pub returns : goal.returns
returns c =
    let a = c.args in
    sym (starts-name a.name.0 a.name.1 a.name.2 a.text.now ∙ rw (via c.starts_2.ensures c.if-not-starts_2.false, ne_eqb _ _ c.if-name-eq0.false, ← c.byte_at.ensures))
