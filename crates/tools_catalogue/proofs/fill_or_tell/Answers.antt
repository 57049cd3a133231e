-- The error is one of telling a refusal, and that left the attributes. Assumes nothing.
use Rattle.std.proofs.Common.{rules}
use Rattle.tools_catalogue.proofs.Left.{refused_leaves}
use Rattle.tools_catalogue.proofs.fill_or_tell.Goals as goal

pub returns-in_err-tell_refused-in-Refused : goal.returns-in_err-tell_refused-in-Refused
returns-in_err-tell_refused-in-Refused g c =
    let a = c.args in
    let stay = refused_leaves a.file.now a.name.now a.attributes.now c.fill.new.attributes c.fill.result c.in-Refused.why c.in-Refused.is c.fill.ensures in
    search (stay, rules)
