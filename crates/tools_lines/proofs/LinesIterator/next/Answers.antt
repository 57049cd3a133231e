-- A text that is not empty has a first line, and what is behind it is shorter. Assumes nothing.
use Rattle.std.proofs.Common.{rules, length, ap}
use Rattle.tools_lines.proofs.Broken.{no_line, line_then}
use Rattle.tools_lines.proofs.LinesIterator.next.Goals as goal

pub returns-then-is_empty-clause-steps : goal.returns-then-is_empty-clause-steps
returns-then-is_empty-clause-steps c = (no_line _ (search rules), no_line _ (search rules))

pub returns-clause-steps : goal.returns-clause-steps
returns-clause-steps c = line_then _ _ _ (search rules) c.place_from-end.ensures.value c.next_line-next.ensures.value

pub returns-clause-goes : goal.returns-clause-goes
returns-clause-goes c =
    let e = ap length (returns-clause-steps c) in
    search (rules, e)
