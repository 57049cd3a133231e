-- The chain tests each. Assumes nothing.
use Rattle.std.proofs.Common.{rules, ◌∙◌, ◌+◌, ltb, ap, ℕ, List}
use borrow.Author.Tests.{tests}
use Rattle.rules.specs.Choice.{some}
use Rattle.catalogue_format.specs.declared.Run.{Run}
use Rattle.catalogue_files.specs.Walks.{runs_in, beyond_in}
use Rattle.catalogue_format.proofs.Walked.{any_told}
use Rattle.catalogue_files.proofs.runs.beyond_in.Goals as goal

pub returns : goal.returns
unfolding beyond_in
returns c =
    let test : Run → _ = λ (r : Run). ltb c.args.n (r.first + r.count) in
    any_told (λ x. x) (λ s. runs_in s.0.now) test _ c.any.new.self _ _ c.any.ensures.ran (λ x b q k. search (rules, tests)) ∙ ap (λ (t : List ℕ). some test (runs_in t)) c.after.ensures
