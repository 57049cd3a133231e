-- Row by row. Assumes nothing.
use mathlib.Core.Path.{ap₂, ◌∙◌, sym}
use Rattle.rules.specs.Choice.{both}
use Rattle.rules.proofs.Choose.{both_true}
use Rattle.table_profiles.specs.Runs.{run_taken}
use Rattle.table_profiles.proofs.kept_by_hl_g2.Goals as goal

pub returns : goal.returns
unfolding run_taken
returns c =
    c.and-5.ensures
    ∙ ap₂ both c.keeps_pair-high_limit.ensures (c.and-4.ensures
    ∙ ap₂ both c.keeps_pair-low_limit.ensures (c.and-3.ensures
    ∙ ap₂ both c.keeps_single-r53.ensures (c.and-2.ensures
    ∙ ap₂ both c.keeps_single-r55.ensures (c.and.ensures
    ∙ ap₂ both c.keeps_single-r57.ensures (c.keeps_single-r70.ensures ∙ sym (both_true _))))))
