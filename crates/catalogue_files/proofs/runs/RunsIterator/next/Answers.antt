-- A run is the next one; another field is passed over. Assumes nothing.
use Rattle.std.proofs.Common.{rules, ◌≡◌, ◌∙◌, length, sym}
use Rattle.catalogue_format.specs.Format.{after_of}
use Rattle.catalogue_format.proofs.Walking.{after-falls, shorter}
use Rattle.catalogue_files.proofs.Said.{no_run}
use Rattle.catalogue_files.proofs.Turns.{run_here, run_past}
use Rattle.catalogue_files.proofs.runs.RunsIterator.next.Goals as goal

pub returns-then-byte_at-eq-RUN-clause-steps : goal.returns-then-byte_at-eq-RUN-clause-steps
returns-then-byte_at-eq-RUN-clause-steps c =
    sym c.loop-here.invariant ∙ run_here _ _ _ (search rules) (sym c.byte_at.ensures ∙ c.if-byte_at-eq-RUN.true) c.after-self.ensures c.run_of.ensures

pub returns-then-byte_at-eq-RUN-clause-goes : goal.returns-then-byte_at-eq-RUN-clause-goes
returns-then-byte_at-eq-RUN-clause-goes c =
    let e = returns-then-byte_at-eq-RUN-clause-steps c in
    search (rules, e)

pub loop-here-smaller : goal.loop-here-smaller
loop-here-smaller c = shorter after_of after-falls c.loop-here.self.0.now _ (search rules) c.after-self.ensures

pub loop-here-preserved : goal.loop-here-preserved
loop-here-preserved c =
    run_past _ _ (search rules) (λ e. c.if-byte_at-eq-RUN.false (c.byte_at.ensures ∙ e)) c.after-self.ensures ∙ c.loop-here.invariant

pub returns-clause-steps : goal.returns-clause-steps
returns-clause-steps c =
    let z : length c.loop-here.self.0.now ≡ 0 = search rules in
    let n = no_run _ z in
    (sym c.loop-here.invariant ∙ n, n)
