-- A group is the next one; another field is passed over. Assumes nothing.
use Rattle.std.proofs.Common.{rules, ◌≡◌, ◌∙◌, length, sym}
use Rattle.catalogue_format.specs.Shapes.{into}
use Rattle.catalogue_format.proofs.Walking.{into-falls, shorter, no-group}
use Rattle.catalogue_format.proofs.Walked.{group_here, group_past}
use Rattle.catalogue_format.proofs.walks.GroupsIterator.next.Goals as goal

pub returns-then-byte_at-eq-GROUP-clause-steps : goal.returns-then-byte_at-eq-GROUP-clause-steps
returns-then-byte_at-eq-GROUP-clause-steps c =
    sym c.loop-here.invariant ∙ group_here _ _ _ (search rules) (sym c.byte_at.ensures ∙ c.if-byte_at-eq-GROUP.true) c.step-self.ensures c.value_of.ensures

pub returns-then-byte_at-eq-GROUP-clause-goes : goal.returns-then-byte_at-eq-GROUP-clause-goes
returns-then-byte_at-eq-GROUP-clause-goes c =
    let e = returns-then-byte_at-eq-GROUP-clause-steps c in
    search (rules, e)

pub loop-here-smaller : goal.loop-here-smaller
loop-here-smaller c = shorter into into-falls c.loop-here.self.0.now _ (search rules) c.step-self.ensures

pub loop-here-preserved : goal.loop-here-preserved
loop-here-preserved c =
    group_past _ _ (search rules) (λ e. c.if-byte_at-eq-GROUP.false (c.byte_at.ensures ∙ e)) c.step-self.ensures ∙ c.loop-here.invariant

pub returns-clause-steps : goal.returns-clause-steps
returns-clause-steps c =
    let z : length c.loop-here.self.0.now ≡ 0 = search rules in
    let n = no-group _ z in
    (sym c.loop-here.invariant ∙ n, n)
