-- `noise_report::hear` meets its contract. The invariant: what stands before what is left of the piece has been heard. Assumes nothing.
use native.Mathlib.Omega.{arith}
use Rattle.std.proofs.Common.{List, ◌++◌, ℕ, ◌∙◌, append_assoc, Ok}
use mathlib.Core.Path.{subst}
use Rattle.std.proofs.lemmas.Result.{err_from_is_err_and}
use Rattle.noise_report.specs.Heard.{Reader, Heard}
use Rattle.noise_report.proofs.Hearing.{up-less, next-front, bad-within}
use Rattle.noise_report.proofs.hear.Goals as goal

pub returns-in_err-progress-2 : goal.returns-in_err-progress-2
returns-in_err-progress-2 c =
    let inv = c.loop-left.invariant in
    let p = err_from_is_err_and c.from_residual-in_err-progress-2.result c.from_residual-in_err-progress-2.ensures.1 in
    rw p.1
    (record {
      heard = λ big s heard.
          bad-within _ _ _ _ _ inv.2 c.split_at.ensures.by_index.0 s
          (subst (λ (r : Reader). Heard ((s ++ inv.1) ++ c.split_at.result.0.now) r c.hear_part.new.room) c.in_err-progress-2.was
          (c.hear_part.ensures (omega (arith, inv.0)) (s ++ inv.1)
          (inv.3 big s (subst (λ (r : Reader). Heard s r c.args.room.now) c.in_ok-progress.was heard))
          (up-less _ _ _ _ c.part_of.ensures c.wanted.ensures.up_to (omega arith))));
      kept = c.hear_part.auto.room ∙ inv.0;
    })

pub loop-left-preserved : goal.loop-left-preserved
loop-left-preserved c =
    let inv = c.loop-left.invariant in (
      c.hear_part.auto.room ∙ inv.0,
      inv.1 ++ c.split_at.result.0.now,
      next-front _ _ _ _ _ inv.2 c.split_at.ensures.by_index.0,
      λ big s heard.
          subst (λ (x : List ℕ). Heard x (Ok c.in_ok-progress-2.progress) c.hear_part.new.room) (append_assoc s inv.1 c.split_at.result.0.now)
          (subst (λ (r : Reader). Heard ((s ++ inv.1) ++ c.split_at.result.0.now) r c.hear_part.new.room) c.in_ok-progress-2.was
          (c.hear_part.ensures (omega (arith, inv.0)) (s ++ inv.1) (inv.3 big s heard) (up-less _ _ _ _ c.part_of.ensures c.wanted.ensures.up_to (omega arith)))),
    )
