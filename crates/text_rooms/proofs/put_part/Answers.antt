-- The invariant: the bytes so far are written. Assumes nothing.
use borrow.Author.Rules.{rules}
use mathlib.Core.Path.{◌≡◌, ap, ◌∙◌}
use native.Mathlib.Numerals.{add-one}
use native.Mathlib.Omega.{arith}
use lib.ListN.{length, length-set}
use lib.Seq.{paste, paste-suc, take-length}
use Rattle.text_rooms.specs.Room.{overwrite}
use Rattle.text_rooms.proofs.put_part.Goals as goal

pub loop-i-preserved : goal.loop-i-preserved
loop-i-preserved c =
    let a = c.args in
    let l = c.loop-i in (
      search rules,
      rw l.invariant.1 (paste-suc a.out.now a.at a.s.now l.i 0 (search rules) (search rules) ∙ rw add-one),
      simp length-set l.invariant.2,
    )

pub returns : goal.returns
unfolding overwrite
returns c =
    let a = c.args in
    let e : c.loop-i.i ≡ length a.s.now = omega arith in
    c.loop-i.invariant.1 ∙ ap (paste a.out.now a.at a.s.now) e ∙ rw take-length
