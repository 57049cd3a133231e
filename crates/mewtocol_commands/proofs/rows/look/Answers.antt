-- The invariant: what was seen and what is left of the row and of the text make the whole. Assumes nothing.
use mathlib.Core.Path.{refl, subst}
use mathlib.Core.List.{List}
use native.Mathlib.Omega.{arith}
use lib.ListN.{get_or}
use Rattle.mewtocol_commands.specs.Code.{Looks}
use Rattle.mewtocol_commands.specs.declared.Field.{Field}
use Rattle.mewtocol_commands.specs.declared.Field.TheVariants.{LetterR}
use Rattle.mewtocol_commands.proofs.OverRows.{width_small}
use Rattle.mewtocol_commands.proofs.Looking.{look-turn, look-ends}
use Rattle.mewtocol_commands.proofs.rows.look.Goals as goal

pub loop-f-preserved : goal.loop-f-preserved
loop-f-preserved c =
    let l = c.loop-f in
    let next =
    look-turn c.as_slice-fields.result.now c.args.text.now l.f-index l.at l.seen c.with_field-seen.result _ _ c.loop-f-test.true refl c.rest.ensures c.with_field-seen.ensures l.invariant.1 in (
      omega (arith, l.invariant.0, c.width-at.ensures, width_small (get_or c.as_slice-fields.result.now l.f-index LetterR)),
      rw c.width-at.ensures next,
    )

pub returns : goal.returns
returns c =
    let t = c.args.text.now in
    let l = c.loop-f in
    let fs = c.as_slice-fields.result.now in
    subst (λ (k : List Field). Looks k t l.seen) c.as_slice-fields.ensures.0 (look-ends fs t l.f-index l.at l.seen c.loop-f-test.false l.invariant.1)
