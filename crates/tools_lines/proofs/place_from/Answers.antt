-- What the library's search over the bytes from the index on gives. Assumes nothing.
use Rattle.std.proofs.Common.{rules, tests, ◌∙◌, sym, refl}
use Rattle.std.specs.Prelude.{eqb}
use Rattle.std.proofs.lemmas.Iterator.{YieldsList-from_slice}
use Rattle.std.proofs.lemmas.Iterator.Search.{position_from_yields_List}
use Rattle.tools_lines.proofs.Broken.{found_at, lacking_from}
use Rattle.tools_lines.proofs.place_from.Goals as goal

pub returns-in-Some-clause-value : goal.returns-in-Some-clause-value
returns-in-Some-clause-value c =
    found_at (λ b. eqb b c.args.byte) _ _ _ _ refl
    (sym c.in-Some.is ∙ position_from_yields_List (λ b. eqb b c.args.byte) _ _ c.position.result c.position.ensures.ran (YieldsList-from_slice _ c.iter.ensures.rest) (λ x b q k. search (rules, tests)))

pub returns-in-None-clause-value : goal.returns-in-None-clause-value
returns-in-None-clause-value c =
    lacking_from (λ b. eqb b c.args.byte) _ _ _ c.requires refl
    (sym c.in-None.is ∙ position_from_yields_List (λ b. eqb b c.args.byte) _ _ c.position.result c.position.ensures.ran (YieldsList-from_slice _ c.iter.ensures.rest) (λ x b q k. search (rules, tests)))
