-- Each arm is one layout. Assumes nothing.
use mathlib.Core.Path.{sym, ap₂, ◌∙◌}
use mathlib.Core.List.{List, [], ◌∷◌}
use Prim.Native.Nat.{ℕ, ◌≤◌, ◌<◌}
use native.Mathlib.Omega.{arith}
use borrow.Author.Tests.{le-leb, lt-leb, eq-eqb}
use lib.ListN.{drop}
use Rattle.rules.specs.Choice.{between}
use Rattle.rules.proofs.Choose.{via, is-between}
use Rattle.mewtocol_commands.specs.Rows.{times}
use Rattle.mewtocol_commands.specs.Code.{row_of}
use Rattle.mewtocol_commands.specs.declared.Field.{Field}
use Rattle.mewtocol_commands.specs.declared.Field.TheVariants.{Word}
use Rattle.mewtocol_asking.specs.Asking.{fit}
use Rattle.mewtocol_asking.specs.Code.{numbers_for}
use Rattle.mewtocol_asking.proofs.Fit.{fit_append}
use Rattle.mewtocol_asking.proofs.fits.Goals as goal

pub returns-then-n-lt1 : goal.returns-then-n-lt1
unfolding between
returns-then-n-lt1 c = let n = c.args.n in let h : n < 1 = omega arith in rw (c.in-Counted.is, lt-leb 1 n h)

pub returns-then-n-gt8 : goal.returns-then-n-gt8
unfolding between
returns-then-n-gt8 c = let n = c.args.n in let h : 8 < n = omega arith in let g : 1 ≤ n = omega arith in rw (c.in-Counted.is, le-leb 1 n g, lt-leb n 8 h)

pub returns-then-not-fits_row : goal.returns-then-not-fits_row
returns-then-not-fits_row c =
    let a = c.args in
    let ns = numbers_for a.asking.now in
    rw (c.in-WithWords.is, eq-eqb a.n _ (c.if-n-span.false ∙ c.span.ensures.0))
    (sym (fit_append (row_of c.in-WithWords.row) (times a.n (Word ∷ [])) ns ∙ rw (via c.fits_row-in-WithWords.ensures c.if-not-fits_row.true)))

pub returns-else-n-gt8 : goal.returns-else-n-gt8
returns-else-n-gt8 c =
    let n = c.args.n in
    let g : 1 ≤ n = omega arith in
    let h : n ≤ 8 = omega arith in
    rw (c.in-Counted.is, is-between 1 8 n g h) c.fits_times.ensures

pub returns-else-not-fits_row : goal.returns-else-not-fits_row
returns-else-not-fits_row c =
    let a = c.args in
    let ns = numbers_for a.asking.now in
    let words-fit = c.fits_times-in-WithWords.ensures ∙ ap₂ (λ (u : List Field) (j : ℕ). fit (times a.n u) (drop j ns)) c.word.ensures c.numbers_in.ensures.0 in
    rw (c.in-WithWords.is, eq-eqb a.n _ (c.if-n-span.false ∙ c.span.ensures.0))
    (words-fit ∙ sym (fit_append (row_of c.in-WithWords.row) (times a.n (Word ∷ [])) ns ∙ rw (via c.fits_row-in-WithWords.ensures c.if-not-fits_row.false)))
