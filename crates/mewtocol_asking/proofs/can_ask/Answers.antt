-- The tests are those of the definition. Assumes nothing.
use mathlib.Core.Path.{◌≡◌, refl, sym, ap, ap₂, ◌∙◌}
use mathlib.Core.Bool.{Bool, true, false}
use Prim.Native.Nat.{ℕ}
use Rattle.rules.specs.Choice.{both}
use Rattle.rules.proofs.Choose.{via}
use Rattle.mewtocol_commands.specs.Commands.{Entry, entry, Layout, layout, fields_of, good_range}
use Rattle.mewtocol_asking.specs.Asking.{listed_by, right_count, fit, start_of, end_of, can_ask}
use Rattle.mewtocol_asking.specs.Code.{request_of, numbers_for}
use Rattle.mewtocol_asking.proofs.can_ask.Goals as goal

both-both : (a b c : Bool) → both a (both b c) ≡ both (both a b) c
both-both true b c = refl
both-both false b c = refl

pub returns-then-not-fits : goal.returns-then-not-fits
unfolding can_ask
returns-then-not-fits c =
    let a = c.args in
    let q = request_of a.asking.now in
    let ns = numbers_for a.asking.now in
    let k = (entry a.asking.now.command).kind in
    let y = c.layout-y.ensures ∙ ap (λ (e : Entry). layout e.kind) c.entry-e.ensures in
    let four : c.fits.result ≡ both (right_count (layout k) (listed_by q) (start_of q) (end_of q)) (fit (fields_of (layout k) (listed_by q)) ns) =
    c.fits.ensures
    ∙ ap₂ (λ (z : Layout) (n : ℕ). both (right_count z n c.number-start.result c.number-end.result) (fit (fields_of z n) ns)) y c.listed-n.ensures
    ∙ ap₂ (λ (s e : ℕ). both (right_count (layout k) (listed_by q) s e) (fit (fields_of (layout k) (listed_by q)) ns)) c.number-start.ensures c.number-end.ensures in
    sym (both-both (right_count (layout k) (listed_by q) (start_of q) (end_of q)) (fit (fields_of (layout k) (listed_by q)) ns) (good_range a.limits k (start_of q) (end_of q)) ∙ rw (via four c.if-not-fits.true) refl)

pub returns : goal.returns
unfolding can_ask
returns c =
    let a = c.args in
    let q = request_of a.asking.now in
    let ns = numbers_for a.asking.now in
    let k = (entry a.asking.now.command).kind in
    let y = c.layout-y.ensures ∙ ap (λ (e : Entry). layout e.kind) c.entry-e.ensures in
    let four : c.fits.result ≡ both (right_count (layout k) (listed_by q) (start_of q) (end_of q)) (fit (fields_of (layout k) (listed_by q)) ns) =
    c.fits.ensures
    ∙ ap₂ (λ (z : Layout) (n : ℕ). both (right_count z n c.number-start.result c.number-end.result) (fit (fields_of z n) ns)) y c.listed-n.ensures
    ∙ ap₂ (λ (s e : ℕ). both (right_count (layout k) (listed_by q) s e) (fit (fields_of (layout k) (listed_by q)) ns)) c.number-start.ensures c.number-end.ensures in
    let five : c.good_range.result ≡ good_range a.limits k (start_of q) (end_of q) =
    c.good_range.ensures ∙ ap (λ (e : Entry). good_range a.limits e.kind c.number-start.result c.number-end.result) c.entry-e.ensures
    ∙ ap₂ (λ (s e : ℕ). good_range a.limits k s e) c.number-start.ensures c.number-end.ensures in
    sym (both-both (right_count (layout k) (listed_by q) (start_of q) (end_of q)) (fit (fields_of (layout k) (listed_by q)) ns) (good_range a.limits k (start_of q) (end_of q)) ∙ rw (via four c.if-not-fits.false) (sym five))
