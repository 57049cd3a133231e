-- Each way is a law of the steps. Assumes nothing.
use mathlib.Core.Path.{sym, ◌∙◌}
use borrow.Author.Tests.{not-true, not-false}
use Rattle.rules.proofs.Choose.{via}
use Rattle.mewtocol_commands.specs.Code.{layout_of}
use Rattle.mewtocol_steps.proofs.Ways.{fails-3, fails-4, fails-5, fails-6, fails-7, passes}
use Rattle.mewtocol_steps.proofs.tested.Goals as goal

pub returns-then-not-seen : goal.returns-then-not-seen
returns-then-not-seen c =
    let s = c in
    let a = s.args in
    fails-3 a.limits a.kind a.n a.text.now (layout_of s.layout-y.result) s.layout-y.ensures s.seen_in-seen.result s.seen_in-seen.ensures (via s.is_there.ensures s.if-not-is_there.false) (not-true _ c.if-not-seen.true)

pub returns-then-not-seen-2 : goal.returns-then-not-seen-2
returns-then-not-seen-2 c =
    let s = c in
    let a = s.args in
    fails-4 a.limits a.kind a.n a.text.now (layout_of s.layout-y.result) s.layout-y.ensures s.seen_in-seen.result s.seen_in-seen.ensures (via s.is_there.ensures s.if-not-is_there.false) (not-false _ c.if-not-seen.false) (not-true _ c.if-not-seen-2.true)

pub returns-then-not-good_range : goal.returns-then-not-good_range
returns-then-not-good_range c =
    let s = c in
    let a = s.args in
    fails-5 a.limits a.kind a.n a.text.now (layout_of s.layout-y.result) s.layout-y.ensures s.seen_in-seen.result s.seen_in-seen.ensures (via s.is_there.ensures s.if-not-is_there.false) (not-false _ c.if-not-seen.false) (not-false _ c.if-not-seen-2.false) c.first-start.result c.second-end.result c.first-start.ensures c.second-end.ensures (via c.good_range.ensures c.if-not-good_range.true)

pub returns-then-text-total : goal.returns-then-text-total
returns-then-text-total c =
    let s = c in
    let a = s.args in
    fails-6 a.limits a.kind a.n a.text.now (layout_of s.layout-y.result) s.layout-y.ensures s.seen_in-seen.result s.seen_in-seen.ensures (via s.is_there.ensures s.if-not-is_there.false) (not-false _ c.if-not-seen.false) (not-false _ c.if-not-seen-2.false) c.first-start.result c.second-end.result c.first-start.ensures c.second-end.ensures c.listed-k.result c.listed-k.ensures.0 (via c.good_range.ensures c.if-not-good_range.false) (λ e. c.if-text-total.true (e ∙ sym c.total.ensures))

pub returns-then-not-right_data : goal.returns-then-not-right_data
returns-then-not-right_data c =
    let s = c in
    let a = s.args in
    fails-7 a.limits a.kind a.n a.text.now (layout_of s.layout-y.result) s.layout-y.ensures s.seen_in-seen.result s.seen_in-seen.ensures (via s.is_there.ensures s.if-not-is_there.false) (not-false _ c.if-not-seen.false) (not-false _ c.if-not-seen-2.false) c.first-start.result c.second-end.result c.first-start.ensures c.second-end.ensures c.listed-k.result c.listed-k.ensures.0 (via c.good_range.ensures c.if-not-good_range.false) (c.if-text-total.false ∙ c.total.ensures) (via c.right_data.ensures c.if-not-right_data.true)

pub returns : goal.returns
returns c =
    let s = c in
    let a = s.args in
    passes a.limits a.kind a.n a.text.now (layout_of s.layout-y.result) s.layout-y.ensures s.seen_in-seen.result s.seen_in-seen.ensures (via s.is_there.ensures s.if-not-is_there.false) (not-false _ c.if-not-seen.false) (not-false _ c.if-not-seen-2.false) c.first-start.result c.second-end.result c.first-start.ensures c.second-end.ensures c.listed-k.result c.listed-k.ensures.0 (via c.good_range.ensures c.if-not-good_range.false) (c.if-text-total.false ∙ c.total.ensures) (via c.right_data.ensures c.if-not-right_data.false)
