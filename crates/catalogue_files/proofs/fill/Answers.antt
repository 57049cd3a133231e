-- Each way goes by the tests that led there. Assumes nothing.
use Rattle.rules.proofs.Choose.{via}
use Rattle.catalogue_files.proofs.Entry.{refused-1, refused-20, refused-21, refused-22, refused-23, refused-24, taken}
use Rattle.catalogue_files.proofs.fill.Goals as goal

pub returns-then-lent : goal.returns-then-lent
returns-then-lent c =
    let a = c.args in
    refused-1 a.file.now a.name.now a.attributes.now
    c.if-lent.true

pub returns-then-not-well_formed : goal.returns-then-not-well_formed
returns-then-not-well_formed c =
    let at_1 = c in
    let a = at_1.args in
    refused-20 a.file.now a.name.now a.attributes.now
    at_1.if-lent.false (via c.well_formed-2.ensures c.if-not-well_formed.true)

pub returns-then-is_deeper : goal.returns-then-is_deeper
returns-then-is_deeper c =
    let at-2 = c in
    let at_1 = at-2 in
    let a = at_1.args in
    refused-21 a.file.now a.name.now a.attributes.now
    at_1.if-lent.false (via at-2.well_formed-2.ensures at-2.if-not-well_formed.false) (via c.is_deeper.ensures c.if-is_deeper.true)

pub returns-then-any_refused : goal.returns-then-any_refused
returns-then-any_refused c =
    let at-3 = c in
    let at-2 = at-3 in
    let at_1 = at-2 in
    let a = at_1.args in
    refused-22 a.file.now a.name.now a.attributes.now
    at_1.if-lent.false (via at-2.well_formed-2.ensures at-2.if-not-well_formed.false) (via at-3.is_deeper.ensures at-3.if-is_deeper.false) (via c.any_refused.ensures c.if-any_refused.true)

pub returns-then-is_twice : goal.returns-then-is_twice
returns-then-is_twice c =
    let at-4 = c in
    let at-3 = at-4 in
    let at-2 = at-3 in
    let at_1 = at-2 in
    let a = at_1.args in
    refused-23 a.file.now a.name.now a.attributes.now
    at_1.if-lent.false (via at-2.well_formed-2.ensures at-2.if-not-well_formed.false) (via at-3.is_deeper.ensures at-3.if-is_deeper.false) (via at-4.any_refused.ensures at-4.if-any_refused.false) (via c.is_twice.ensures c.if-is_twice.true)

pub returns-then-not-is_named : goal.returns-then-not-is_named
returns-then-not-is_named c =
    let at_5 = c in
    let at-4 = at_5 in
    let at-3 = at-4 in
    let at-2 = at-3 in
    let at_1 = at-2 in
    let a = at_1.args in
    refused-24 a.file.now a.name.now a.attributes.now
    at_1.if-lent.false (via at-2.well_formed-2.ensures at-2.if-not-well_formed.false) (via at-3.is_deeper.ensures at-3.if-is_deeper.false) (via at-4.any_refused.ensures at-4.if-any_refused.false) (via at_5.is_twice.ensures at_5.if-is_twice.false) (via c.is_named.ensures c.if-not-is_named.true)

pub returns : goal.returns
returns c =
    let at-6 = c in
    let at_5 = at-6 in
    let at-4 = at_5 in
    let at-3 = at-4 in
    let at-2 = at-3 in
    let at_1 = at-2 in
    let a = at_1.args in
    taken a.file.now a.name.now a.attributes.now
    at_1.if-lent.false (via at-2.well_formed-2.ensures at-2.if-not-well_formed.false) (via at-3.is_deeper.ensures at-3.if-is_deeper.false) (via at-4.any_refused.ensures at-4.if-any_refused.false) (via at_5.is_twice.ensures at_5.if-is_twice.false) (via at-6.is_named.ensures at-6.if-not-is_named.false) _ c.put_all.ensures
