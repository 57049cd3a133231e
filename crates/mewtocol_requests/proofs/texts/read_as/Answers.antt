-- Each arm is one layout. Assumes nothing.
use borrow.Author.Rules.{rules}
use mathlib.Core.Path.{◌≡◌, refl, sym, ap, ◌∙◌}
use Prim.Native.Nat.{◌-◌}
use native.Mathlib.Omega.{arith}
use borrow.Author.Tests.{le-ltb, lt-ltb}
use lib.ListN.{length}
use mathlib.Core.Bool.{false}
use Rattle.rules.specs.Choice.{between}
use Rattle.rules.proofs.Choose.{via, in-range}
use Rattle.mewtocol_requests.specs.Reading.{read_fields, read_as}
use Rattle.mewtocol_commands.specs.Code.{layout_of}
use Rattle.mewtocol_requests.proofs.Answers.{reads_same, reads-after, faulty-reads, as-laid-out}
use Rattle.mewtocol_requests.proofs.texts.read_as.Goals as goal

pub returns-then-text-eq0 : goal.returns-then-text-eq0
returns-then-text-eq0 c =
    let a = c.args in
    let y = sym c.layout.ensures ∙ ap layout_of c.in-Counted.is in
    faulty-reads _ _ a.text.now a.contacts.now a.values.now (as-laid-out a.limits a.kind a.text.now _ y ∙ rw (le-ltb 0 (length a.text.now) (omega arith)))

pub returns-then-not-is_between : goal.returns-then-not-is_between
returns-then-not-is_between c =
    let a = c.args in
    let y = sym c.layout.ensures ∙ ap layout_of c.in-Counted.is in
    let bad : between 49 56 c.byte_at-b.result ≡ false = via c.is_between.ensures c.if-not-is_between.true in
    faulty-reads _ _ a.text.now a.contacts.now a.values.now
    (as-laid-out a.limits a.kind a.text.now _ y ∙ rw (lt-ltb 0 (length a.text.now) (omega arith), ← c.byte_at-b.ensures, bad))

pub overflow_sub-b : goal.overflow_sub-b
overflow_sub-b c = omega (arith, in-range 49 56 _ (via c.is_between.ensures c.if-not-is_between.false))

pub read_fields-requires-in-Counted : goal.read_fields-requires-in-Counted
read_fields-requires-in-Counted c = (omega (arith, in-range 49 56 _ (via c.is_between.ensures c.if-not-is_between.false)), search rules, search rules)

pub returns-in-Once : goal.returns-in-Once
returns-in-Once c =
    let a = c.args in
    let y = sym c.layout.ensures ∙ ap layout_of c.in-Once.is in
    reads_same (sym (as-laid-out a.limits a.kind a.text.now _ y)) c.read_fields.ensures

pub returns-in-WithWords : goal.returns-in-WithWords
returns-in-WithWords c =
    let a = c.args in
    let y = sym c.layout.ensures ∙ ap layout_of c.in-WithWords.is in
    reads_same (sym (as-laid-out a.limits a.kind a.text.now _ y)) c.read_fields-in-WithWords.ensures

pub returns-else-not-is_between : goal.returns-else-not-is_between
returns-else-not-is_between c =
    let a = c.args in
    let t = a.text.now in
    let y = sym c.layout.ensures ∙ ap layout_of c.in-Counted.is in
    let good = via c.is_between.ensures c.if-not-is_between.false in
    let is : read_as a.limits a.kind t ≡ read_fields a.limits a.kind (c.byte_at-b.result - 48) c.rest.result.now =
    as-laid-out a.limits a.kind t _ y ∙ rw (lt-ltb 0 (length t) (omega arith), ← c.byte_at-b.ensures, good, ← c.rest.ensures) refl in
    reads_same (sym is) (reads-after 1 t c.rest.result.now c.rest.ensures c.read_fields-in-Counted.ensures)
