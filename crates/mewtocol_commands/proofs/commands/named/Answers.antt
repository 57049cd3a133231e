-- The invariant: the answer of the whole table is that of the rows that are left. Assumes nothing.
use mathlib.Core.Path.{◌≡◌, sym, ap, ◌∙◌}
use mathlib.Core.List.{List}
use Prim.Native.Nat.{ℕ, ◌+◌, ◌<◌}
use native.Mathlib.Numerals.{add-one}
use lib.ListN.{get_or, drop, drop_of_length-le}
use lib.Seq.{drop-cons}
use Rattle.rules.specs.Choice.{pick}
use Rattle.rules.proofs.Choose.{via, pick_yes, pick_no}
use Rattle.mewtocol_frame.specs.Text.{starts}
use Rattle.mewtocol_commands.specs.Commands.{Entry, entry, commands, named}
use Rattle.mewtocol_commands.specs.declared.Command.{Command}
use Rattle.mewtocol_commands.specs.declared.Command.TheVariants.{RCS}
use Rattle.mewtocol_commands.specs.declared.Named.TheVariants.{Is}
use Rattle.mewtocol_commands.proofs.commands.named.Goals as goal

-- one row more is looked at
turn : (t : List ℕ) (i : ℕ) → i < 9 → let c = get_or commands i RCS in named (drop i commands) t ≡ pick (starts (entry c).name t) (Is c) (named (drop (i + 1) commands) t)
unfolding named
turn t i h =
    let c = get_or commands i RCS in
    ap (λ (l : List Command). named l t) (drop-cons commands i RCS h)
    ∙ ap (λ (k : ℕ). pick (starts (entry c).name t) (Is c) (named (drop k commands) t)) (sym (add-one i))

pub returns-then-begins : goal.returns-then-begins
returns-then-begins c =
    let t = c.args.text.now in
    let e = ap (λ (r : Entry). starts r.name t) c.entry.ensures in
    via (turn t c.loop-c.c-index c.loop-c-test.true ∙ pick_yes _ _ _ (sym e ∙ via c.begins.ensures c.if-begins.true)) c.loop-c.invariant

pub loop-c-preserved : goal.loop-c-preserved
loop-c-preserved c =
    let t = c.args.text.now in
    let e = ap (λ (r : Entry). starts r.name t) c.entry.ensures in
    via (turn t c.loop-c.c-index c.loop-c-test.true ∙ pick_no _ _ _ (sym e ∙ via c.begins.ensures c.if-begins.false)) c.loop-c.invariant

pub returns : goal.returns
unfolding named
returns c = via (ap (λ (l : List Command). named l c.args.text.now) (drop_of_length-le commands c.loop-c-test.false)) c.loop-c.invariant
