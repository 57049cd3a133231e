-- What is wrong decides, and then the sub-function. Assumes nothing.
use mathlib.Core.Path.{sym, ap, ◌∙◌}
use mathlib.Core.List.{◌++◌}
use Prim.Native.Nat.{ℕ}
use borrow.Author.Tests.{le-leb, lt-leb}
use lib.ListN.{take}
use Rattle.station.proofs.Done.{put_as}
use Rattle.modbus_body.specs.Body.{exception}
use Rattle.modbus_body.specs.Bytes.{word_bytes}
use Rattle.modbus_counters.specs.Diagnosis as dg
use Rattle.modbus_counters.proofs.Told.{told-wrong, told-echo, told-count}
use Rattle.modbus_counters.proofs.diagnosis.diagnose.Goals as goal

pub returns-then-sub-le10 : goal.returns-then-sub-le10
returns-then-sub-le10 c = λ judge words. let a = c.args in
    put_as (told-echo a.counters a.body.now judge words (sym c.fault_in.ensures ∙ ap dg.fault_given c.in-None.is) (rw (← c.word_at-sub.ensures) (le-leb _ _ c.if-sub-le10.true))) c.echo.ensures

pub returns-in-Some : goal.returns-in-Some
returns-in-Some c = λ judge words. let a = c.args in
    put_as (told-wrong a.counters a.body.now judge words _ (sym c.fault_in.ensures ∙ ap dg.fault_given c.in-Some.is) ∙ ap (exception a.body.now) (sym c.number.ensures)) c.refuse.ensures

pub returns-else-sub-le10 : goal.returns-else-sub-le10
returns-else-sub-le10 c = λ judge words. let a = c.args in
    put_as (told-count a.counters a.body.now judge words (sym c.fault_in.ensures ∙ ap dg.fault_given c.in-None.is) (rw (← c.word_at-sub.ensures) (lt-leb _ _ c.if-sub-le10.false))
    ∙ ap (λ (n : ℕ). take 3 a.body.now ++ word_bytes n) (ap (λ (s : ℕ). dg.count_at s a.counters) (sym c.word_at-sub.ensures) ∙ sym c.count_of.ensures)) c.show.ensures
