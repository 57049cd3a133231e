-- What the write said decides: a good reply, or an exception. Assumes nothing.
use mathlib.Core.Path.{ap, ◌∙◌}
use Rattle.table_registers.specs.Profile.{verdict}
use Rattle.station.proofs.Calls.{is-silent, is_carried}
use Rattle.modbus_body.specs.declared.Exception.{Exception}
use Rattle.std.specs.Prelude.{ℕ, Result}
use Rattle.modbus_body.specs.Said.{left}
use Rattle.modbus_body.proofs.ToAll.{write-good, write-error}
use Rattle.modbus_body.proofs.carry_out.Goals as goal

pub returns-in-Ok : goal.returns-in-Ok
returns-in-Ok c = λ room. let a = c.args in
    let w = c.write in
    is_carried (write-good (verdict a.profile a.attributes.now) a.words.now room a.body.now _ _ (w.ensures ∙ ap (λ (x : Result ℕ Exception). left a.body.now x w.new.words) c.in-Ok.is))

pub returns-in-Err : goal.returns-in-Err
returns-in-Err c = λ room. let a = c.args in
    let w = c.write in
    is-silent _ (write-error (verdict a.profile a.attributes.now) a.words.now room a.body.now _ _ (w.ensures ∙ ap (λ (x : Result ℕ Exception). left a.body.now x w.new.words) c.in-Err.is))
