-- Each way says which request it is. Assumes nothing.
use mathlib.Core.Path.{sym, ap}
use lib.Dec.{ltb}
use Rattle.table_registers.specs.Operation.{need}
use Rattle.mewtocol_requests.specs.declared.Request.{Request}
use Rattle.mewtocol_requests.specs.Code.{request_of}
use Rattle.mewtocol_station.specs.Replies.{operation_of}
use Rattle.mewtocol_station.proofs.doing.writes.Goals as goal

pub returns-in-ReadContacts : goal.returns-in-ReadContacts
unfolding operation_of
returns-in-ReadContacts c = λ cs vs ws. ap (λ (q : Request). ltb 1 (need (operation_of (request_of q cs vs ws)))) (sym c.in-ReadContacts.is)

pub returns-in-ReadRange : goal.returns-in-ReadRange
unfolding operation_of
returns-in-ReadRange c = λ cs vs ws. ap (λ (q : Request). ltb 1 (need (operation_of (request_of q cs vs ws)))) (sym c.in-ReadRange.is)

pub returns-in-WriteContacts : goal.returns-in-WriteContacts
unfolding operation_of
returns-in-WriteContacts c = λ cs vs ws. ap (λ (q : Request). ltb 1 (need (operation_of (request_of q cs vs ws)))) (sym c.in-WriteContacts.is)

pub returns-in-WriteRange : goal.returns-in-WriteRange
unfolding operation_of
returns-in-WriteRange c = λ cs vs ws. ap (λ (q : Request). ltb 1 (need (operation_of (request_of q cs vs ws)))) (sym c.in-WriteRange.is)

pub returns-in-Fill : goal.returns-in-Fill
unfolding operation_of
returns-in-Fill c = λ cs vs ws. ap (λ (q : Request). ltb 1 (need (operation_of (request_of q cs vs ws)))) (sym c.in-Fill.is)
