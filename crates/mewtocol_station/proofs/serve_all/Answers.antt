-- What was read decides, and then the verdict: carried out, or silence with 12. Assumes nothing.
use mathlib.Core.Path.{refl, sym, ap, ◌∙◌}
use mathlib.Core.List.{List}
use Prim.Native.Nat.{ℕ}
use native.Mathlib.Omega.{arith}
use borrow.Author.Tests.{not-true, not-false}
use Rattle.table_registers.specs.Operation.{is_granted}
use Rattle.table_registers.specs.Profile.{verdict}
use Rattle.table_registers.proofs.Done.{refused-keeps}
use Rattle.rules.proofs.Choose.{via}
use Rattle.station.specs.Site.{writes, is_good, Done}
use Rattle.station.specs.Outcome.{silent, carried}
use Rattle.station.proofs.Calls.{is-silent, is_carried, all_read, all-error, all_done}
use Rattle.station.proofs.Done.{done-as, said-good}
use Rattle.mewtocol_frame.specs.Frame.{text_of}
use Rattle.mewtocol_requests.specs.Requests.{Request}
use Rattle.mewtocol_requests.specs.Hearing.{read_frame}
use Rattle.mewtocol_requests.specs.Code.{request_of, words_in}
use Rattle.mewtocol_station.specs.Replies.{operation_of, reply_of}
use Rattle.mewtocol_station.specs.Station.{errors, reading_asks}
use Rattle.mewtocol_station.proofs.Readings.{asked-faulty, asked-request, asked-sound, left_by}
use Rattle.mewtocol_station.proofs.serve_all.Goals as goal

pub returns-then-not-writes : goal.returns-then-not-writes
returns-then-not-writes c = λ room. let a = c.args in
    let f = a.frame.now in
    let cs = c.read_frame.new.contacts in
    let vs = c.read_frame.new.values in
    let says = c.read_frame.ensures.says 0 (text_of f) refl in
    let is = asked-request a.limits f cs vs _ says _ c.in-Asks.is in
    let reads = ap writes is ∙ sym (c.writes.ensures cs vs (words_in (text_of f))) ∙ not-true _ c.if-not-writes.true-raw in
    is-silent _ (all_read a.words.now room (reading_asks (read_frame a.limits f)) _ reads)

pub carry_out-verdict-requires : goal.carry_out-verdict-requires
carry_out-verdict-requires c = let a = c.args in
    let f = a.frame.now in
    let cs = c.read_frame.new.contacts in
    let vs = c.read_frame.new.values in
    let says = c.read_frame.ensures.says 0 (text_of f) refl in
    (omega (arith, c.read_frame.auto.contacts), omega (arith, c.read_frame.auto.values), (a.limits, asked-sound a.limits f cs vs _ says _ c.in-Asks.is))

pub returns-in-Faulty : goal.returns-in-Faulty
returns-in-Faulty c = λ room. let a = c.args in
    let f = a.frame.now in
    let cs = c.read_frame.new.contacts in
    let vs = c.read_frame.new.values in
    let says = c.read_frame.ensures.says 0 (text_of f) refl in
    is-silent _ (all_read a.words.now room (reading_asks (read_frame a.limits f)) _ (ap writes (asked-faulty a.limits f cs vs _ says _ c.in-Faulty.is)))

pub returns-then-is_granted : goal.returns-then-is_granted
returns-then-is_granted c = λ room. let a = c.args in
    let f = a.frame.now in
    let cs = c.read_frame.new.contacts in
    let vs = c.read_frame.new.values in
    let says = c.read_frame.ensures.says 0 (text_of f) refl in
    let is = asked-request a.limits f cs vs _ says _ c.in-Asks.is in
    let q : Request = request_of c.in-Asks.request cs vs (words_in (text_of f)) in
    let judge = verdict a.profile a.attributes.now in
    let left = left_by judge a.words.now is ∙ done-as errors judge a.words.now (operation_of q) (reply_of q) c.carry_out-verdict.ensures in
    let written = ap writes is ∙ sym (c.writes.ensures cs vs (words_in (text_of f))) ∙ not-false _ c.if-not-writes.false-raw in
    is_carried (all_done a.words.now room (reading_asks (read_frame a.limits f)) _ written (ap (λ (d : Done). is_good d.says) left ∙ said-good errors _ c.carry_out-verdict.result ∙ via c.is_granted.ensures c.if-is_granted.true)
    ∙ ap (λ (d : Done). carried room d.words) left)

pub returns-else-is_granted : goal.returns-else-is_granted
returns-else-is_granted c = λ room. let a = c.args in
    let f = a.frame.now in
    let cs = c.read_frame.new.contacts in
    let vs = c.read_frame.new.values in
    let says = c.read_frame.ensures.says 0 (text_of f) refl in
    let is = asked-request a.limits f cs vs _ says _ c.in-Asks.is in
    let q : Request = request_of c.in-Asks.request cs vs (words_in (text_of f)) in
    let judge = verdict a.profile a.attributes.now in
    let left = left_by judge a.words.now is ∙ done-as errors judge a.words.now (operation_of q) (reply_of q) c.carry_out-verdict.ensures in
    let refused = via c.is_granted.ensures c.if-is_granted.false in
    let stays = c.carry_out-verdict.ensures.words-is ∙ refused-keeps (operation_of q) a.words.now (judge a.words.now (operation_of q)) (ap is_granted (sym c.carry_out-verdict.ensures.verdict-is) ∙ refused) in
    is-silent _ (all-error a.words.now room (reading_asks (read_frame a.limits f)) _ (ap (λ (d : Done). is_good d.says) left ∙ said-good errors _ c.carry_out-verdict.result ∙ refused)
    ∙ ap (λ (w : List ℕ). silent w room 12) (sym stays))
