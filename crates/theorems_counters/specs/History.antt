-- After any list of Modbus calls each counter is the number of calls since the last clear that it counts, cut at FFFFh; what 0B to 0F show is
-- that number; below the cut the own messages are the good replies, the exceptions and those without a response (RULES B21, B22); without a
-- profile a call leaves the counters that it left before there were any (RULES N12). Proved in proofs/Counted. Assumes nothing.
use Rattle.std.specs.Prelude.{ℕ, ◌+◌, ◌≤◌, ◌<◌, min, Bool, true, false, List, [], ◌∷◌, ◌++◌, map, ◌≡◌, eqb, length}
use Rattle.rules.specs.Choice.{pick}
use Rattle.rules.specs.Tests.{first}
use Rattle.table_registers.specs.declared.Profile.TheVariants.{Free}
use Rattle.station.specs.Site.{Site, site_of, plain_site, is_good, Done, done}
use Rattle.station.specs.Outcome.{Outcome, silent, sent}
use Rattle.station.specs.Station.{call_tests}
use Rattle.station.specs.declared.Whom.TheVariants.{This, All, Other}
use Rattle.modbus_body.specs.Body.{function, exceptions, reply_to}
use Rattle.modbus_counters.specs.Counters.{counters, cleared, Fate, stopped, came}
use Rattle.modbus_counters.specs.Diagnosis.{diagnosed, asks_clear}
use Rattle.modbus_counters.specs.declared.Counters.{Counters}
use Rattle.modbus_line.specs.Framing.{answered, Framing}
use Rattle.modbus_line.specs.Calls.{fate, shown, line_station, counters_after}

-- ---- a list of calls, the oldest first

-- what a Modbus call is given beside the counters; every call may have a framing, a table and a room of its own
pub record Turn : Type 0 where
  pub framing : Framing
  pub site : Site
  pub words : List ℕ
  pub frame : List ℕ
  pub room : List ℕ

abbrev pub body_of : Turn → List ℕ
body_of t = t.framing.body t.frame

-- how far it comes: 1, 2 and 3 stop a call before its frame is looked at
unfoldable pub fate_of : Turn → Fate
fate_of t = first stopped (call_tests 247 513 t.site (length t.words) (length t.room)) (fate t.framing t.site.own t.frame)

-- what is made of its body, given the host's counters
abbrev pub answer_of : Turn → Counters → Done
answer_of t c = answered (shown t.framing t.site.own t.frame c) t.site.judge t.words (body_of t)

abbrev pub outcome_of : Turn → Counters → Outcome
outcome_of t c = line_station t.framing c t.site t.words t.frame t.room

abbrev pub leaves : Turn → Counters → Counters
leaves t c = counters_after t.framing c t.site t.words t.frame t.room

-- the counters after all of them, one call's counters given to the next
abbrev pub after : Counters → List Turn → Counters
after c [] = c
after c (t ∷ ts) = after (leaves t c) ts

-- ---- what a call was to the counters

pub data Kind : Type 0 where
  uncounted : Kind
  wrong_check : Kind
  for_other : Kind
  for_all : Kind
  good_reply : Kind
  exception_reply : Kind
  clear : Kind

-- of a call that came so far, whose body asks for a clear or not, and gets a good reply or not
abbrev pub kind : Fate → Bool → Bool → Kind
kind (stopped k) clears good = pick (eqb k 11) wrong_check uncounted
kind (came Other) clears good = for_other
kind (came All) clears good = for_all
kind (came This) clears good = pick good (pick clears clear good_reply) exception_reply

-- that a reply is good does not hang on the counters (`Replies`), so it is asked with all at zero
unfoldable pub kind_of : Turn → Kind
kind_of t = kind (fate_of t) (asks_clear (body_of t)) (is_good (answered cleared t.site.judge t.words (body_of t)).says)

-- ---- since the last clear

abbrev pub is_clear : Kind → Bool
is_clear uncounted = false
is_clear wrong_check = false
is_clear for_other = false
is_clear for_all = false
is_clear good_reply = false
is_clear exception_reply = false
is_clear clear = true

abbrev pub any_clear : List Kind → Bool
any_clear [] = false
any_clear (k ∷ ks) = pick (is_clear k) true (any_clear ks)

-- what comes after the last clear, or all where there is none
abbrev pub since_clear : List Kind → List Kind
since_clear [] = []
since_clear (k ∷ ks) = pick (any_clear ks) (since_clear ks) (pick (is_clear k) ks (k ∷ ks))

abbrev pub history : List Turn → List Kind
history ts = since_clear (map kind_of ts)

-- ---- which counter counts what: bus, damaged, exceptions, own, unanswered

abbrev pub tally : Kind → Counters
tally uncounted = counters 0 0 0 0 0
tally wrong_check = counters 0 1 0 0 0
tally for_other = counters 1 0 0 0 0
tally for_all = counters 1 0 0 1 1
tally good_reply = counters 1 0 0 1 0
tally exception_reply = counters 1 0 1 1 0
tally clear = counters 0 0 0 0 0

abbrev pub plus : Counters → Counters → Counters
plus c d = counters (c.bus + d.bus) (c.damaged + d.damaged) (c.exceptions + d.exceptions) (c.own + d.own) (c.unanswered + d.unanswered)

-- how many calls of a list each counter counts
abbrev pub total : List Kind → Counters
total [] = cleared
total (k ∷ ks) = plus (tally k) (total ks)

abbrev pub cut : Counters → Counters
cut c = counters (min c.bus 0xFFFF) (min c.damaged 0xFFFF) (min c.exceptions 0xFFFF) (min c.own 0xFFFF) (min c.unanswered 0xFFFF)

-- the good replies among them; a clear is one too, but none since the clear
abbrev pub good : Kind → ℕ
good uncounted = 0
good wrong_check = 0
good for_other = 0
good for_all = 0
good good_reply = 1
good exception_reply = 0
good clear = 1

abbrev pub good_replies : List Kind → ℕ
good_replies [] = 0
good_replies (k ∷ ks) = good k + good_replies ks

-- ---- the statements

-- every counter, after any calls that began at zero
abbrev pub History : Type 0
History = (ts : List Turn) → after cleared ts ≡ cut (total (history ts))

-- and that began at any record a host may have: the counts go on from there, and a clear forgets them
pub record Fits (c : Counters) : Type 0 where
  pub bus : c.bus ≤ 0xFFFF
  pub damaged : c.damaged ≤ 0xFFFF
  pub exceptions : c.exceptions ≤ 0xFFFF
  pub own : c.own ≤ 0xFFFF
  pub unanswered : c.unanswered ≤ 0xFFFF

pub record Onward : Type 0 where
  pub goes_on : (c : Counters) (ts : List Turn) → Fits c → any_clear (map kind_of ts) ≡ false → after c ts ≡ cut (plus c (total (map kind_of ts)))
  pub forgets : (c : Counters) (ts : List Turn) → any_clear (map kind_of ts) ≡ true → after c ts ≡ cut (total (history ts))

-- what a good reply to function 08 says is over the counts of the history that ends with itself
abbrev pub Shows : Type 0
Shows = (ts : List Turn) (t : Turn) → kind_of t ≡ good_reply → function (body_of t) ≡ 0x08
    → (answer_of t (after cleared ts)).says ≡ (done exceptions t.site.judge t.words (diagnosed (cut (total (history (ts ++ (t ∷ []))))) (body_of t))).says

-- own messages, below the cut; where they are below it, exceptions and messages without a response are too
abbrev pub Balance : Type 0
Balance = (ts : List Turn) → (after cleared ts).own < 0xFFFF
    → (after cleared ts).own ≡ good_replies (history ts) + (after cleared ts).exceptions + (after cleared ts).unanswered

-- "since the last clear" says what it should: after a clear comes what comes, and without one all of it
pub record Since : Type 0 where
  pub all-of-it : (ks : List Kind) → any_clear ks ≡ false → since_clear ks ≡ ks
  pub after-clear : (older newer : List Kind) → any_clear newer ≡ false → since_clear (older ++ (clear ∷ newer)) ≡ newer
  pub no-clear : (ks : List Kind) → any_clear (since_clear ks) ≡ false

-- what the kinds of the own station's calls are: a reply went out, good or an exception, whatever the counters were
abbrev pub Went : Kind → Bool → Type 0
Went k good = (t : Turn) (c : Counters) → kind_of t ≡ k → let d : Done = answer_of t c in
    (outcome_of t c ≡ sent t.room (t.framing.framed t.site.own (reply_to (body_of t) d.says)) d.words) × (is_good d.says ≡ good)

pub record Replies : Type 0 where
  pub good-replies : Went good_reply true
  pub exception-replies : Went exception_reply false
  pub clears : Went clear true

-- a call that a number stops gives that number and leaves words and room; a wrong check is what 11 stops
pub record Silences : Type 0 where
  pub stopped_by : (t : Turn) (c : Counters) (k : ℕ) → fate_of t ≡ stopped k → outcome_of t c ≡ silent t.words t.room k
  pub wrong-checks : (t : Turn) → kind_of t ≡ wrong_check → fate_of t ≡ stopped 11

-- without a profile a call leaves the counters that it left when the attributes alone decided
abbrev pub CountersSame : Type 0
CountersSame = (m : Framing) (c : Counters) (attributes : List ℕ) (own : ℕ) (words frame room : List ℕ)
    → counters_after m c (site_of attributes Free own) words frame room ≡ counters_after m c (plain_site attributes own) words frame room
