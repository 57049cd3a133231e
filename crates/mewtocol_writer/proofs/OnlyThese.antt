-- No text asks for what can't be written: what passed the steps has its counts, its order and its bounds. Assumes nothing.
use mathlib.Core.Path.{◌≡◌, refl}
use mathlib.Core.List.{List, [], ◌∷◌}
use mathlib.Core.Bool.{Bool, true, false}
use Prim.Native.Nat.{ℕ, suc, ◌<◌}
use native.Mathlib.Omega.{arith}
use borrow.Author.Tests.{lt-ltb, le-leb, eq-eqb}
use lib.Dec.{eqb, ltb}
use lib.ListN.{length, get_or}
use Rattle.rules.specs.Choice.{pick, between}
use Rattle.rules.proofs.Choose.{is-between}
use Rattle.mewtocol_frame.specs.declared.Limits.{Limits}
use Rattle.mewtocol_frame.specs.Text.{span, up_to}
use Rattle.mewtocol_commands.specs.Fields.{room}
use Rattle.mewtocol_commands.specs.Rows.{contact, setting, times}
use Rattle.mewtocol_requests.specs.Requests.{Setting, read_contacts, contacts_in, values_in}
use Rattle.mewtocol_requests.specs.Sound.{Sound, Short, Few}
use Rattle.mewtocol_commands.specs.declared.Command.TheVariants.{RCS, RCP}
use Rattle.mewtocol_commands.specs.declared.Field.TheVariants.{Relay, Register, Contact, Value, Word}
use Rattle.mewtocol_requests.proofs.Sound.{asked-sound}
use Rattle.mewtocol_asking.specs.Asking.{◌for◌, asking, request_in, settings_of, spread, fit, can_ask}
use Rattle.mewtocol_asking.specs.declared.Ask.{Ask}
use Rattle.mewtocol_asking.specs.declared.Ask.TheVariants as ask
use Rattle.mewtocol_writer.specs.Statements.{OnlyThese}

-- ---- lists whose elements are below a bound fit their fields

fit-contacts : (cs : List ℕ) → ((i : ℕ) → get_or cs i 0 < room Contact) → fit (times (length cs) contact) cs ≡ true
unfolding fit times
fit-contacts [] h = refl
fit-contacts (c ∷ cs) h = rw (lt-ltb c (room Contact) (h 0)) (fit-contacts cs (λ i. h (suc i)))

fit-settings : (ss : List Setting) → ((i : ℕ) → get_or (contacts_in ss) i 0 < room Contact) → ((i : ℕ) → get_or (values_in ss) i 0 < room Value)
    → fit (times (length ss) setting) (spread ss) ≡ true
unfolding fit times spread
fit-settings [] h k = refl
fit-settings (s ∷ ss) h k = rw (lt-ltb s.contact (room Contact) (h 0), lt-ltb s.value (room Value) (k 0)) (fit-settings ss (λ i. h (suc i)) (λ i. k (suc i)))

fit_words : (ws : List ℕ) → ((i : ℕ) → get_or ws i 0 < room Word) → fit (times (length ws) (Word ∷ [])) ws ≡ true
unfolding fit times
fit_words [] h = refl
fit_words (w ∷ ws) h = rw (lt-ltb w (room Word) (h 0)) (fit_words ws (λ i. h (suc i)))

-- ---- counts and ranges

few-is : (n : ℕ) → Few n → between 1 8 n ≡ true
few-is n f = is-between 1 8 n f.least f.most

module _ (most bound s e : ℕ) (h : Short most bound s e) where
  start_fits : ltb s bound ≡ true
  start_fits = lt-ltb s bound (omega (arith, h.range.ordered, h.range.small))

  end_fits : ltb e bound ≡ true
  end_fits = lt-ltb e bound h.range.small

  in_order : up_to most s e ≡ true
  in_order = rw (le-leb s e h.range.ordered, le-leb (span s e) most h.few) refl

-- ---- what passed the steps can be asked

-- contacts, by either command
contacts-can : (l : Limits) (cs : List ℕ) (one : Bool) → Sound l (read_contacts cs) → can_ask l ((pick one RCS RCP) for read_contacts cs) ≡ true
unfolding can_ask fit
contacts-can l cs true h = rw (lt-ltb (get_or cs 0 0) (room Contact) (h.contacts 0)) refl
contacts-can l cs false h = rw (few-is (length cs) h.ordered, fit-contacts cs h.contacts) refl

sound-can : (l : Limits) (a : Ask) (cs vs ws : List ℕ) → Sound l (request_in (asking a cs vs ws)) → can_ask l (asking a cs vs ws) ≡ true
unfolding can_ask fit spread
sound-can l ask.ReadContacts cs vs ws h = contacts-can l cs (eqb (length cs) 1) h
sound-can l (ask.ReadRelays s e) cs vs ws h =
    let o = h.ordered in
    rw (start_fits l.reads (room Relay) s e o, end_fits l.reads (room Relay) s e o, in_order l.reads (room Relay) s e o) refl
sound-can l (ask.WriteContact c v) cs vs ws h = rw (lt-ltb c (room Contact) (h.contacts 0), lt-ltb v (room Value) (h.values 0)) refl
sound-can l ask.WriteContacts cs vs ws h = let ss = settings_of cs vs in rw (few-is (length ss) h.ordered, fit-settings ss h.contacts h.values) refl
sound-can l (ask.WriteRelays s e) cs vs ws h =
    let o = h.ordered.short in
    rw (eq-eqb (length ws) (span s e) h.ordered.count, start_fits l.writes (room Relay) s e o, end_fits l.writes (room Relay) s e o, fit_words ws h.ordered.small, in_order l.writes (room Relay) s e o) refl
sound-can l (ask.ReadWords s e) cs vs ws h =
    let o = h.ordered in
    rw (start_fits l.reads (room Register) s e o, end_fits l.reads (room Register) s e o, in_order l.reads (room Register) s e o) refl
sound-can l (ask.WriteWords s e) cs vs ws h =
    let o = h.ordered.short in
    rw (eq-eqb (length ws) (span s e) h.ordered.count, start_fits l.writes (room Register) s e o, end_fits l.writes (room Register) s e o, fit_words ws h.ordered.small, in_order l.writes (room Register) s e o) refl
sound-can l (ask.FillWords s e w) cs vs ws h =
    let r = h.ordered.0 in
    rw (lt-ltb s (room Register) (omega (arith, r.ordered, r.small)), lt-ltb e (room Register) r.small, lt-ltb w (room Word) h.ordered.1, le-leb s e r.ordered) refl

pub only-these : OnlyThese
only-these l a cs vs ws text e = sound-can l a cs vs ws (asked-sound l text (request_in (asking a cs vs ws)) e)
