-- What a text that passed the steps guarantees: counts and order by the steps, each number's bound by its field. And which error numbers
-- the steps give. Assumes nothing.
use mathlib.Core.Path.{◌≡◌, refl, ap, ◌∙◌}
use mathlib.Core.List.{List, [], ◌∷◌}
use mathlib.Core.Bool.{true, false}
use mathlib.Core.Logic.{inl, inr}
use Prim.Native.Nat.{ℕ, ◌-◌, ◌<◌}
use native.Mathlib.Omega.{arith}
use borrow.Author.Tests.{leb-true}
use lib.Dec.{eqb, leb, lit<, lit≤}
use lib.ListN.{length, drop, get_or}
use Rattle.rules.specs.Choice.{pick}
use Rattle.rules.specs.Characters.{digit0, hash}
use Rattle.rules.specs.Tests.{Test, ◌unless◌, first}
use Rattle.rules.proofs.Choose.{both_left, both_right, in-range}
use Rattle.table_addresses.specs.declared.Area.TheVariants.{Relays, Registers}
use Rattle.mewtocol_frame.specs.declared.Limits.{Limits}
use Rattle.mewtocol_frame.specs.Frame.{good_check, text_of}
use Rattle.mewtocol_frame.specs.Text.{span, up_to}
use Rattle.mewtocol_commands.specs.Fields.{amount, room}
use Rattle.mewtocol_commands.specs.Rows.{contact, setting, times, numbers}
use Rattle.mewtocol_requests.specs.Requests.{Request}
use Rattle.mewtocol_commands.specs.Commands.{entry, commands, named, counted, layout, good_range}
use Rattle.mewtocol_requests.specs.Requests.{makes, settings}
use Rattle.mewtocol_requests.specs.Reading.{Reading, faulty, request, read_fields, read_as, read_named, read_text}
use Rattle.mewtocol_steps.specs.Steps.{start_in, end_in, all_fields, count_tests, field_tests}
use Rattle.mewtocol_requests.specs.Hearing.{read_frame}
use Rattle.mewtocol_commands.specs.Code.{number_in}
use Rattle.mewtocol_requests.specs.Sound.{Short, Few, Sound, StepError, Settled, Answerable}
use Rattle.mewtocol_commands.specs.declared.Field.{Field}
use Rattle.mewtocol_commands.specs.declared.Field.TheVariants.{Relay, Register, Contact, Value, Word}
use Rattle.mewtocol_commands.specs.declared.Kind.{Kind}
use Rattle.mewtocol_commands.specs.declared.Kind.TheVariants.{ReadContacts, WriteContacts, ReadRange, WriteRange, Fill}
use Rattle.mewtocol_commands.specs.declared.Named.{Named}
use Rattle.mewtocol_commands.specs.declared.Named.TheVariants.{Is, Unknown}
use Rattle.mewtocol_requests.proofs.Bounds.{amount-below, contact-small, set-contact-small, value-small}
use Rattle.mewtocol_requests.proofs.Lists.{repeated-length, repeated-below, settings-repeated, set-contacts, set_values, words-repeated}
use Rattle.mewtocol_requests.proofs.Tests.{Held}
use Rattle.mewtocol_requests.proofs.Making.{contact-numbers, setting-numbers}

-- ---- tests in a row

-- what holds of every error that the tests give, and of the answer where they hold, holds of what is read
Faults : (Reading → Type 0) → List Test → Type 0
Faults P [] = Unit
Faults P ((k unless t) ∷ ts) = P (faulty k) × Faults P ts

first-all : (P : Reading → Type 0) (ts : List Test) (o : Reading) → Faults P ts → (Held ts → P o) → P (first faulty ts o)
unfolding Faults
first-all P [] o f h = h tt
first-all P ((k unless true) ∷ ts) o f h = first-all P ts o f.1 (λ p. h (refl, p))
first-all P ((k unless false) ∷ ts) o f h = f.0

-- ---- each kind

module _ (most start end m : ℕ) where
  short : up_to most start end ≡ true → end < m → Short most m start end
  short e h = record {
    range = record { ordered = leb-true start end (both_left _ _ e); small = h };
    few = leb-true (span start end) most (both_right (leb start end) _ e);
  }

few-as : (n k : ℕ) → k ≡ n → Few n → Few k
few-as n k e h = record { least = omega (arith, h.least); most = omega (arith, h.most) }

none_below : (m : ℕ) → 0 < m → (i : ℕ) → get_or {A = ℕ} [] i 0 < m
none_below m p i = p

no-contact : (i : ℕ) → get_or {A = ℕ} [] i 0 < room Contact
no-contact = none_below (room Contact) (lit< tt)

no_value : (i : ℕ) → get_or {A = ℕ} [] i 0 < room Value
no_value = none_below (room Value) (lit< tt)

words-below : (k : ℕ) (t : List ℕ) (i : ℕ) → get_or (numbers (times k (Word ∷ [])) t) i 0 < room Word
words-below k t i = rw (words-repeated k t) (repeated-below (room Word) (lit< tt) k 4 (amount Word) t (amount-below Word) i)

words-length : (k : ℕ) (t : List ℕ) → length (numbers (times k (Word ∷ [])) t) ≡ k
words-length k t = ap length (words-repeated k t) ∙ repeated-length k 4 (amount Word) t

-- so many contacts are one to eight
abbrev Enough : Kind → ℕ → Type 0
Enough (ReadContacts many) n = Few (pick many n 1)
Enough (WriteContacts many) n = Few (pick many n 1)
Enough (ReadRange a) n = Unit
Enough (WriteRange a) n = Unit
Enough Fill n = Unit

sound : (l : Limits) (k : Kind) (n : ℕ) (t : List ℕ) → good_range l k (start_in (layout k) t) (end_in (layout k) t) ≡ true → Enough k n
    → Sound l (makes k (numbers (all_fields (layout k) n t) t))
unfolding numbers
sound l (ReadContacts many) n t g f =
    let k = pick many n 1 in
    let are = contact-numbers many n t in
    record {
      ordered = few-as k _ (ap length are ∙ repeated-length k 5 (number_in 0 contact) t) f;
      contacts = λ i. rw are (repeated-below (room Contact) (lit< tt) k 5 (number_in 0 contact) t contact-small i);
      values = no_value;
    }
sound l (WriteContacts many) n t g f =
    let k = pick many n 1 in
    let are = ap settings (setting-numbers many n t) in
    record {
      ordered = few-as k _ (ap length (are ∙ settings-repeated k t) ∙ repeated-length k 6 _ t) f;
      contacts = λ i. rw (are, set-contacts k t) (repeated-below (room Contact) (lit< tt) k 6 (number_in 0 setting) t set-contact-small i);
      values = λ i. rw (are, set_values k t) (repeated-below (room Value) (lit< tt) k 6 (number_in 1 setting) t value-small i);
    }
sound l (ReadRange Relays) n t g f = record {
  ordered = short l.reads _ _ (room Relay) g (amount-below Relay (drop 4 (drop 1 t)));
  contacts = no-contact;
  values = no_value;
}
sound l (ReadRange Registers) n t g f = record {
  ordered = short l.reads _ _ (room Register) g (amount-below Register (drop 5 (drop 1 t)));
  contacts = no-contact;
  values = no_value;
}
sound l (WriteRange Relays) n t g f = record {
  ordered = record {
    short = short l.writes _ _ (room Relay) g (amount-below Relay (drop 4 (drop 1 t)));
    count = words-length _ (drop 4 (drop 4 (drop 1 t)));
    small = words-below _ (drop 4 (drop 4 (drop 1 t)));
  };
  contacts = no-contact;
  values = no_value;
}
sound l (WriteRange Registers) n t g f = record {
  ordered = record {
    short = short l.writes _ _ (room Register) g (amount-below Register (drop 5 (drop 1 t)));
    count = words-length _ (drop 5 (drop 5 (drop 1 t)));
    small = words-below _ (drop 5 (drop 5 (drop 1 t)));
  };
  contacts = no-contact;
  values = no_value;
}
sound l Fill n t g f = record {
  ordered = (
    record { ordered = leb-true _ _ g; small = amount-below Register (drop 5 (drop 1 t)) },
    amount-below Word (drop 5 (drop 5 (drop 1 t))),
  );
  contacts = no-contact;
  values = no_value;
}

-- ---- each step

format : StepError 0x41
format = inl refl

command : StepError 0x42
command = inr (inl refl)

parameter : StepError 0x60
parameter = inr (inr (inl refl))

wrong-data : StepError 0x61
wrong-data = inr (inr (inr refl))

settled-fields : (l : Limits) (k : Kind) (n : ℕ) (t : List ℕ) → Enough k n → Settled l (read_fields l k n t)
unfolding read_fields Faults
settled-fields l k n t f =
    first-all (Settled l) (field_tests l k n t) _ (format, (parameter, (format, (parameter, (format, (wrong-data, tt)))))) (λ h. sound l k n t h.1.1.1.0 f)

settled-counted : (l : Limits) (k : Kind) (r : List Field) (t : List ℕ) → ((n : ℕ) → Few n → Enough k n)
    → Settled l (first faulty (count_tests (counted r) t) (read_fields l k (get_or t 0 0 - digit0) (drop 1 t)))
unfolding Faults
settled-counted l k r t f =
    first-all (Settled l) (count_tests (counted r) t) _ (format, (parameter, tt))
    (λ h.
    let b = in-range 49 56 (get_or t 0 0) h.1.0 in
    settled-fields l k (get_or t 0 0 - digit0) (drop 1 t) (f (get_or t 0 0 - digit0) (record { least = omega (arith, b); most = omega (arith, b) })))

one : Few 1
one = record { least = lit≤ tt; most = lit≤ tt }

settled-as : (l : Limits) (k : Kind) (t : List ℕ) → Settled l (read_as l k t)
unfolding read_as
settled-as l (ReadContacts true) t = settled-counted l (ReadContacts true) contact t (λ n f. f)
settled-as l (ReadContacts false) t = settled-fields l (ReadContacts false) 0 t one
settled-as l (WriteContacts true) t = settled-counted l (WriteContacts true) setting t (λ n f. f)
settled-as l (WriteContacts false) t = settled-fields l (WriteContacts false) 0 t one
settled-as l (ReadRange a) t = settled-fields l (ReadRange a) 0 t tt
settled-as l (WriteRange a) t = settled-fields l (WriteRange a) 0 t tt
settled-as l Fill t = settled-fields l Fill 0 t tt

settled-named : (l : Limits) (m : Named) (b : List ℕ) → Settled l (read_named l m b)
settled-named l (Is c) b = settled-as l (entry c).kind _
settled-named l Unknown b = command

-- whatever a text says: one of the four error numbers, or a sound request
pub settled : (l : Limits) (b : List ℕ) → Settled l (read_text l b)
unfolding read_text
settled l b = settled-named l (named commands b) b

-- a request that a text asks is sound
pub asked-sound : (l : Limits) (b : List ℕ) (q : Request) → read_text l b ≡ request q → Sound l q
asked-sound l b q e = rw e at (settled l b)

-- ---- each frame

settled-answerable : (l : Limits) (o : Reading) → Settled l o → Answerable l o
settled-answerable l (faulty n) h = inr h
settled-answerable l (request q) h = h

pub frame-answerable : (l : Limits) (f : List ℕ) → Answerable l (read_frame l f)
unfolding read_frame Faults
frame-answerable l f =
    first-all (λ (o : Reading). Answerable l o) ((0x40 unless good_check f) ∷ (0x41 unless eqb (get_or f 3 0) hash) ∷ []) (read_text l (text_of f)) (inl refl, (inr format, tt))
    (λ h. settled-answerable l (read_text l (text_of f)) (settled l (text_of f)))
