-- Steps 1 to 7 read every written request back, and no text asks for what can't be written. One induction over fields: what fills them
-- passes every step and says its numbers. Assumes nothing.
use mathlib.Core.Path.{◌≡◌, refl, sym, ap, ap₂, ◌∙◌}
use mathlib.Core.List.{List, [], ◌∷◌, ◌++◌, append_assoc, append-nil}
use mathlib.Core.Bool.{Bool, true, false}
use Prim.Native.Nat.{ℕ, ◌+◌, ◌-◌, ◌/◌, ◌%◌, ◌≤◌, ◌<◌}
use native.Mathlib.Omega.{arith}
use borrow.Author.Tests.{eqb-true, lt-ltb, le-leb, eq-eqb}
use lib.Dec.{eqb, ltb}
use lib.ListN.{length, drop, get_or}
use lib.Seq.{drop_at, get_or_at}
use Rattle.rules.specs.Choice.{pick, both, between}
use Rattle.rules.specs.Characters.{digit0}
use Rattle.rules.proofs.Choose.{both_left, both_right, in-range, is-between}
use Rattle.text_digits.specs.Digits.{with_number, is_value, decimal_digit, decimal, decimals}
use Rattle.text_digits.specs.declared.Number.{Number}
use Rattle.text_digits.specs.declared.Number.TheVariants as number
use Rattle.text_digits.proofs.Back.{digits_in-length, decimal-back}
use Rattle.text_hex.specs.Hex.{hex_digit}
use Rattle.text_hex.proofs.Values.{hex-digits}
use Rattle.text_hex_words.proofs.Back.{low-first-back}
use Rattle.table_addresses.specs.Areas.{cell}
use Rattle.table_addresses.specs.Cells.{contact_of}
use Rattle.mewtocol_frame.specs.Text.{bit, span, starts}
use Rattle.mewtocol_commands.specs.Fields.{width, step_of, letter, reads, right, amount, room}
use Rattle.mewtocol_commands.specs.Rows.{contact, setting, range_in, times, widths, every, is_letter, numbers}
use Rattle.mewtocol_commands.specs.declared.Field.{Field}
use Rattle.table_addresses.specs.declared.Area.TheVariants.{Relays, Registers}
use Rattle.mewtocol_commands.specs.declared.Kind.{Kind}
use Rattle.mewtocol_commands.specs.declared.Kind.TheVariants.{ReadContacts, WriteContacts, ReadRange, WriteRange, Fill}
use Rattle.mewtocol_commands.specs.declared.Command.{Command}
use Rattle.mewtocol_commands.specs.declared.Command.TheVariants.{RCS, RCP, RCC, WCS, WCP, WCC, RD, WD, SD}
use Rattle.mewtocol_requests.specs.Requests.{Setting, Request, read_contacts, write_contacts, read_range, write_range, fill}
use Rattle.mewtocol_commands.specs.Commands.{entry, named, Layout, once, counted, with_words, layout, fields_of, good_range}
use Rattle.mewtocol_requests.specs.Requests.{settings, makes}
use Rattle.mewtocol_requests.specs.Reading.{request, read_fields, read_as, read_text}
use Rattle.mewtocol_steps.specs.Steps.{is_there, start_in, end_in, listed, all_fields, count_tests, field_tests}
use Rattle.mewtocol_requests.proofs.Tests.{held_first}
use Rattle.mewtocol_requests.proofs.Answers.{as-laid-out}
use Rattle.mewtocol_commands.proofs.OverRows.{widths-append}
use Rattle.mewtocol_frame.specs.declared.Limits.{Limits}
use Rattle.mewtocol_commands.specs.declared.Field.TheVariants.{LetterR, LetterD, Relay, Register, Contact, Value, Word}
use Rattle.mewtocol_asking.specs.Asking.{◌for◌, settings_of, spread, numbers_of, listed_by, says, characters, filled, ask_text, fit, right_count, start_of, end_of, can_ask}
use Rattle.mewtocol_asking.specs.Code.{says_all}
use Rattle.mewtocol_asking.specs.declared.Ask.TheVariants as ask
use Rattle.mewtocol_asking.proofs.Fit.{fit_append}
use Rattle.mewtocol_writer.specs.Statements.{ReadBack}
use Rattle.mewtocol_writer.proofs.Filled.{characters-length, filled-length, filled-append, has_room}

-- ---- one field

contact-back : (c : ℕ) (x : List ℕ) → c < 16000 → contact_of ((decimals 3 (c / 16) ++ (hex_digit (c % 16) ∷ [])) ++ x) ≡ number.Value (cell (c / 16) (c % 16))
unfolding contact_of
contact-back c x h =
    let d = decimals 3 (c / 16) in
    let b = hex_digit (c % 16) in
    let e = append_assoc d (b ∷ []) x in
    let l = digits_in-length 10 decimal_digit 3 (c / 16) in
    let three : decimal 3 ((d ++ (b ∷ [])) ++ x) ≡ number.Value (c / 16) = ap (decimal 3) e ∙ decimal-back 3 (c / 16) (b ∷ x) (omega arith) in
    let last : get_or ((d ++ (b ∷ [])) ++ x) 3 0 ≡ b = ap (λ (m : List ℕ). get_or m 3 0) e ∙ get_or_at d b x 0 3 l in
    rw (three, last, hex-digits.back (c % 16) (omega arith))

-- what a field says of its own characters: its number, or that its letter is in place
abbrev value : Field → ℕ → ℕ
value f v = pick (is_letter f) 0 v

characters-back : (f : Field) (v : ℕ) (x : List ℕ) → (is_letter f ≡ false → v < room f) → reads f (characters f v ++ x) ≡ number.Value (value f v)
unfolding characters letter bit between
characters-back LetterR v x h = refl
characters-back LetterD v x h = refl
characters-back Relay v x h = decimal-back 4 v x (h refl)
characters-back Register v x h = decimal-back 5 v x (h refl)
characters-back Contact v x h = let made : cell (v / 16) (v % 16) ≡ v = omega arith in contact-back v x (h refl) ∙ ap number.Value made
characters-back Value v x h =
    let small = h refl in
    let e : 48 + v - 48 ≡ v = omega arith in
    rw (le-leb 48 (48 + v) (omega arith), le-leb (48 + v) 49 (omega arith), e)
characters-back Word v x h = low-first-back v x (h refl)

-- ---- fields

if-true : (b x : Bool) → x ≡ true → pick b x true ≡ true
if-true true x e = e
if-true false x e = refl

rest_of : (f : Field) (v : ℕ) (t x : List ℕ) → drop (width f) (characters f v ++ t ++ x) ≡ t ++ x
rest_of f v t x = ap (drop (width f)) (append_assoc (characters f v) t x) ∙ drop_at (characters f v) (t ++ x) (width f) (characters-length f v)

pub every-filled : (step : ℕ) (fs : List Field) (ns x : List ℕ) → fit fs ns ≡ true → every step fs (filled fs ns ++ x) ≡ true
unfolding every filled fit
every-filled step [] ns x h = refl
every-filled step (f ∷ fs) ns x h =
    let v = get_or ns 0 0 in
    let t = filled fs (drop (says f) ns) in
    let ok = has_room f v _ h in
    let reads-it : right f (characters f v ++ t ++ x) ≡ true = ap is_value (ap (reads f) (append_assoc (characters f v) t x) ∙ characters-back f v (t ++ x) ok) in
    ap₂ both (if-true (eqb step (step_of f)) _ reads-it) (ap (every step fs) (rest_of f v t x))
    ∙ every-filled step fs (drop (says f) ns) x (both_right (pick (is_letter f) true (ltb v (room f))) _ h)

-- the numbers that some fields take
unfoldable pub taken : List Field → List ℕ → List ℕ
taken [] ns = []
taken (f ∷ fs) ns = pick (is_letter f) (taken fs (drop (says f) ns)) (get_or ns 0 0 ∷ taken fs (drop (says f) ns))

one_number : (letter : Bool) (v a : ℕ) (m n : List ℕ) → a ≡ pick letter 0 v → m ≡ n → pick letter m (a ∷ m) ≡ pick letter n (v ∷ n)
one_number true v a m n e h = h
one_number false v a m n e h = ap₂ (λ (b : ℕ) (l : List ℕ). b ∷ l) e h

pub numbers-filled : (fs : List Field) (ns x : List ℕ) → fit fs ns ≡ true → numbers fs (filled fs ns ++ x) ≡ taken fs ns
unfolding numbers filled fit taken
numbers-filled [] ns x h = refl
numbers-filled (f ∷ fs) ns x h =
    let v = get_or ns 0 0 in
    let t = filled fs (drop (says f) ns) in
    let ok = has_room f v _ h in
    let amount-is : amount f (characters f v ++ t ++ x) ≡ value f v =
    ap (λ (s : List ℕ). with_number (reads f s) (λ n. n) 0) (append_assoc (characters f v) t x) ∙ ap (λ (m : Number). with_number m (λ n. n) 0) (characters-back f v (t ++ x) ok) in
    one_number (is_letter f) v _ _ _ amount-is
    (ap (numbers fs) (rest_of f v t x) ∙ numbers-filled fs (drop (says f) ns) x (both_right (pick (is_letter f) true (ltb v (room f))) _ h))

-- ---- a text that passes every step

pass : (l : Limits) (k : Kind) (n m s e : ℕ) (t ns : List ℕ)
    → is_there (layout k) n t ≡ true → every 3 (fields_of (layout k) n) t ≡ true → every 4 (fields_of (layout k) n) t ≡ true
    → start_in (layout k) t ≡ s → end_in (layout k) t ≡ e → good_range l k s e ≡ true
    → listed (layout k) n s e ≡ m → length t ≡ widths (fields_of (layout k) m) → every 7 (fields_of (layout k) m) t ≡ true
    → numbers (fields_of (layout k) m) t ≡ ns → read_fields l k n t ≡ request (makes k ns)
unfolding read_fields
pass l k n m s e t ns two three four start end five more six seven said =
    let all : all_fields (layout k) n t ≡ fields_of (layout k) m = ap (fields_of (layout k)) (ap₂ (listed (layout k) n) start end ∙ more) in
    held_first (field_tests l k n t) (request (makes k (numbers (all_fields (layout k) n t) t)))
    (two, (three, (four, (ap₂ (good_range l k) start end ∙ five, (eq-eqb _ _ (six ∙ ap widths (sym all)), (ap (λ (fs : List Field). every 7 fs t) all ∙ seven, tt))))))
    ∙ ap (λ (fs : List Field). request (makes k (numbers fs t))) all
    ∙ ap (λ (l : List ℕ). request (makes k l)) said

-- what fills some fields, with nothing after it
module _ (fs : List Field) (ns : List ℕ) (h : fit fs ns ≡ true) where
  every-all : (step : ℕ) → every step fs (filled fs ns) ≡ true
  every-all step = ap (every step fs) (sym (append-nil (filled fs ns))) ∙ every-filled step fs ns [] h

  numbers-all : numbers fs (filled fs ns) ≡ taken fs ns
  numbers-all = ap (numbers fs) (sym (append-nil (filled fs ns))) ∙ numbers-filled fs ns [] h

-- a row alone
back-once : (l : Limits) (k : Kind) (r : List Field) (ns : List ℕ) → layout k ≡ once r → fit r ns ≡ true → taken r ns ≡ ns → good_range l k (get_or ns 0 0) (get_or ns 1 0) ≡ true
    → read_fields l k 0 (filled r ns) ≡ request (makes k ns)
back-once l k r ns y h all five =
    let t = filled r ns in
    let said : numbers r t ≡ ns = numbers-all r ns h ∙ all in
    pass l k 0 0 (get_or ns 0 0) (get_or ns 1 0) t ns
    (ap (λ (z : Layout). is_there z 0 t) y ∙ eq-eqb _ _ (filled-length r ns))
    (ap (λ (z : Layout). every 3 (fields_of z 0) t) y ∙ every-all r ns h 3) (ap (λ (z : Layout). every 4 (fields_of z 0) t) y ∙ every-all r ns h 4)
    (ap (λ (z : Layout). start_in z t) y ∙ ap (λ (m : List ℕ). get_or m 0 0) said) (ap (λ (z : Layout). end_in z t) y ∙ ap (λ (m : List ℕ). get_or m 1 0) said) five
    (ap (λ (z : Layout). listed z 0 (get_or ns 0 0) (get_or ns 1 0)) y)
    (filled-length r ns ∙ ap (λ (z : Layout). widths (fields_of z 0)) (sym y))
    (ap (λ (z : Layout). every 7 (fields_of z 0) t) y ∙ every-all r ns h 7) (ap (λ (z : Layout). numbers (fields_of z 0) t) y ∙ said)

-- n, and a row n times
back-counted : (l : Limits) (k : Kind) (r : List Field) (n : ℕ) (ns : List ℕ) → layout k ≡ counted r → fit (times n r) ns ≡ true → taken (times n r) ns ≡ ns
    → between 1 8 n ≡ true → ((s e : ℕ) → good_range l k s e ≡ true) → read_as l k ((digit0 + n) ∷ filled (times n r) ns) ≡ request (makes k ns)
back-counted l k r n ns y h all few five =
    let t = filled (times n r) ns in
    let b = in-range 1 8 n few in
    let e : 48 + n - 48 ≡ n = omega arith in
    let one : ltb 0 (length ((digit0 + n) ∷ t)) ≡ true = lt-ltb 0 (length ((digit0 + n) ∷ t)) (omega arith) in
    let two : between 49 56 (48 + n) ≡ true = is-between 49 56 (48 + n) (omega arith) (omega arith) in
    as-laid-out l k ((digit0 + n) ∷ t) (counted r) y
    ∙ held_first (count_tests (counted r) ((digit0 + n) ∷ t)) _ (one, (two, tt))
    ∙ ap (λ (m : ℕ). read_fields l k m t) e
    ∙ pass l k n n (start_in (layout k) t) (end_in (layout k) t) t ns
    (ap (λ (z : Layout). is_there z n t) y ∙ eq-eqb _ _ (filled-length (times n r) ns))
    (ap (λ (z : Layout). every 3 (fields_of z n) t) y ∙ every-all (times n r) ns h 3) (ap (λ (z : Layout). every 4 (fields_of z n) t) y ∙ every-all (times n r) ns h 4)
    refl refl (five (start_in (layout k) t) (end_in (layout k) t))
    (ap (λ (z : Layout). listed z n (start_in (layout k) t) (end_in (layout k) t)) y)
    (filled-length (times n r) ns ∙ ap (λ (z : Layout). widths (fields_of z n)) (sym y))
    (ap (λ (z : Layout). every 7 (fields_of z n) t) y ∙ every-all (times n r) ns h 7)
    (ap (λ (z : Layout). numbers (fields_of z n) t) y ∙ numbers-all (times n r) ns h ∙ all)

-- a range, and a word for each of it
back-words : (l : Limits) (k : Kind) (r : List Field) (s e : ℕ) (ws : List ℕ) → layout k ≡ with_words r → fit (r ++ times (length ws) (Word ∷ [])) (s ∷ e ∷ ws) ≡ true
    → taken r (s ∷ e ∷ ws) ≡ s ∷ e ∷ [] → taken (r ++ times (length ws) (Word ∷ [])) (s ∷ e ∷ ws) ≡ s ∷ e ∷ ws → length ws ≡ span s e → good_range l k s e ≡ true
    → read_fields l k 0 (filled (r ++ times (length ws) (Word ∷ [])) (s ∷ e ∷ ws)) ≡ request (makes k (s ∷ e ∷ ws))
unfolding times
back-words l k r s e ws y h front all n five =
    let u = times (length ws) (Word ∷ []) in
    let ns = s ∷ e ∷ ws in
    let t = filled (r ++ u) ns in
    let x = filled u (drop (says_all r) ns) in
    let split : t ≡ filled r ns ++ x = filled-append r u ns in
    let fits : fit r ns ≡ true = both_left _ _ (sym (fit_append r u ns) ∙ h) in
    let said : numbers r t ≡ s ∷ e ∷ [] = ap (numbers r) split ∙ numbers-filled r ns x fits ∙ front in
    let steps : (step : ℕ) → every step (r ++ []) t ≡ true = λ step. ap (λ (fs : List Field). every step fs t) (append-nil r) ∙ ap (every step r) split ∙ every-filled step r ns x fits in
    let long : widths r ≤ length t = omega (arith, filled-length (r ++ u) ns, widths-append r u) in
    pass l k 0 (length ws) s e t ns
    (ap (λ (z : Layout). is_there z 0 t) y ∙ le-leb _ _ long)
    (ap (λ (z : Layout). every 3 (fields_of z 0) t) y ∙ steps 3) (ap (λ (z : Layout). every 4 (fields_of z 0) t) y ∙ steps 4)
    (ap (λ (z : Layout). start_in z t) y ∙ ap (λ (m : List ℕ). get_or m 0 0) said) (ap (λ (z : Layout). end_in z t) y ∙ ap (λ (m : List ℕ). get_or m 1 0) said) five
    (ap (λ (z : Layout). listed z 0 s e) y ∙ sym n)
    (filled-length (r ++ u) ns ∙ ap (λ (z : Layout). widths (fields_of z (length ws))) (sym y))
    (ap (λ (z : Layout). every 7 (fields_of z (length ws)) t) y ∙ every-all (r ++ u) ns h 7)
    (ap (λ (z : Layout). numbers (fields_of z (length ws)) t) y ∙ numbers-all (r ++ u) ns h ∙ all)

-- ---- lists

taken-contacts : (cs : List ℕ) → taken (times (length cs) contact) cs ≡ cs
unfolding taken times
taken-contacts [] = refl
taken-contacts (c ∷ cs) = ap (λ (l : List ℕ). c ∷ l) (taken-contacts cs)

-- a list of one, by the row itself
taken-one : (cs : List ℕ) → length cs ≡ 1 → taken contact cs ≡ cs
unfolding taken
taken-one [] e = absurd (omega arith)
taken-one (c ∷ []) e = refl
taken-one (c ∷ d ∷ cs) e = absurd (omega arith)

taken-settings : (ss : List Setting) → taken (times (length ss) setting) (spread ss) ≡ spread ss
unfolding taken times spread
taken-settings [] = refl
taken-settings (s ∷ ss) = ap (λ (l : List ℕ). s.contact ∷ s.value ∷ l) (taken-settings ss)

taken-words : (ws : List ℕ) → taken (times (length ws) (Word ∷ [])) ws ≡ ws
unfolding taken times
taken-words [] = refl
taken-words (w ∷ ws) = ap (λ (l : List ℕ). w ∷ l) (taken-words ws)

settings-spread : (ss : List Setting) → settings (spread ss) ≡ ss
unfolding settings spread
settings-spread [] = refl
settings-spread (s ∷ ss) = ap (λ (l : List Setting). s ∷ l) (settings-spread ss)

-- ---- every request that can be written is read back

module _ (l : Limits) (c : Command) (q : Request) (can : can_ask l (c for q) ≡ true) where
  count-right : right_count (layout (entry c).kind) (listed_by q) (start_of q) (end_of q) ≡ true
  unfolding can_ask
  count-right = both_left _ _ can

  all_fit : fit (fields_of (layout (entry c).kind) (listed_by q)) (numbers_of q) ≡ true
  unfolding can_ask
  all_fit = both_left _ _ (both_right (right_count (layout (entry c).kind) (listed_by q) (start_of q) (end_of q)) _ can)

  range-good : good_range l (entry c).kind (start_of q) (end_of q) ≡ true
  unfolding can_ask
  range-good = both_right (fit (fields_of (layout (entry c).kind) (listed_by q)) (numbers_of q)) _ (both_right (right_count (layout (entry c).kind) (listed_by q) (start_of q) (end_of q)) _ can)

-- contacts, by either command
contacts-back : (l : Limits) (cs : List ℕ) (one : Bool) → eqb (length cs) 1 ≡ one → can_ask l ((pick one RCS RCP) for read_contacts cs) ≡ true
    → read_text l (ask_text ((pick one RCS RCP) for read_contacts cs)) ≡ request (read_contacts cs)
unfolding ask_text read_text named starts read_as
contacts-back l cs true e can = back-once l (ReadContacts false) contact cs refl (all_fit l RCS (read_contacts cs) can) (taken-one cs (eqb-true _ _ e)) refl
contacts-back l cs false e can =
    back-counted l (ReadContacts true) contact (length cs) cs refl (all_fit l RCP (read_contacts cs) can) (taken-contacts cs) (count-right l RCP (read_contacts cs) can) (λ s e. refl)

pub read_back : ReadBack
unfolding ask_text read_text named starts read_as taken settings spread
read_back l ask.ReadContacts cs vs ws can = contacts-back l cs (eqb (length cs) 1) refl can
read_back l (ask.ReadRelays s e) cs vs ws can =
    back-once l (ReadRange Relays) (range_in Relays) (s ∷ e ∷ []) refl (all_fit l RCC (read_range Relays s e) can) refl (range-good l RCC (read_range Relays s e) can)
read_back l (ask.WriteContact c v) cs vs ws can =
    back-once l (WriteContacts false) setting (c ∷ v ∷ []) refl (all_fit l WCS (write_contacts (record { contact = c; value = v } ∷ [])) can) refl refl
read_back l ask.WriteContacts cs vs ws can =
    let ss = settings_of cs vs in
    back-counted l (WriteContacts true) setting (length ss) (spread ss) refl (all_fit l WCP (write_contacts ss) can) (taken-settings ss) (count-right l WCP (write_contacts ss) can) (λ s e. refl)
    ∙ ap (λ (m : List Setting). request (write_contacts m)) (settings-spread ss)
read_back l (ask.WriteRelays s e) cs vs ws can =
    let q = write_range Relays s e ws in
    back-words l (WriteRange Relays) (range_in Relays) s e ws refl (all_fit l WCC q can) refl (ap (λ (m : List ℕ). s ∷ e ∷ m) (taken-words ws)) (eqb-true _ _ (count-right l WCC q can)) (range-good l WCC q can)
read_back l (ask.ReadWords s e) cs vs ws can =
    back-once l (ReadRange Registers) (range_in Registers) (s ∷ e ∷ []) refl (all_fit l RD (read_range Registers s e) can) refl (range-good l RD (read_range Registers s e) can)
read_back l (ask.WriteWords s e) cs vs ws can =
    let q = write_range Registers s e ws in
    back-words l (WriteRange Registers) (range_in Registers) s e ws refl (all_fit l WD q can) refl (ap (λ (m : List ℕ). s ∷ e ∷ m) (taken-words ws)) (eqb-true _ _ (count-right l WD q can)) (range-good l WD q can)
read_back l (ask.FillWords s e w) cs vs ws can =
    back-once l Fill (range_in Registers ++ (Word ∷ [])) (s ∷ e ∷ w ∷ []) refl (all_fit l SD (fill s e w) can) refl (range-good l SD (fill s e w) can)
