-- The statement of specs/Either: a row that is counted once is the row, and a station goes by a frame's form, shape, addressee and reading alone. Assumes
-- nothing.
use mathlib.Core.Path.{◌≡◌, refl, sym, ap, ap₂, ◌∙◌}
use mathlib.Core.List.{List, [], ◌∷◌}
use mathlib.Core.Bool.{Bool, true, false}
use Prim.Native.Nat.{ℕ, ◌+◌}
use native.Mathlib.Omega.{arith}
use borrow.Author.Tests.{lt-ltb}
use lib.Dec.{eqb}
use lib.ListN.{length, drop, get_or}
use lib.Seq.{get_or-drop}
use Rattle.rules.specs.Choice.{pick, both, between, all_between}
use Rattle.rules.specs.Characters.{digit0, hash, letter_f}
use Rattle.rules.specs.Tests.{◌unless◌, first}
use Rattle.text_digits.specs.Digits.{with_number, running, digits_in, decimal}
use Rattle.text_digits.specs.declared.Number.{Number}
use Rattle.text_hex.specs.Hex.{hex_digit}
use Rattle.checks_shared.specs.Fold.{fold}
use Rattle.checks_shared.specs.Right.{same, closed_by}
use Rattle.station.specs.Site.{Site, Done, done}
use Rattle.station.specs.Outcome.{Outcome, silent}
use Rattle.station.specs.Station.{call_tests, heeded, answer, received, station}
use Rattle.station.specs.declared.Whom.{Whom}
use Rattle.station.specs.declared.Whom.TheVariants.{This, All, Other}
use Rattle.mewtocol_frame.specs.Frame.{form_in, limits_in, longest_of_all, highest, good_shape, good_check, for_station, text_of}
use Rattle.mewtocol_frame.specs.Text.{starts}
use Rattle.mewtocol_frame.specs.declared.Limits.{Limits}
use Rattle.mewtocol_commands.specs.declared.Kind.TheVariants.{ReadContacts}
use Rattle.mewtocol_commands.specs.Rows.{contact, times}
use Rattle.mewtocol_commands.specs.Commands as commands
use Rattle.mewtocol_commands.specs.Commands.{counted}
use Rattle.mewtocol_requests.specs.Reading.{Reading, faulty, read_fields, read_as, read_text}
use Rattle.mewtocol_steps.specs.Steps.{count_tests}
use Rattle.mewtocol_requests.specs.Hearing.{read_frame}
use Rattle.mewtocol_requests.proofs.Tests.{held_first}
use Rattle.mewtocol_requests.proofs.Answers.{as-laid-out}
use Rattle.mewtocol_station.specs.Replies.{reply_frame}
use Rattle.mewtocol_station.specs.Station.{whom_in, mewtocol, errors, reading_asks}
use Rattle.theorems_mewtocol.specs.Either.{single, counted_one, Alike, EitherCommand, EitherExample}

-- ---- what they ask

-- a row that stands there once is the row
fields-alike : (l : Limits) (t : List ℕ) → read_fields l (ReadContacts false) 0 t ≡ read_fields l (ReadContacts true) 1 t
unfolding read_fields times
fields-alike l t = refl

-- n of 1 passes step 1
once-counted : (l : Limits) (t : List ℕ) → read_as l (ReadContacts true) ((digit0 + 1) ∷ t) ≡ read_fields l (ReadContacts true) 1 t
unfolding between
once-counted l t =
    as-laid-out l (ReadContacts true) ((digit0 + 1) ∷ t) (counted contact) refl
    ∙ held_first (count_tests (counted contact) ((digit0 + 1) ∷ t)) _ (lt-ltb 0 (length ((digit0 + 1) ∷ t)) (omega arith), (refl, tt))

texts-alike : (l : Limits) (t : List ℕ) → read_text l (single t) ≡ read_text l (counted_one t)
unfolding read_text commands.named starts read_as
texts-alike l t = fields-alike l t ∙ sym (once-counted l t)

-- by the check, the mark and what the text asks
abbrev heard : Bool → ℕ → Reading → Reading
heard check mark r = first faulty ((0x40 unless check) ∷ (0x41 unless eqb mark hash) ∷ []) r

readings-alike : (l : Limits) (f g t : List ℕ) → Alike f g t → read_frame l f ≡ read_frame l g
unfolding read_frame
readings-alike l f g t a =
    ap₂ (λ (check : Bool) (mark : ℕ). heard check mark (read_text l (text_of f))) a.check a.mark
    ∙ ap (heard (good_check g) (get_or g 3 0)) (ap (read_text l) a.text-f ∙ texts-alike l t ∙ ap (read_text l) (sym a.text-g))

-- ---- whom they are for

two_digits : (s : List ℕ) → decimal 2 s ≡ decimal 2 (get_or s 0 0 ∷ get_or s 1 0 ∷ [])
unfolding running
two_digits [] = refl
two_digits (x ∷ []) = refl
two_digits (x ∷ y ∷ s) = refl

for-alike : (own : ℕ) (f g : List ℕ) → get_or f 1 0 ≡ get_or g 1 0 → get_or f 2 0 ≡ get_or g 2 0 → for_station own f ≡ for_station own g
unfolding for_station
for-alike own f g tens ones =
    let p : get_or (drop 1 f) 0 0 ≡ get_or (drop 1 g) 0 0 = get_or-drop 1 f 0 0 ∙ tens ∙ sym (get_or-drop 1 g 0 0) in
    let q : get_or (drop 1 f) 1 0 ≡ get_or (drop 1 g) 1 0 = get_or-drop 1 f 1 0 ∙ ones ∙ sym (get_or-drop 1 g 1 0) in
    ap (λ (m : Number). with_number m (λ v. eqb v own) false)
    (two_digits (drop 1 f) ∙ ap₂ (λ (x y : ℕ). decimal 2 (x ∷ y ∷ [])) p q ∙ sym (two_digits (drop 1 g)))

whom-alike : (own : ℕ) (f g : List ℕ) → get_or f 1 0 ≡ get_or g 1 0 → get_or f 2 0 ≡ get_or g 2 0 → whom_in own f ≡ whom_in own g
unfolding whom_in
whom-alike own f g tens ones =
    ap₂ (λ (mine every : Bool). pick mine This (pick every All Other)) (for-alike own f g tens ones)
    (ap₂ (λ (x y : ℕ). both (eqb x letter_f) (eqb y letter_f)) tens ones)

-- ---- what the station does

module _ (site : Site) (words room : List ℕ) where
  -- by the form, whether the shape is right, whom it is for and what it asks
  abbrev met : Limits → Bool → Whom → Reading → Outcome
  met l shape whom r =
      let d : Done = done errors site.judge words (reading_asks r) in
      first (silent words room) ((10 unless shape) ∷ (12 unless heeded whom (reading_asks r) d.says) ∷ [])
      (answer whom room (reply_frame l.header site.own d.says) d.words)

  meets : (f : List ℕ)
      → received mewtocol site words f room ≡ met (limits_in f) (good_shape (limits_in f) 8 f) (whom_in site.own f) (read_frame (limits_in f) f)
  unfolding received
  meets f = refl

  met-alike : (f g t : List ℕ) → Alike f g t → received mewtocol site words f room ≡ received mewtocol site words g room
  met-alike f g t a =
      meets f
      ∙ ap₂ (λ (shape : Bool) (whom : Whom). met (limits_in f) shape whom (read_frame (limits_in f) f)) (a.shape-f ∙ sym a.shape-g) (whom-alike site.own f g a.station-tens a.station-ones)
      ∙ ap₂ (λ (l : Limits) (r : Reading). met l (good_shape (limits_in g) 8 g) (whom_in site.own g) r) a.form
      (readings-alike (limits_in f) f g t a ∙ ap (λ (l : Limits). read_frame l g) a.form)
      ∙ sym (meets g)

pub either-command : EitherCommand
unfolding station
either-command site words room f g t a =
    ap (first (silent words room) (call_tests highest longest_of_all site (length words) (length room))) (met-alike site words room f g t a)

-- ---- not empty

pub either-example : EitherExample
unfolding form_in good_shape between all_between closed_by same fold digits_in hex_digit
either-example = record {
  form = refl;
  shape-f = refl;
  shape-g = refl;
  station-tens = refl;
  station-ones = refl;
  mark = refl;
  check = refl;
  text-f = refl;
  text-g = refl;
}
