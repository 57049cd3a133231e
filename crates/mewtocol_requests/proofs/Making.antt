-- The request of a text that passed, and its lists: for each kind, what the code read is what the numbers of the text make. Assumes nothing.
use mathlib.Core.Path.{◌≡◌, refl, sym, ap, ap₂, ◌∙◌}
use mathlib.Core.List.{List, [], ◌∷◌, ◌++◌}
use mathlib.Core.Bool.{Bool, true, false}
use Prim.Native.Nat.{ℕ, ◌+◌, ◌*◌, ◌≤◌}
use lib.Dec.{lit≤}
use lib.ListN.{length, drop}
use lib.Seq.{drop-drop}
use Rattle.rules.specs.Choice.{pick}
use Rattle.text_rooms.specs.Room.{overwrite}
use Rattle.text_rooms.proofs.Overwrite.{overwrite-none}
use Rattle.table_addresses.specs.declared.Area.{Area}
use Rattle.table_addresses.specs.declared.Area.TheVariants.{Relays, Registers}
use Rattle.mewtocol_frame.specs.Text.{span}
use Rattle.mewtocol_commands.specs.Rows.{contact, setting, range_in, times, repeated, widths, numbers}
use Rattle.mewtocol_requests.specs.Requests.{Setting, read_contacts, write_contacts, read_range, write_range, fill, contacts_in, values_in}
use Rattle.mewtocol_commands.specs.Commands.{layout}
use Rattle.mewtocol_requests.specs.Requests.{settings, makes}
use Rattle.mewtocol_requests.specs.Reading.{Reading, request}
use Rattle.mewtocol_steps.specs.Steps.{all_fields}
use Rattle.mewtocol_commands.specs.Code.{number_in}
use Rattle.mewtocol_requests.specs.Code.{front, paired, words_in, ReadsAs}
use Rattle.mewtocol_commands.specs.declared.Field.{Field}
use Rattle.mewtocol_commands.specs.declared.Field.TheVariants.{Word}
use Rattle.mewtocol_commands.specs.declared.Kind.{Kind}
use Rattle.mewtocol_commands.specs.declared.Kind.TheVariants as kind
use Rattle.mewtocol_requests.specs.declared.Request.TheVariants as code
use Rattle.mewtocol_requests.specs.declared.Reading.TheVariants.{Asks}
use Rattle.mewtocol_commands.proofs.OverRows.{widths-append}
use Rattle.mewtocol_steps.proofs.Known.{four}
use Rattle.mewtocol_requests.proofs.Lists.{repeated-length, front-append, contacts-repeated, set-contacts, set_values, settings-paired, words_last}

-- what the numbers of a text make
abbrev pub made : Kind → ℕ → List ℕ → Reading
made k n t = request (makes k (numbers (all_fields (layout k) n t) t))

-- ---- contacts, once or counted

pub contact-numbers : (many : Bool) (n : ℕ) (t : List ℕ) → numbers (all_fields (layout (kind.ReadContacts many)) n t) t ≡ repeated (pick many n 1) 5 (number_in 0 contact) t
unfolding times
contact-numbers true n t = contacts-repeated n t
contact-numbers false n t = contacts-repeated 1 t

pub setting-numbers : (many : Bool) (n : ℕ) (t : List ℕ) → numbers (all_fields (layout (kind.WriteContacts many)) n t) t ≡ numbers (times (pick many n 1) setting) t
unfolding times
setting-numbers true n t = refl
setting-numbers false n t = refl

front_of : (k w : ℕ) (g : List ℕ → ℕ) (t xs ys : List ℕ) → ys ≡ overwrite xs 0 (repeated k w g t) → front k ys ≡ repeated k w g t
unfolding overwrite
front_of k w g t xs ys e = ap₂ front (sym (repeated-length k w g t)) e ∙ front-append (repeated k w g t) _

pub contacts-made : (many : Bool) (n k : ℕ) (t contacts values contacts' : List ℕ) (r : List Field) → r ≡ contact → k ≡ pick many n 1
    → contacts' ≡ overwrite contacts 0 (repeated k (widths r) (number_in 0 r) t)
    → ReadsAs (made (kind.ReadContacts many) n t) t (Asks (code.ReadContacts k)) contacts values contacts' values
unfolding widths
contacts-made many n k t contacts values contacts' r er ek e =
    let stand : contacts' ≡ overwrite contacts 0 (repeated k 5 (number_in 0 contact) t) = e ∙ ap (λ (u : List Field). overwrite contacts 0 (repeated k (widths u) (number_in 0 u) t)) er in
    let are : numbers (all_fields (layout (kind.ReadContacts many)) n t) t ≡ repeated k 5 (number_in 0 contact) t = contact-numbers many n t ∙ ap (λ (m : ℕ). repeated m 5 (number_in 0 contact) t) (sym ek) in
    record {
      says = λ j b h. ap (λ (l : List ℕ). request (read_contacts l)) (front_of k 5 (number_in 0 contact) t contacts contacts' stand ∙ sym are);
      contacts-are = stand ∙ ap (overwrite contacts 0) (sym are);
      values-are = sym (overwrite-none values 0);
    }

pub settings-made : (many : Bool) (n k : ℕ) (t contacts values contacts' values' : List ℕ) (r : List Field) → r ≡ setting → k ≡ pick many n 1
    → contacts' ≡ overwrite contacts 0 (repeated k (widths r) (number_in 0 r) t)
    → values' ≡ overwrite values 0 (repeated k (widths setting) (number_in 1 setting) t)
    → ReadsAs (made (kind.WriteContacts many) n t) t (Asks (code.WriteContacts k)) contacts values contacts' values'
unfolding widths
settings-made many n k t contacts values contacts' values' r er ek e ev =
    let stand : contacts' ≡ overwrite contacts 0 (repeated k 6 (number_in 0 setting) t) = e ∙ ap (λ (u : List Field). overwrite contacts 0 (repeated k (widths u) (number_in 0 u) t)) er in
    let are : settings (numbers (all_fields (layout (kind.WriteContacts many)) n t) t) ≡ settings (numbers (times k setting) t) =
    ap settings (setting-numbers many n t) ∙ ap (λ (m : ℕ). settings (numbers (times m setting) t)) (sym ek) in
    record {
      says = λ j b h.
          ap (λ (l : List Setting). request (write_contacts l))
          (ap₂ paired (front_of k 6 (number_in 0 setting) t contacts contacts' stand) ev ∙ sym (are ∙ settings-paired k t values));
      contacts-are = stand ∙ ap (overwrite contacts 0) (sym (ap contacts_in are ∙ set-contacts k t));
      values-are = ev ∙ ap (overwrite values 0) (sym (ap values_in are ∙ set_values k t));
    }

-- ---- ranges

module _ (n s e : ℕ) (t contacts values : List ℕ) where
  pub range-made : (a : Area) → s ≡ number_in 0 (range_in a) t → e ≡ number_in 1 (range_in a) t → ReadsAs (made (kind.ReadRange a) n t) t (Asks (code.ReadRange a s e)) contacts values contacts values
  range-made a p q =
      record {
        says = λ j b h. ap₂ (λ (x y : ℕ). request (read_range a x y)) p q;
        contacts-are = sym (overwrite-none contacts 0);
        values-are = sym (overwrite-none values 0);
      }

  -- where the row has m characters, and its numbers are the first two
  data-made : (a : Area) (m : ℕ) → s ≡ number_in 0 (range_in a) t → e ≡ number_in 1 (range_in a) t
      → makes (kind.WriteRange a) (numbers (all_fields (layout (kind.WriteRange a)) n t) t)
      ≡ write_range a (number_in 0 (range_in a) t) (number_in 1 (range_in a) t) (numbers (times (span (number_in 0 (range_in a) t) (number_in 1 (range_in a) t)) (Word ∷ [])) (drop m t))
      → widths (range_in a) ≡ m
      → length t ≡ widths (all_fields (layout (kind.WriteRange a)) n t)
      → ReadsAs (made (kind.WriteRange a) n t) t (Asks (code.WriteRange a s e)) contacts values contacts values
  data-made a m p q is w long =
      let S = number_in 0 (range_in a) t in
      let E = number_in 1 (range_in a) t in
      let k = span S E in
      let total : length t ≡ m + 4 * k =
      long ∙ widths-append (range_in a) (times k (Word ∷ [])) ∙ ap₂ (λ (x y : ℕ). x + y) w (four k) in
      record {
        says = λ j b h.
            ap₂ (λ (x y : ℕ). request (write_range a x y (words_in b (span x y)))) p q
            ∙ ap (λ (ws : List ℕ). request (write_range a S E ws)) (words_last k m j t b h total)
            ∙ ap request (sym is);
        contacts-are = sym (overwrite-none contacts 0);
        values-are = sym (overwrite-none values 0);
      }

  pub words-made : (a : Area) → s ≡ number_in 0 (range_in a) t → e ≡ number_in 1 (range_in a) t → length t ≡ widths (all_fields (layout (kind.WriteRange a)) n t)
      → ReadsAs (made (kind.WriteRange a) n t) t (Asks (code.WriteRange a s e)) contacts values contacts values
  unfolding numbers widths
  words-made Relays p q long =
      data-made Relays 9 p q (ap (λ (l : List ℕ). write_range Relays (number_in 0 (range_in Relays) t) (number_in 1 (range_in Relays) t) (numbers (times (span (number_in 0 (range_in Relays) t) (number_in 1 (range_in Relays) t)) (Word ∷ [])) l)) (ap (drop 4) (drop-drop 4 1 t) ∙ drop-drop 4 5 t)) refl long
  words-made Registers p q long =
      data-made Registers 11 p q (ap (λ (l : List ℕ). write_range Registers (number_in 0 (range_in Registers) t) (number_in 1 (range_in Registers) t) (numbers (times (span (number_in 0 (range_in Registers) t) (number_in 1 (range_in Registers) t)) (Word ∷ [])) l)) (ap (drop 5) (drop-drop 5 1 t) ∙ drop-drop 5 6 t)) refl long

  pub fill-made : (w : ℕ) → let r = range_in Registers ++ (Word ∷ []) in s ≡ number_in 0 r t → e ≡ number_in 1 r t → w ≡ number_in 2 r t
      → ReadsAs (made kind.Fill n t) t (Asks (code.Fill s e w)) contacts values contacts values
  fill-made w p q u =
      let r = range_in Registers ++ (Word ∷ []) in
      record {
        says = λ j b h. ap₂ (λ (x y : ℕ). request (fill x y w)) p q ∙ ap (λ (x : ℕ). request (fill (number_in 0 r t) (number_in 1 r t) x)) u;
        contacts-are = sym (overwrite-none contacts 0);
        values-are = sym (overwrite-none values 0);
      }

-- how many contacts there are at most
pub one-or : (many : Bool) (n : ℕ) → n ≤ 8 → pick many n 1 ≤ 8
one-or true n h = h
one-or false n h = lit≤ tt
