-- What the steps come to, a law a way: the first that fails, or none. Assumes nothing.
use mathlib.Core.Bool.{true, false}
use mathlib.Core.List.{List}
use mathlib.Core.Path.{◌≡◌, refl, sym, ap, ◌∙◌}
use Prim.Native.Nat.{ℕ}
use borrow.Author.Tests.{eq-eqb, ne_eqb}
use lib.ListN.{length, get_or}
use Rattle.rules.specs.Tests.{first}
use Rattle.mewtocol_frame.specs.declared.Limits.{Limits}
use Rattle.mewtocol_commands.specs.declared.Kind.{Kind}
use Rattle.mewtocol_commands.specs.declared.Seen.{Seen}
use Rattle.mewtocol_commands.specs.Rows.{widths, every}
use Rattle.mewtocol_commands.specs.Commands.{Layout, layout, fields_of, good_range}
use Rattle.mewtocol_commands.specs.Code.{found_of}
use Rattle.mewtocol_steps.specs.Steps.{is_there, listed, start_in, end_in, field_tests, Outcome, wrong, range, fine}
use Rattle.mewtocol_steps.specs.Seeing.{right_data, Seeing}
use Rattle.mewtocol_steps.proofs.Known.{known_step, known-data, start-found, end-found}

abbrev pub comes_to : Limits → Kind → ℕ → List ℕ → Outcome
comes_to l k n t = first wrong (field_tests l k n t) (fine k t)

module _ (l : Limits) (k : Kind) (n : ℕ) (t : List ℕ) (y : Layout) (is : y ≡ layout k) where
  pub fails-2 : is_there y n t ≡ false → wrong 0x41 ≡ comes_to l k n t
  fails-2 two = rw (← is, two)

  module _ (seen : Seen) (told : Seeing y n t seen) (two : is_there y n t ≡ true) where
    letters : every 3 (fields_of y n) t ≡ seen.letters
    letters = sym (known_step 3 y n t seen.letters refl told.letters)

    digits : every 4 (fields_of y n) t ≡ seen.digits
    digits = sym (known_step 4 y n t seen.digits refl told.digits)

    pub fails-3 : seen.letters ≡ false → wrong 0x60 ≡ comes_to l k n t
    fails-3 three = rw (← is, two, letters ∙ three)

    pub fails-4 : seen.letters ≡ true → seen.digits ≡ false → wrong 0x41 ≡ comes_to l k n t
    fails-4 three four = rw (← is, two, letters ∙ three, digits ∙ four)

    module _ (three : seen.letters ≡ true) (four : seen.digits ≡ true) (start end : ℕ) (first-is : start ≡ get_or (found_of seen.found) 0 0) (second_is : end ≡ get_or (found_of seen.found) 1 0) where
      starts : start ≡ start_in y t
      starts = first-is ∙ start-found y t seen.found told.found

      ends : end ≡ end_in y t
      ends = second_is ∙ end-found y t seen.found told.found

      pub fails-5 : good_range l k start end ≡ false → wrong 0x60 ≡ comes_to l k n t
      fails-5 five = rw (← is, two, letters ∙ three, digits ∙ four, ← starts, ← ends, five)

      module _ (m : ℕ) (many : m ≡ listed y n start end) (five : good_range l k start end ≡ true) where
        pub fails-6 : (length t ≡ widths (fields_of y m) → ⊥) → wrong 0x41 ≡ comes_to l k n t
        fails-6 six = rw (← is, two, letters ∙ three, digits ∙ four, ← starts, ← ends, five, ← many, ne_eqb (length t) _ six)

        module _ (six : length t ≡ widths (fields_of y m)) where
          seven : every 7 (fields_of y m) t ≡ right_data y seen.values t
          seven =
              ap (λ (i : ℕ). every 7 (fields_of y i) t) many
              ∙ sym (known-data y n start end t seen.values told.values (six ∙ ap (λ (i : ℕ). widths (fields_of y i)) many))

          pub fails-7 : right_data y seen.values t ≡ false → wrong 0x61 ≡ comes_to l k n t
          fails-7 e = rw (← is, two, letters ∙ three, digits ∙ four, ← starts, ← ends, five, ← many, eq-eqb (length t) _ six, seven ∙ e)

          pub passes : right_data y seen.values t ≡ true → range start end ≡ comes_to l k n t
          passes e = rw (← is, two, letters ∙ three, digits ∙ four, ← starts, ← ends, five, ← many, eq-eqb (length t) _ six, seven ∙ e)
