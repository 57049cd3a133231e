-- Of what is for all, a station does the writes only: so what is touched of it is what is touched where it writes. Assumes nothing.
use Prim.Native.Nat.{ℕ}
use mathlib.Core.Bool.{Bool, true, false, false≢true}
use mathlib.Core.Path.{◌≡◌, refl, sym, ap, ◌∙◌}
use lib.ListN.{length}
use Rattle.rules.specs.Choice.{both}
use Rattle.rules.proofs.Choose.{both_false}
use Rattle.table_registers.specs.Table.{grants}
use Rattle.table_registers.specs.Operation.{Operation, read_words, read_bits, write_words, fill_words, write_bits, mask_word}
use Rattle.table_cells.specs.declared.Touched.{Touched}
use Rattle.table_cells.specs.Cells.{has, may_pass}
use Rattle.table_cells.specs.Touched.{in_runs, firsts_of, cells_in, Touches}
use Rattle.station.specs.Site.{Site, Asked, wrong, asks, tells}
use Rattle.station.specs.declared.Whom.{Whom}
use Rattle.station.specs.declared.Whom.TheVariants.{This, All, Other}
use Rattle.masters.specs.Frames.{asked_cells}
use Rattle.masters.specs.Asking.{carried_out, TouchesFor}

abbrev may : Site → Operation → Bool
may site o = may_pass site.judge (length site.attributes) o

-- the cells of a request that is asked in these ways, where it may pass
abbrev Asks : Touched → Bool → ℕ → (ℕ → Bool) → Type 0
Asks t may ways cells = (way c : ℕ) → cells_in t way c ≡ both may (both (grants way ways) (cells c))

both-middle : (a b x : Bool) → both a x ≡ false → both a (both b x) ≡ false
both-middle true true x e = e
both-middle true false x e = refl
both-middle false b x e = refl

-- where runs are written, and a read is all that is asked, there are none
read_none : (t : Touched) (may : Bool) (cells : ℕ → Bool) → grants 2 t.way ≡ true → Asks t may 1 cells → (way c : ℕ) → cells_in t way c ≡ false
unfolding cells_in grants
read_none t may cells e h way c =
    let runs = in_runs t.each (firsts_of t) c in
    let none : runs ≡ false = ap (λ (b : Bool). both b runs) (sym e) ∙ h 2 c ∙ both_false may in
    ap (both (grants way t.way)) none ∙ both_false (grants way t.way)

-- and where none is written, but a write is asked, there are none
write-none : (t : Touched) (may : Bool) (ways : ℕ) (cells : ℕ → Bool) → grants 2 ways ≡ true → grants 2 t.way ≡ false → Asks t may ways cells
    → (way c : ℕ) → both may (both (grants way ways) (cells c)) ≡ false
unfolding cells_in
write-none t may ways cells w e h way c =
    both-middle may (grants way ways) (cells c)
    (ap (λ (b : Bool). both may (both b (cells c))) (sym w) ∙ sym (h 2 c) ∙ ap (λ (b : Bool). both b (in_runs t.each (firsts_of t) c)) e)

module _ (t r : Touched) where
  all-written : grants 2 t.way ≡ true → r ≡ t → TouchesFor All t r
  unfolding grants
  all-written e same site a h way c = ap (λ (x : Touched). cells_in x way c) same ∙ go a h
    where
      go : (a : Asked) → Touches t (asked_cells site This a) → cells_in t way c ≡ asked_cells site All a way c
      go (wrong k) h = h way c
      go (tells s) h = h way c
      go (asks (read_words area k n) reply) h = read_none t (may site (read_words area k n)) (has (read_words area k n)) e h way c
      go (asks (read_bits cs) reply) h = read_none t (may site (read_bits cs)) (has (read_bits cs)) e h way c
      go (asks (write_words area k vs) reply) h = h way c
      go (asks (fill_words k n v) reply) h = h way c
      go (asks (write_bits cs vs) reply) h = h way c
      go (asks (mask_word k x y) reply) h = h way c

  none_written : grants 2 t.way ≡ false → ((way c : ℕ) → cells_in r way c ≡ false) → TouchesFor All t r
  unfolding grants
  none_written e none site a h way c = none way c ∙ sym (go a h)
    where
      go : (a : Asked) → Touches t (asked_cells site This a) → asked_cells site All a way c ≡ false
      go (wrong k) h = refl
      go (tells s) h = refl
      go (asks (read_words area k n) reply) h = refl
      go (asks (read_bits cs) reply) h = refl
      go (asks (write_words area k vs) reply) h = write-none t (may site (write_words area k vs)) 2 (has (write_words area k vs)) refl e h way c
      go (asks (fill_words k n v) reply) h = write-none t (may site (fill_words k n v)) 2 (has (fill_words k n v)) refl e h way c
      go (asks (write_bits cs vs) reply) h = write-none t (may site (write_bits cs vs)) 2 (has (write_bits cs vs)) refl e h way c
      go (asks (mask_word k x y) reply) h = write-none t (may site (mask_word k x y)) 3 (has (mask_word k x y)) refl e h way c

  -- of what is for another station nothing is
  other_none : ((way c : ℕ) → cells_in r way c ≡ false) → TouchesFor Other t r
  other_none none site a h way c = none way c ∙ sym (go a)
    where
      go : (a : Asked) → asked_cells site Other a way c ≡ false
      go (wrong k) = refl
      go (tells s) = refl
      go (asks o reply) = refl

-- ---- by whom it is for

pub carried : (w : Whom) (t : Touched) → carried_out w t.way ≡ true → TouchesFor w t t
carried This t e = λ site a h. h
carried All t e = all-written t t e refl
carried Other t e = absurd (false≢true e)

pub not_carried : (w : Whom) (t r : Touched) → carried_out w t.way ≡ false → ((way c : ℕ) → cells_in r way c ≡ false) → TouchesFor w t r
not_carried This t r e none = absurd (false≢true (sym e))
not_carried All t r e none = none_written t r e none
not_carried Other t r e none = other_none t r none
