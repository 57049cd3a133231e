-- Laws of an operation that is carried out whole or refused whole. Assumes nothing.
use mathlib.Core.Path.{◌≡◌, refl, sym, ap, subst, ◌∙◌}
use mathlib.Core.Bool.{true, false, false≢true}
use mathlib.Core.List.{List}
use Prim.Native.Nat.{ℕ}
use Rattle.table_registers.specs.declared.Verdict.{Verdict}
use Rattle.table_registers.specs.declared.Verdict.TheVariants.{Granted, Lacking, Unfit}
use Rattle.table_registers.specs.Operation.{Operation, Judge, Carried, after, words_after, is_granted}

pub is-granted : (v : Verdict) → is_granted v ≡ true → v ≡ Granted
is-granted Granted e = refl
is-granted (Lacking i) e = absurd (false≢true e)
is-granted Unfit e = absurd (false≢true e)

-- what is not granted changes no word
pub refused-keeps : (o : Operation) (words : List ℕ) (v : Verdict) → is_granted v ≡ false → words_after v o words ≡ words
unfolding words_after
refused-keeps o words Granted e = absurd (false≢true (sym e))
refused-keeps o words (Lacking i) e = refl
refused-keeps o words Unfit e = refl

module _ {o : Operation} {words : List ℕ} {judge : Judge} {words' : List ℕ} {v : Verdict} where
  pub Carried-done : v ≡ judge words o → is_granted v ≡ true → words' ≡ after o words → Carried o words judge v words'
  unfolding words_after
  Carried-done p g h = record { verdict-is = p; words-is = h ∙ ap (λ (x : Verdict). words_after x o words) (sym (is-granted v g) ∙ p) }

  pub Carried-refused : v ≡ judge words o → is_granted v ≡ false → words' ≡ words → Carried o words judge v words'
  Carried-refused p g h = record { verdict-is = p; words-is = h ∙ sym (refused-keeps o words (judge words o) (ap is_granted (sym p) ∙ g)) }

-- an operation by other numbers that are the same
pub carried-as : {o o' : Operation} {words : List ℕ} {judge : Judge} {words' : List ℕ} {v : Verdict} → o ≡ o' → Carried o words judge v words' → Carried o' words judge v words'
carried-as {words = words} {judge} {words'} {v} e k = subst (λ (x : Operation). Carried x words judge v words') e k

-- an operation that only reads changes no word, whatever the verdict
pub words_after-read : (v : Verdict) (o : Operation) (words : List ℕ) → after o words ≡ words → words_after v o words ≡ words
unfolding words_after
words_after-read Granted o words e = e
words_after-read (Lacking i) o words e = refl
words_after-read Unfit o words e = refl
