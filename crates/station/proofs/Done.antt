-- What a request leaves, from the verdict on its operation. Assumes nothing.
use Prim.Native.Nat.{ℕ}
use mathlib.Core.List.{List}
use mathlib.Core.Path.{◌≡◌, refl, sym, ap, subst, ◌∙◌}
use lib.ListN.{length}
use Rattle.text_rooms.specs.Room.{overwrite, Put}
use Rattle.table_registers.specs.declared.Verdict.{Verdict}
use Rattle.table_registers.specs.declared.Verdict.TheVariants.{Granted, Lacking, Unfit}
use Rattle.table_registers.specs.Operation.{Operation, Judge, Carried, after, shows, words_after, is_granted}
use Rattle.station.specs.Site.{asks, Says, good, error, is_good, Done, Errors, said, done}
use Rattle.station.specs.Outcome.{Served}

-- a verdict that was reached, and the words that were left
pub done-as : (e : Errors) (judge : Judge) (words : List ℕ) (o : Operation) (reply : List ℕ → List ℕ) {v : Verdict} {words' : List ℕ}
    → Carried o words judge v words' → done e judge words (asks o reply) ≡ record { says = said e (reply (shows o words)) v; words = words' }
unfolding done
done-as e judge words o reply {v} {words'} c =
    (λ i. record { says = said e (reply (shows o words)) (sym c.verdict-is i); words = sym c.words-is i })

pub done-granted : (e : Errors) (judge : Judge) (words : List ℕ) (o : Operation) (reply : List ℕ → List ℕ) → judge words o ≡ Granted
    → done e judge words (asks o reply) ≡ record { says = good (reply (shows o words)); words = after o words }
unfolding done said words_after
done-granted e judge words o reply h = rw h

pub done-lacking : (e : Errors) (judge : Judge) (words : List ℕ) (o : Operation) (reply : List ℕ → List ℕ) (i : ℕ) → judge words o ≡ Lacking i
    → done e judge words (asks o reply) ≡ record { says = error e.address; words = words }
unfolding done said words_after
done-lacking e judge words o reply i h = rw h

pub done-unfit : (e : Errors) (judge : Judge) (words : List ℕ) (o : Operation) (reply : List ℕ → List ℕ) → judge words o ≡ Unfit
    → done e judge words (asks o reply) ≡ record { says = error e.value; words = words }
unfolding done said words_after
done-unfit e judge words o reply h = rw h

-- a reply is good exactly where the operation is granted
pub said-good : (e : Errors) (t : List ℕ) (v : Verdict) → is_good (said e t v) ≡ is_granted v
unfolding said
said-good e t Granted = refl
said-good e t (Lacking i) = refl
said-good e t Unfit = refl

-- ---- a reply in its room

pub served : {message : Says → List ℕ} {d : Done} {says : Says} {w r : List ℕ} {at k : ℕ} {w' r' : List ℕ}
    → d ≡ record { says = says; words = w } → Put r at (message says) k r' → w' ≡ w → Served message d r at k w' r'
served {message} {d} {says} {w} {r} {at} e s h =
    record {
      size = s.size ∙ sym (ap (λ (x : Done). length (message x.says)) e);
      room = s.room ∙ sym (ap (λ (x : Done). overwrite r at (message x.says)) e);
      words-is = h ∙ sym (ap (λ (x : Done). x.words) e);
    }

pub served-as : {message : Says → List ℕ} {d d' : Done} {r : List ℕ} {at k : ℕ} {w' r' : List ℕ} → d ≡ d' → Served message d' r at k w' r' → Served message d r at k w' r'
served-as {message} {d} {d'} {r} {at} {k} {w'} {r'} e s = subst (λ (x : Done). Served message x r at k w' r') (sym e) s

pub put_as : {r m m' : List ℕ} {at k : ℕ} {r' : List ℕ} → m' ≡ m → Put r at m k r' → Put r at m' k r'
put_as {r} {m} {m'} {at} {k} {r'} e s = subst (λ (x : List ℕ). Put r at x k r') (sym e) s
