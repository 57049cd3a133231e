-- Laws of what an answer says: an error leaves the places as they were; what is said of the end of a text is said of the text. Assumes nothing.
use mathlib.Core.Path.{◌≡◌, refl, sym, ap, ◌∙◌}
use mathlib.Core.List.{List}
use Prim.Native.Nat.{ℕ, ◌+◌}
use lib.ListN.{drop}
use lib.Seq.{drop-drop}
use Rattle.rules.specs.Tests.{first}
use Rattle.text_rooms.proofs.Overwrite.{overwrite-none}
use Rattle.mewtocol_frame.specs.declared.Limits.{Limits}
use Rattle.mewtocol_commands.specs.Commands.{Layout, layout}
use Rattle.mewtocol_requests.specs.Reading.{Reading, faulty, read_fields, read_as}
use Rattle.mewtocol_steps.specs.Steps.{count_tests, count_in, after_count, number}
use Rattle.mewtocol_requests.specs.Code.{ReadsAs}
use Rattle.mewtocol_commands.specs.declared.Kind.{Kind}
use Rattle.mewtocol_steps.specs.declared.MewtocolError.{MewtocolError}
use Rattle.mewtocol_requests.specs.declared.Reading as code
use Rattle.mewtocol_requests.specs.declared.Reading.TheVariants.{Faulty}

-- an answer to the same
pub reads_same : {o o' : Reading} {t : List ℕ} {r : code.Reading} {c v c' v' : List ℕ} → o ≡ o' → ReadsAs o t r c v c' v' → ReadsAs o' t r c v c' v'
reads_same e h = rw e at h

pub faulty-reads : (e : MewtocolError) (o : Reading) (t c v : List ℕ) → o ≡ faulty (number e) → ReadsAs o t (Faulty e) c v c v
faulty-reads e o t c v h =
    reads_same (sym h) (record { says = λ k b p. refl; contacts-are = sym (overwrite-none c 0); values-are = sym (overwrite-none v 0) })

-- the text begins with m characters more
pub reads-after : (m : ℕ) (t s : List ℕ) {o : Reading} {r : code.Reading} {c v c' v' : List ℕ} → s ≡ drop m t → ReadsAs o s r c v c' v' → ReadsAs o t r c v c' v'
reads-after m t s e h =
    record {
      says = λ k b p. h.says (k + m) b (sym (drop-drop m k b) ∙ ap (drop m) p ∙ sym e);
      contacts-are = h.contacts-are;
      values-are = h.values-are;
    }

-- step 1 of a layout
pub as-laid-out : (l : Limits) (k : Kind) (t : List ℕ) (y : Layout) → layout k ≡ y → read_as l k t ≡ first faulty (count_tests y t) (read_fields l k (count_in y t) (after_count y t))
unfolding read_as
as-laid-out l k t y e = ap (λ (z : Layout). first faulty (count_tests z t) (read_fields l k (count_in z t) (after_count z t))) e
