-- The statements of specs/Statements on lists of contacts: a list of one is named, any other counted. Assumes nothing.
use mathlib.Core.Path.{◌≡◌, refl, sym, ap, ap₂, ◌∙◌}
use mathlib.Core.List.{List, [], ◌∷◌, append-nil}
use mathlib.Core.Bool.{Bool, true, false}
use Prim.Native.Nat.{ℕ}
use native.Mathlib.Omega.{arith}
use borrow.Author.Tests.{eqb-true, ne_eqb}
use lib.Dec.{eqb, leb, ltb, leb-zero, leb-suc-suc}
use lib.ListN.{length}
use Rattle.rules.specs.Choice.{pick, both, between, all_between}
use Rattle.rules.specs.Characters.{letter_c, letter_r, letter_s}
use Rattle.mewtocol_frame.specs.declared.Limits.{Limits}
use Rattle.mewtocol_commands.specs.declared.Command.TheVariants.{RCS, RCP}
use Rattle.mewtocol_commands.specs.declared.Field.TheVariants.{Contact}
use Rattle.mewtocol_commands.specs.Fields.{room}
use Rattle.mewtocol_requests.specs.Requests.{read_contacts}
use Rattle.mewtocol_commands.specs.Rows.{contact, times}
use Rattle.mewtocol_asking.specs.Asking.{◌for◌, ask_text, filled, characters, fit, can_ask}
use Rattle.mewtocol_writer.specs.Statements.{OneByRCS, MoreByRCP, OneToEight}

-- ---- by which command

pub one-by-rcs : OneByRCS
unfolding ask_text filled characters
one-by-rcs c vs ws = ap (λ (t : List ℕ). letter_r ∷ letter_c ∷ letter_s ∷ letter_r ∷ t) (append-nil (characters Contact c))

pub more-by-rcp : MoreByRCP
unfolding ask_text
more-by-rcp cs vs ws h = ap (λ (b : Bool). ask_text ((pick b RCS RCP) for read_contacts cs)) (ne_eqb (length cs) 1 (λ e. omega arith))

-- ---- how many

below-room : (c : ℕ) → ltb c (room Contact) ≡ between 0 15999 c
unfolding between
below-room c = leb-suc-suc c 15999 ∙ sym (ap (λ (b : Bool). both b (leb c 15999)) (leb-zero c))

fit_all : (cs : List ℕ) → fit (times (length cs) contact) cs ≡ all_between 0 15999 cs
unfolding fit times all_between
fit_all [] = refl
fit_all (c ∷ cs) = ap₂ both (below-room c) (fit_all cs)

and-true : (b : Bool) → both b true ≡ b
and-true true = refl
and-true false = refl

-- a list of one passes the row's own tests, any other is counted first
counted-or-one : (l : Limits) (cs : List ℕ) (one : Bool) → eqb (length cs) 1 ≡ one
    → can_ask l ((pick one RCS RCP) for read_contacts cs) ≡ both (between 1 8 (length cs)) (all_between 0 15999 cs)
unfolding can_ask fit all_between between
counted-or-one l [] true e = absurd (omega (arith, eqb-true 0 1 e))
counted-or-one l (c ∷ []) true e = and-true (both (ltb c (room Contact)) true) ∙ ap (λ (b : Bool). both b true) (below-room c)
counted-or-one l (c ∷ d ∷ cs) true e = absurd (omega (arith, eqb-true (length (c ∷ d ∷ cs)) 1 e))
counted-or-one l cs false e = ap (both (between 1 8 (length cs))) (and-true (fit (times (length cs) contact) cs) ∙ fit_all cs)

pub one-to-eight : OneToEight
one-to-eight l cs vs ws = counted-or-one l cs (eqb (length cs) 1) refl
