-- The statements of specs/Statements: what is written is in its range, and what is not written stays. Assumes nothing.
use Prim.Native.Nat.{ℕ, ◌+◌}
use mathlib.Core.Bool.{Bool, true, false, not, false≢true}
use mathlib.Core.List.{List, [], ◌∷◌}
use mathlib.Core.Logic.{inl, inr}
use mathlib.Core.Path.{◌≡◌, refl, ap, ap₂, ◌∙◌}
use lib.ListN.{length, get_or}
use Rattle.rules.specs.Choice.{pick, both, either, between}
use Rattle.rules.specs.Tests.{Test, ◌unless◌, first}
use Rattle.rules.proofs.Choose.{both_left, both_right, no-left, no-right}
use Rattle.table_registers.specs.declared.Verdict.{Verdict}
use Rattle.table_registers.specs.declared.Verdict.TheVariants.{Granted, Lacking, Unfit}
use Rattle.table_registers.specs.declared.Profile.{Profile}
use Rattle.table_registers.specs.Operation as operation
use Rattle.table_registers.specs.Operation.{Operation, address_check, after, is_granted}
use Rattle.table_registers.specs.Profile.{Row, single, pair, joined, within, rows_of, keeps, all_kept, writes_word, takes, verdict}
use Rattle.table_registers.proofs.Profiles.{fitting-granted}
use Rattle.station.specs.Site.{Site, Asked, wrong, asks, tells, Done, Errors, done}
use Rattle.station.specs.Outcome.{Outcome, silent}
use Rattle.station.specs.Station.{Format, call_tests, frame_tests, leaves, answer, received, station}
use Rattle.station.specs.declared.Whom.{Whom}
use Rattle.station.specs.declared.Whom.TheVariants.{This, All, Other}
use Rattle.theorems_profiles.specs.Statements.{NothingChanges, in_range, writes_row, Call, site_in, called, done_to, wrote, words_after, some_wrote, Of, StaysInRange, NeverLeaves}
use Rattle.theorems_profiles.proofs.Untouched.{untouched}

pub nothing-changes : NothingChanges
unfolding takes
nothing-changes m attributes own words frame room = refl

-- ---- one operation

row_kept : (w : ℕ → Bool) (v : ℕ → ℕ) (r : Row) (rs : List Row) → Of r rs → all_kept w v rs ≡ true → keeps w v r ≡ true
row_kept w v r [] i e = absurd i
row_kept w v r (q ∷ rs) (inl same) e = ap (keeps w v) same ∙ both_left _ _ e
row_kept w v r (q ∷ rs) (inr i) e = row_kept w v r rs i (both_right (keeps w v q) _ e)

single-range : (w x : Bool) → pick w x true ≡ true → w ≡ true → x ≡ true
single-range true x e h = e
single-range false x e h = absurd (false≢true h)

pair-range : (a b x : Bool) → pick a (both b x) (not b) ≡ true → either a b ≡ true → x ≡ true
pair-range true true x e h = e
pair-range true false x e h = absurd (false≢true e)
pair-range false true x e h = absurd (false≢true e)
pair-range false false x e h = absurd (false≢true h)

-- a row that is kept and written is in its range
range-of : (o : Operation) (words : List ℕ) (r : Row) → keeps (writes_word o) (λ k. get_or words k 0) r ≡ true → writes_row o r ≡ true → in_range r words ≡ true
range-of o words (single k low high) = single-range (writes_word o k) (between low high (get_or words k 0))
range-of o words (pair k most) = pair-range (writes_word o k) (writes_word o (k + 1)) (within most (joined (get_or words k 0) (get_or words (k + 1) 0)))

-- one that is not written is as it was
same-range : (us words : List ℕ) (o : Operation) (r : Row) → address_check us (length words) o ≡ Granted → writes_row o r ≡ false → in_range r (after o words) ≡ in_range r words
same-range us words o (single k low high) g e = ap (between low high) (untouched us words o k g e)
same-range us words o (pair k most) g e =
    ap₂ (λ (x y : ℕ). within most (joined x y))
    (untouched us words o k g (no-left (writes_word o k) (writes_word o (k + 1)) e))
    (untouched us words o (k + 1) g (no-right (writes_word o k) (writes_word o (k + 1)) e))

-- words after words: a register that was written is in its range, and one that was in it stays so
abbrev Kept : Row → List ℕ → List ℕ → Bool → Type 0
Kept r words words' written = (written ≡ true → in_range r words' ≡ true) × (in_range r words ≡ true → in_range r words' ≡ true)

none_kept : (r : Row) (words : List ℕ) → Kept r words words false
none_kept r words = (λ e. absurd (false≢true e), λ h. h)

granted-kept : (us words : List ℕ) (o : Operation) (r : Row) → address_check us (length words) o ≡ Granted → (writes_row o r ≡ true → in_range r (after o words) ≡ true) → Kept r words (after o words) (writes_row o r)
granted-kept us words o r g k = (k, λ h. go h (writes_row o r) refl)
  where
    go : in_range r words ≡ true → (b : Bool) → writes_row o r ≡ b → in_range r (after o words) ≡ true
    go h true f = k f
    go h false f = same-range us words o r g f ∙ h

operation-kept : (p : Profile) (us words : List ℕ) (o : Operation) (r : Row) → Of r (rows_of p) → (v : Verdict) → verdict p us words o ≡ v
    → Kept r words (operation.words_after v o words) (both (is_granted v) (writes_row o r))
unfolding operation.words_after takes
operation-kept p us words o r i Granted e =
    let g = fitting-granted (takes p o (after o words)) (address_check us (length words) o) e in
    granted-kept us words o r g.1 (range-of o (after o words) r (row_kept (writes_word o) (λ k. get_or (after o words) k 0) r (rows_of p) i g.0))
operation-kept p us words o r i (Lacking n) e = none_kept r words
operation-kept p us words o r i Unfit e = none_kept r words

-- ---- one call

asked-kept : (e : Errors) (p : Profile) (us words : List ℕ) (r : Row) → Of r (rows_of p) → (a : Asked) → Kept r words (done e (verdict p us) words a).words (done_to (verdict p us) words r a)
unfolding done
asked-kept e p us words r i (wrong n) = none_kept r words
asked-kept e p us words r i (asks o reply) = operation-kept p us words o r i (verdict p us words o) refl
asked-kept e p us words r i (tells t) = none_kept r words

tests-kept : (r : Row) (words room : List ℕ) (ts : List Test) (o : Outcome) (b : Bool) → Kept r words o.words b → Kept r words (first (silent words room) ts o).words (first (λ k. false) ts b)
tests-kept r words room [] o b h = h
tests-kept r words room ((k unless true) ∷ ts) o b h = tests-kept r words room ts o b h
tests-kept r words room ((k unless false) ∷ ts) o b h = none_kept r words

answer-kept : (r : Row) (words : List ℕ) (whom : Whom) (room message words' : List ℕ) (b : Bool) → Kept r words words' b → Kept r words (answer whom room message words').words b
answer-kept r words This room message words' b h = h
answer-kept r words All room message words' b h = h
answer-kept r words Other room message words' b h = h

call_kept : (p : Profile) (c : Call) (words : List ℕ) (r : Row) → Of r (rows_of p) → Kept r words (called p c words).words (wrote p c words r)
unfolding station received wrote
call_kept p c words r i =
    let m : Format = c.format in
    let site : Site = site_in p c in
    let d : Done = leaves m site words c.frame in
    tests-kept r words c.room (call_tests m.highest m.room site (length words) (length c.room)) (received m site words c.frame c.room) _
    (tests-kept r words c.room (frame_tests m site words c.frame) (answer (m.whom c.own c.frame) c.room (m.reply c.own c.frame d.says) d.words) _
    (answer-kept r words (m.whom c.own c.frame) c.room (m.reply c.own c.frame d.says) d.words _
    (asked-kept m.errors p c.attributes words r i (m.asked c.frame))))

-- ---- any calls

pub never-leaves : NeverLeaves
unfolding words_after
never-leaves p words [] r i h = h
never-leaves p words (c ∷ cs) r i h = never-leaves p (called p c words).words cs r i ((call_kept p c words r i).1 h)

-- a call that wrote it, or calls after it that did
one_of : (p : Profile) (c : Call) (words : List ℕ) (cs : List Call) (r : Row) → Of r (rows_of p) → (b : Bool) → wrote p c words r ≡ b
    → (some_wrote p (called p c words).words cs r ≡ true → in_range r (words_after p (called p c words).words cs) ≡ true)
    → either b (some_wrote p (called p c words).words cs r) ≡ true → in_range r (words_after p (called p c words).words cs) ≡ true
one_of p c words cs r i true f later e = never-leaves p (called p c words).words cs r i ((call_kept p c words r i).0 f)
one_of p c words cs r i false f later e = later e

pub stays-in-range : StaysInRange
unfolding words_after some_wrote
stays-in-range p words [] r i e = absurd (false≢true e)
stays-in-range p words (c ∷ cs) r i e = one_of p c words cs r i (wrote p c words r) refl (stays-in-range p (called p c words).words cs r i) e
