-- Two frames that are apart may come in either order, in any two formats: each is an act on the table, and its answer sees the cells that it
-- reads. What is to all is done where it writes and would have got a good reply, and gets none. Assumes nothing.
use mathlib.Core.Path.{◌≡◌, refl, sym, ap, subst, ◌∙◌}
use mathlib.Core.Bool.{Bool, true, false}
use mathlib.Core.List.{List, [], ◌∷◌, ◌++◌}
use Prim.Native.Nat.{ℕ}
use native.Mathlib.Omega.{arith}
use borrow.Author.Tests.{eqb-true, eq-eqb, le-leb}
use lib.Dec.{eqb, leb, ltb}
use lib.ListN.{length}
use Rattle.rules.specs.Choice.{pick, both, between, all_between}
use Rattle.rules.specs.Given.{Given, gives, refused}
use Rattle.rules.specs.Tests.{Test, ◌unless◌, first}
use Rattle.rules.proofs.Tests.{first-append, first-refused, first-passed, passed}
use Rattle.table_addresses.specs.Catalogue.{table_limit}
use Rattle.table_registers.specs.declared.Verdict.{Verdict}
use Rattle.table_registers.specs.declared.Verdict.TheVariants.{Granted, Lacking, Unfit}
use Rattle.table_registers.specs.declared.Profile.{Profile}
use Rattle.table_registers.specs.Operation.{Operation, need, shows, words_after}
use Rattle.table_registers.specs.Profile.{verdict}
use Rattle.station.specs.Site.{Site, site_of, Asked, wrong, asks, tells, Says, is_good, said, Done, Errors, done}
use Rattle.station.specs.Outcome.{Returned, Outcome, silent, carried}
use Rattle.station.specs.Station.{Format, call_tests, heeded, answer, leaves, received, station}
use Rattle.station.specs.declared.Whom.{Whom}
use Rattle.station.specs.declared.Whom.TheVariants.{This, All, Other}
use Rattle.table_cells.specs.Cells.{Cells, touches, may_pass}
use Rattle.modbus_counters.specs.Counters.{cleared}
use Rattle.modbus_counters.specs.declared.Counters.{Counters}
use Rattle.masters.specs.Frames.{asked_cells, frame_cells, format_of}
use Rattle.theorems_masters.specs.Masters.{Master, site_of_master, cells_of, calls, Asks, OrderIsFree}
use Rattle.theorems_masters.proofs.Commute.{Table, Acts, Sees, idle, acts-as, sees-as, commute, one-sees, other-sees}
use Rattle.theorems_masters.proofs.Acting.{operation-acts, operation-sees}
use Rattle.theorems_masters.proofs.Asked.{WellAsked, frame-well, counters-same}

-- what a master is told
abbrev told : Outcome → Returned × List ℕ
told o = (o.result, o.room)

-- what a request that came so far gives: 12, or its answer
abbrev outcome : List ℕ → Whom → Asked → (Says → List ℕ) → List ℕ → Done → Outcome
outcome room whom a message w d = pick (heeded whom a d.says) (answer whom room (message d.says) d.words) (silent w room 12)

-- it is told by what is said alone
told-by : (room : List ℕ) (whom : Whom) (t : Bool) (message w left : List ℕ) → told (pick t (answer whom room message left) (silent w room 12)) ≡ told (pick t (answer whom room message []) (silent [] room 12))
told-by room This true message w left = refl
told-by room All true message w left = refl
told-by room Other true message w left = refl
told-by room whom false message w left = refl

outcome-told : (room : List ℕ) (whom : Whom) (a : Asked) (message : Says → List ℕ) (w : List ℕ) (d : Done)
    → told (outcome room whom a message w d) ≡ told (pick (heeded whom a d.says) (answer whom room (message d.says) []) (silent [] room 12))
outcome-told room whom a message w d = told-by room whom (heeded whom a d.says) (message d.says) w d.words

-- to all: what is not done leaves the words, too
all_words : (x : Errors) (room s : List ℕ) (o : Operation) (w : List ℕ) (v : Verdict) → (pick (is_good (said x s v)) (carried room (words_after v o w)) (silent w room 12)).words ≡ words_after v o w
unfolding said words_after
all_words x room s o w Granted = refl
all_words x room s o w (Lacking i) = refl
all_words x room s o w Unfit = refl

-- ---- what is asked

module _ (us : List ℕ) (p : Profile) (own : ℕ) (x : Errors) (room : List ℕ) (message : Says → List ℕ) where
  abbrev site : Site
  site = site_of us p own

  abbrev left : Asked → List ℕ → Done
  left a w = done x (verdict p us) w a

  abbrev out : Whom → Asked → List ℕ → Outcome
  out whom a w = outcome room whom a message w (left a w)

  abbrev may : Operation → Bool
  may o = may_pass (verdict p us) (length us) o

  all-acts : (o : Operation) (reply : List ℕ → List ℕ) → WellAsked (asks o reply) → (b : Bool) → ltb 1 (need o) ≡ b
      → Acts (length us) (λ w. (out All (asks o reply) w).words) (asked_cells site All (asks o reply))
  unfolding done
  all-acts o reply h true e =
      acts-as
      (λ w t. ap (λ (b : Bool). (pick (both b (is_good (said x (reply (shows o w)) (verdict p us w o)))) (carried room (words_after (verdict p us w o) o w)) (silent w room 12)).words) e
      ∙ all_words x room (reply (shows o w)) o w (verdict p us w o))
      (λ way c. ap (λ (b : Bool). both (both b (may o)) (touches o way c)) (sym e)) (operation-acts us p o h (may o) refl)
  all-acts o reply h false e =
      acts-as (λ w t. ap (λ (b : Bool). (pick (both b (is_good (said x (reply (shows o w)) (verdict p us w o)))) (carried room (words_after (verdict p us w o) o w)) (silent w room 12)).words) e)
      (λ way c. refl) (idle (length us) (asked_cells site All (asks o reply)))

  asked-acts : (whom : Whom) (a : Asked) → WellAsked a → Acts (length us) (λ w. (out whom a w).words) (asked_cells site whom a)
  unfolding done
  asked-acts This (wrong n) h = idle (length us) (λ way c. false)
  asked-acts All (wrong n) h = idle (length us) (λ way c. false)
  asked-acts Other a h = idle (length us) (asked_cells site Other a)
  asked-acts This (asks o reply) h = operation-acts us p o h (may o) refl
  asked-acts All (asks o reply) h = all-acts o reply h (ltb 1 (need o)) refl
  asked-acts This (tells t) h = absurd h
  asked-acts All (tells t) h = absurd h

  -- what is said decides what is told
  says-told : (whom : Whom) (a : Asked) (cells : Cells) → Sees (length us) (λ w. (left a w).says) cells → Sees (length us) (λ w. told (out whom a w)) cells
  says-told whom a cells s w w' t t' r =
      outcome-told room whom a message w (left a w)
      ∙ ap (λ (y : Says). told (pick (heeded whom a y) (answer whom room (message y) []) (silent [] room 12))) (s w w' t t' r)
      ∙ sym (outcome-told room whom a message w' (left a w'))

  all-sees : (o : Operation) (reply : List ℕ → List ℕ) → WellAsked (asks o reply) → (b : Bool) → ltb 1 (need o) ≡ b
      → Sees (length us) (λ w. told (out All (asks o reply) w)) (asked_cells site All (asks o reply))
  unfolding done
  all-sees o reply h true e =
      says-told All (asks o reply) (asked_cells site All (asks o reply))
      (sees-as (λ w t. refl) (λ way c. ap (λ (b : Bool). both (both b (may o)) (touches o way c)) (sym e)) (operation-sees us p o h x reply (may o) refl))
  all-sees o reply h false e = λ w w' t t' r. unsaid w ∙ sym (unsaid w')
    where
      unsaid : (v : List ℕ) → told (out All (asks o reply) v) ≡ told (silent [] room 12)
      unsaid v = ap (λ (b : Bool). told (pick (both b (is_good (left (asks o reply) v).says)) (carried room (left (asks o reply) v).words) (silent v room 12))) e

  asked-sees : (whom : Whom) (a : Asked) → WellAsked a → Sees (length us) (λ w. told (out whom a w)) (asked_cells site whom a)
  unfolding done
  asked-sees This (wrong n) h = says-told This (wrong n) (λ way c. false) (λ w w' t t' r. refl)
  asked-sees All (wrong n) h = λ w w' t t' r. refl
  asked-sees Other a h = λ w w' t t' r. refl
  asked-sees This (asks o reply) h = says-told This (asks o reply) (asked_cells site This (asks o reply)) (operation-sees us p o h x reply (may o) refl)
  asked-sees All (asks o reply) h = all-sees o reply h (ltb 1 (need o)) refl
  asked-sees This (tells t) h = absurd h
  asked-sees All (tells t) h = absurd h

-- ---- a frame

module _ (m : Format) (us : List ℕ) (p : Profile) (own : ℕ) (frame room : List ℕ) (well : WellAsked (m.asked frame)) where
  abbrev here : Site
  here = site_of us p own

  abbrev tests : ℕ → ℕ → List Test
  tests n size = call_tests m.highest m.room here n size ++ m.tests frame

  abbrev answers : List ℕ → Outcome
  answers w = outcome room (m.whom own frame) (m.asked frame) (m.reply own frame) w (leaves m here w frame)

  abbrev given : List ℕ → Outcome
  given w = station m here w frame room

  -- all tests in a row, then the answer
  given_is : (n : ℕ) (w : List ℕ) → length w ≡ n → given w ≡ first (silent w room) (tests n (length room)) (answers w)
  unfolding station received
  given_is n w l =
      ap (first (silent w room) (call_tests m.highest m.room here (length w) (length room)))
      (first-append (silent w room) (m.tests frame) ((12 unless heeded (m.whom own frame) (m.asked frame) (leaves m here w frame).says) ∷ []) _)
      ∙ sym (first-append (silent w room) (call_tests m.highest m.room here (length w) (length room)) (m.tests frame) (answers w))
      ∙ ap (λ (k : ℕ). first (silent w room) (tests k (length room)) (answers w)) l

  -- a call that is stopped gives its number, whatever the words hold
  stopped : (n k : ℕ) → first refused (tests n (length room)) (gives 0) ≡ refused k → (w : List ℕ) → length w ≡ n → given w ≡ silent w room k
  stopped n k e w l = given_is n w l ∙ first-refused (tests n (length room)) 0 k e (silent w room) (answers w)

  goes_on : (n v : ℕ) → first refused (tests n (length room)) (gives 0) ≡ gives v → (w : List ℕ) → length w ≡ n → given w ≡ answers w
  goes_on n v e w l = given_is n w l ∙ first-passed (tests n (length room)) 0 v e (silent w room) (answers w)

  -- and one that goes on has a table as long as the attributes, and its frame has the cells of what it asks
  module _ (n v : ℕ) (e : first refused (tests n (length room)) (gives 0) ≡ gives v) where
    abbrev rest₄ : List Test
    rest₄ = (3 unless leb m.room (length room)) ∷ m.tests frame

    abbrev rest₃ : List Test
    rest₃ = (2 unless between 1 m.highest own) ∷ rest₄

    abbrev rest₂ : List Test
    rest₂ = (1 unless all_between 0 3 us) ∷ rest₃

    abbrev rest₁ : List Test
    rest₁ = (1 unless eqb (length us) n) ∷ rest₂

    count-is : length us ≡ n
    count-is = eqb-true (length us) n (passed 1 (eqb (length us) n) rest₂ 0 v (passed 1 (leb n table_limit) rest₁ 0 v e).1).0

    cells_are : (way c : ℕ) → asked_cells here (m.whom own frame) (m.asked frame) way c ≡ frame_cells m here frame way c
    unfolding frame_cells
    cells_are way c =
        let a = passed 1 (leb n table_limit) rest₁ 0 v e in
        let b = passed 1 (eqb (length us) n) rest₂ 0 v a.1 in
        let d = passed 1 (all_between 0 3 us) rest₃ 0 v b.1 in
        let f = passed 2 (between 1 m.highest own) rest₄ 0 v d.1 in
        let g = passed 3 (leb m.room (length room)) (m.tests frame) 0 v f.1 in
        let limit : leb (length us) table_limit ≡ true = ap (λ (k : ℕ). leb k table_limit) count-is ∙ a.0 in
        sym (rw (limit, eq-eqb (length us) (length us) refl, d.0, f.0, le-leb m.room m.room (omega arith))
        (first-passed (m.tests frame) 0 v g.1 (λ k. false) (asked_cells here (m.whom own frame) (m.asked frame) way c)))

  pub frame-acts : (n : ℕ) → Acts n (λ w. (given w).words) (frame_cells m here frame)
  frame-acts n = go (first refused (tests n (length room)) (gives 0)) refl
    where
      go : (r : Given) → first refused (tests n (length room)) (gives 0) ≡ r → Acts n (λ w. (given w).words) (frame_cells m here frame)
      go (refused k) e = acts-as (λ w t. ap (λ (o : Outcome). o.words) (stopped n k e w t.0)) (λ way c. refl) (idle n (frame_cells m here frame))
      go (gives v) e =
          acts-as (λ w t. ap (λ (o : Outcome). o.words) (goes_on n v e w t.0)) (cells_are n v e)
          (subst (λ (k : ℕ). Acts k (λ w. (answers w).words) (asked_cells here (m.whom own frame) (m.asked frame))) (count-is n v e)
          (asked-acts us p own m.errors room (m.reply own frame) (m.whom own frame) (m.asked frame) well))

  pub frame-sees : (n : ℕ) → Sees n (λ w. told (given w)) (frame_cells m here frame)
  frame-sees n = go (first refused (tests n (length room)) (gives 0)) refl
    where
      go : (r : Given) → first refused (tests n (length room)) (gives 0) ≡ r → Sees n (λ w. told (given w)) (frame_cells m here frame)
      go (refused k) e = λ w w' t t' r. ap told (stopped n k e w t.0) ∙ sym (ap told (stopped n k e w' t'.0))
      go (gives v) e =
          sees-as {f = λ w. told (answers w)} {g = λ w. told (given w)} (λ w t. ap told (goes_on n v e w t.0)) (cells_are n v e)
          (subst (λ (k : ℕ). Sees k (λ w. told (answers w)) (asked_cells here (m.whom own frame) (m.asked frame))) (count-is n v e)
          (asked-sees us p own m.errors room (m.reply own frame) (m.whom own frame) (m.asked frame) well))

-- ---- two masters

module _ (us : List ℕ) (p : Profile) (m : Master) (asks : Asks m) where
  -- whatever the counters
  called : (c : Counters) (w : List ℕ) → calls us p m c w ≡ calls us p m cleared w
  called c w = counters-same m.line c cleared (site_of_master us p m) w m.frame m.room asks.table

  well_asked : WellAsked ((format_of m.line cleared).asked m.frame)
  well_asked = frame-well m.line m.frame asks.bytes asks.table

  master-acts : (n : ℕ) → Acts n (λ w. (calls us p m cleared w).words) (cells_of us p m)
  master-acts = frame-acts (format_of m.line cleared) us p m.own m.frame m.room well_asked

  master-sees : (n : ℕ) → Sees n (λ w. told (calls us p m cleared w)) (cells_of us p m)
  master-sees = frame-sees (format_of m.line cleared) us p m.own m.frame m.room well_asked

  -- a call by any counters, over words that are the same
  words-as : (c : Counters) {w w' : List ℕ} → w ≡ w' → (calls us p m c w).words ≡ (calls us p m cleared w').words
  words-as c {w} e = ap (λ (o : Outcome). o.words) (called c w) ∙ ap (λ (v : List ℕ). (calls us p m cleared v).words) e

  told-as : (c : Counters) {w w' : List ℕ} → w ≡ w' → told (calls us p m c w) ≡ told (calls us p m cleared w')
  told-as c {w} e = ap told (called c w) ∙ ap (λ (v : List ℕ). told (calls us p m cleared v)) e

parts : {r s : Returned} {x y : List ℕ} → ◌≡◌ {A = Returned × List ℕ} (r, x) (s, y) → (r ≡ s) × (x ≡ y)
parts e = (ap (λ (z : Returned × List ℕ). z.0) e, ap (λ (z : Returned × List ℕ). z.1) e)

pub order-is-free : OrderIsFree
order-is-free us words p one other h asks-one asks-other apart =
    let n : ℕ = length words in
    let f = master-acts us p one asks-one n in
    let g = master-acts us p other asks-other n in
    let t : Table n words = (refl, h) in
    let one_again = one-sees f g apart (λ w. told (calls us p one cleared w)) (master-sees us p one asks-one n) words t in
    let other-again = other-sees f g apart (λ w. told (calls us p other cleared w)) (master-sees us p other asks-other n) words t in
    record {
      words_same = λ a b c d.
          words-as us p other asks-other b (words-as us p one asks-one a refl) ∙ commute f g apart words t
          ∙ sym (words-as us p one asks-one d (words-as us p other asks-other c refl));
      one_same = λ a b c. parts (told-as us p one asks-one b (words-as us p other asks-other c refl) ∙ one_again ∙ sym (told-as us p one asks-one a refl));
      other-same = λ a b c. parts (told-as us p other asks-other b (words-as us p one asks-one c refl) ∙ other-again ∙ sym (told-as us p other asks-other a refl));
    }
