-- Each way says which test of the frame fails, or that none does and whom the frame is for, and what it counts. Assumes nothing.
use mathlib.Core.Bool.{Bool, true, false, false≢true}
use mathlib.Core.Path.{◌≡◌, refl, sym, ap, ap₂, subst, ◌∙◌}
use mathlib.Core.List.{List, [], ◌∷◌}
use Prim.Native.Nat.{ℕ, suc, ◌+◌, ◌*◌, ◌-◌, ◌≤◌, ◌<◌}
use native.Mathlib.Omega.{arith}
use borrow.Author.Tests.{eqb-true, le-leb, lt-leb}
use lib.Dec.{eqb}
use lib.ListN.{length, get_or, take}
use Rattle.rules.specs.Choice.{pick, between}
use Rattle.rules.specs.Given.{gives, refused}
use Rattle.rules.specs.Tests.{first}
use mathlib.Core.Logic.{◌⊎◌, inl, inr}
use Rattle.rules.proofs.Choose.{via, is-between}
use Rattle.checks_crc.specs.Crc.{crc_of, right_crc}
use Rattle.checks_crc.proofs.Closing.{right-crc-word}
use Rattle.table_registers.specs.Profile.{verdict}
use Rattle.station.specs.Site.{site_of}
use Rattle.station.specs.Outcome.{Is}
use Rattle.station.specs.Station.{to_all}
use Rattle.station.specs.declared.Whom.{Whom}
use Rattle.station.specs.declared.Whom.TheVariants.{This, All, Other}
use Rattle.modbus_body.specs.Body as body
use Rattle.modbus_line.specs.Framing.{whom_at, frame_tests}
use Rattle.modbus_line.specs.Calls.{Answers}
use Rattle.modbus_line.proofs.Calls.{line_refused, line_other, line-for-all, line-answered}
use Rattle.modbus_rtu.specs.Rtu.{rtu, rtu_frame, body_of}
use Rattle.modbus_rtu.proofs.hear.Goals as goal

-- length and check are right
right : (f : List ℕ) → 4 ≤ length f → length f ≤ 256 → right_crc f ≡ true → first refused (frame_tests rtu f) (gives 0) ≡ gives 0
right f enough few check = rw (is-between 4 256 (length f) enough few, check)

-- ---- the request's own CRC
-- only the own number names this station
named : (to own : ℕ) → whom_at to own ≡ This → to ≡ own
unfolding whom_at
named to own e = eqb-true to own (go (eqb to own) (eqb to 0) (ap is_this e))
  where
    is_this : Whom → Bool
    is_this This = true
    is_this All = false
    is_this Other = false

    go : (b d : Bool) → is_this (pick b This (pick d All Other)) ≡ true → b ≡ true
    go true d h = refl
    go false true h = absurd (false≢true h)
    go false false h = absurd (false≢true h)

-- what the CRC is of: the station and the body
front : (f : List ℕ) (own : ℕ) → 4 ≤ length f → get_or f 0 0 ≡ own → take (length f - 2) f ≡ own ∷ body_of f
front [] own h e = absurd (omega arith)
front (x ∷ f) own h e =
    let one : suc (length f) - 2 ≡ suc (length f - 2) = omega arith in
    let same : length f - 2 ≡ suc (length f) - 3 = omega arith in
    ap (λ (k : ℕ). take k (x ∷ f)) one ∙ ap₂ (λ (y k : ℕ). y ∷ take k f) e same

module _ (f : List ℕ) (own : ℕ) (enough : 4 ≤ length f) (low : get_or f (length f - 2) 0 < 256) (high : get_or f (length f - 2 + 1) 0 < 256) where
  -- the last two bytes as one word
  own-crc : right_crc f ≡ true → whom_at (get_or f 0 0) own ≡ This → get_or f (length f - 2) 0 + 256 * get_or f (length f - 2 + 1) 0 ≡ crc_of (own ∷ body_of f)
  own-crc check whom =
      let last : length f - 2 + 1 ≡ length f - 1 = omega arith in
      let said = right-crc-word f (omega arith) low (subst (λ (k : ℕ). get_or f k 0 < 256) last high) in
      ap (λ (k : ℕ). get_or f (length f - 2) 0 + 256 * get_or f k 0) last ∙ eqb-true _ _ (sym said ∙ check) ∙ ap crc_of (front f own enough (named _ own whom))

-- a length that is too small or too large
outside : (n : ℕ) {A : Type 0} → (n < 4) ⊎ (A × (256 < n)) → between 4 256 n ≡ false
unfolding between
outside n (inl short) = rw (lt-leb 4 n short)
outside n (inr (_, long)) = let enough : 4 ≤ n = omega arith in rw (le-leb 4 n enough, lt-leb n 256 long)

pub returns-then-n-lt-SHORTEST : goal.returns-then-n-lt-SHORTEST
returns-then-n-lt-SHORTEST c = let a = c.args in
    let f = a.frame.now in
    line_refused rtu a.counters (site_of a.attributes.now a.profile a.own) a.words.now f a.reply.now _ (rw (outside (length f) c.then-n-lt-SHORTEST.either)) c.stopped.ensures

pub returns-then-not-right_crc : goal.returns-then-not-right_crc
returns-then-not-right_crc c = let a = c.args in
    let f = a.frame.now in
    line_refused rtu a.counters (site_of a.attributes.now a.profile a.own) a.words.now f a.reply.now _
    (rw (is-between 4 256 (length f) (omega arith) (omega arith), via c.right_crc.ensures c.if-not-right_crc.true)) c.stopped-then-not-right_crc.ensures

pub serve-said-requires : goal.serve-said-requires
serve-said-requires c =
    let t = c in
    let a = t.args in
    let f = a.frame.now in
    let enough : 4 ≤ length f = omega arith in
    let check = via t.right_crc.ensures t.if-not-right_crc.false in
    let whom = ap (λ (t : ℕ). whom_at t a.own) (sym t.byte_at.ensures) ∙ sym t.whom.ensures ∙ c.in-This.is in
    let fits = t.requires in
    let known = t.shared_slice_known-2-1 in (
      record { small = fits.small; big = fits.big },
      c.low_first-crc.ensures
          ∙ own-crc f a.own enough (omega (arith, known.given (length f - 2))) (omega (arith, known.given (length f - 2 + 1))) check whom
          ∙ ap (λ (l : List ℕ). crc_of (a.own ∷ l)) (sym t.part_of-body.ensures),
    )

pub returns-in-This : goal.returns-in-This
returns-in-This c =
    let t = c in
    let a = t.args in
    let f = a.frame.now in
    let tests = right f (omega arith) (omega arith) (via t.right_crc.ensures t.if-not-right_crc.false) in
    let whom = ap (λ (t : ℕ). whom_at t a.own) (sym t.byte_at.ensures) ∙ sym t.whom.ensures ∙ c.in-This.is in
    let said = c.serve-said in
    let heard = c.heard-heard in
    line-answered rtu a.counters (site_of a.attributes.now a.profile a.own) a.words.now f a.reply.now tests said.result whom heard.ensures
    (subst (λ (b : List ℕ). Answers (rtu_frame a.own) heard.result (verdict a.profile a.attributes.now) a.words.now b a.reply.now 0 said.result said.new.words said.new.reply) t.part_of-body.ensures said.ensures)

pub returns-in-All : goal.returns-in-All
returns-in-All c =
    let t = c in
    let a = t.args in
    let f = a.frame.now in
    let tests = right f (omega arith) (omega arith) (via t.right_crc.ensures t.if-not-right_crc.false) in
    let whom = ap (λ (t : ℕ). whom_at t a.own) (sym t.byte_at.ensures) ∙ sym t.whom.ensures ∙ c.in-All.is in
    let done = c.carry_out in
    line-for-all rtu a.counters (site_of a.attributes.now a.profile a.own) a.words.now f a.reply.now tests whom c.heard.ensures
    (subst (λ (b : List ℕ). Is (to_all a.words.now a.reply.now (body.body_asks body.functions b) (body.answered (verdict a.profile a.attributes.now) a.words.now b)) done.result done.new.words a.reply.now) t.part_of-body.ensures (done.ensures a.reply.now))

pub returns-in-Other : goal.returns-in-Other
returns-in-Other c =
    let t = c in
    let a = t.args in
    let f = a.frame.now in
    let tests = right f (omega arith) (omega arith) (via t.right_crc.ensures t.if-not-right_crc.false) in
    let whom = ap (λ (t : ℕ). whom_at t a.own) (sym t.byte_at.ensures) ∙ sym t.whom.ensures ∙ c.in-Other.is in
    line_other rtu a.counters (site_of a.attributes.now a.profile a.own) a.words.now f a.reply.now tests _ refl whom c.heard-in-Other.ensures
