-- What a reader has heard, from one part of a record to the next. Assumes nothing.
use mathlib.Core.Bool.{Bool, true, false}
use Rattle.std.proofs.Common.{Ok, Err}
use mathlib.Core.List.{List, [], ◌∷◌, ◌++◌, append_assoc, append-nil}
use mathlib.Core.Path.{◌≡◌, refl, sym, ap, ◌∙◌, subst}
use Prim.Native.Nat.{ℕ, suc, ◌+◌, ◌-◌, ◌≤◌, ◌<◌, zero-le}
use native.Mathlib.Omega.{arith}
use lib.ListN.{length, take, length-append, length-take}
use lib.Seq.{take-length, length-take-le, take-take, take_at}
use Rattle.rules.specs.Choice.{between}
use Rattle.rules.proofs.Choose.{in-range}
use Rattle.text_rooms.specs.Room.{overwrite}
use Rattle.noise_report.specs.Records.{Pair, AllFine, length_at, size_at, pair_at, bad, after, at_most, limit, reading}
use Rattle.noise_report.specs.Numbers.{sum, numbers, report_of, outcome}
use Rattle.noise_report.specs.Heard.{Reader, Between, Part, short, begun, Goes, Heard, Within, UpTo}
use Rattle.noise_report.specs.declared.Report.{Report}
use Rattle.noise_report.specs.declared.Progress.{Progress}
use Rattle.noise_report.proofs.Reading.{after-after, after_none, after-bad, after-these, at-end, at-limit, at_part, part-open, length_more, at-wrong, at-whole, fine-at, fine_more}

abbrev pub progress : Report → ℕ → Progress
progress rep n = record { report = rep; have = n }

-- ---- nothing

pub heard-nothing : (room : List ℕ) → Heard [] (Ok (progress (numbers 0 0 0 0 0) 0)) room
unfolding sum AllFine
heard-nothing room = record {
  within = zero-le;
  records = [];
  report_is = refl;
  between = record { fine = tt; few = zero-le; next = λ t. sym (after_none (at_most limit t)) };
  begun_is = short (omega arith);
}

-- ---- a part of a record, of which it is told whether it goes on

outside : (n : ℕ) → (4 ≤ n → n ≤ 256 → ⊥) → between 4 256 n ≡ false
outside n out = by (between 4 256 n) refl
  where
    by : (t : Bool) → between 4 256 n ≡ t → t ≡ false
    by true e = let r = in-range 4 256 n e in absurd (out r.0 r.1)
    by false e = refl

module _ (s : List ℕ) (rs : List Pair) (q : List ℕ) (b : Between s rs q) where
  pub keeps : (rep : Report) → rep ≡ report_of rs → Part q → Goes s (progress rep (length q)) q
  keeps rep e p = record {
    within = omega arith;
    records = rs;
    report_is = e;
    between = subst (Between s rs) (sym (take-length q)) b;
    begun_is = subst Part (sym (take-length q)) p;
  }

  wrong : 2 ≤ length q → between 4 256 (length_at q) ≡ false → (t : List ℕ) → reading (s ++ t) ≡ bad
  wrong h e t = b.next t ∙ ap (after rs) (at-wrong (limit - length rs) q t h e) ∙ after-bad rs

  pub wrong-length : 2 ≤ length q → (4 ≤ length_at q → length_at q ≤ 256 → ⊥) → (t : List ℕ) → reading (s ++ t) ≡ bad
  wrong-length h out = wrong h (outside (length_at q) out)

  pub too_many : (rep : Report) → 2 ≤ length q → rep ≡ report_of rs → limit ≤ rep.pairs → (t : List ℕ) → reading (s ++ t) ≡ bad
  too_many rep h e l t =
      let all : rep.pairs ≡ length rs = ap (λ (r : Report). r.pairs) e in
      let none : limit - length rs ≡ 0 = omega arith in
      b.next t ∙ ap (λ (k : ℕ). after rs (at_most k (q ++ t))) none ∙ ap (after rs) (at-limit (q ++ t) (omega (arith, length-append q t))) ∙ after-bad rs

  pub counts : (rep : Report) → 4 ≤ length_at q → length_at q ≤ 256 → length q ≡ size_at q → length rs < limit → rep ≡ report_of (rs ++ (pair_at q ∷ []))
      → Goes s (progress rep 0) q
  counts rep lo hi l few e =
      let more : length (rs ++ (pair_at q ∷ [])) ≡ length rs + 1 = length-append rs (pair_at q ∷ []) in
      let left : limit - length rs ≡ suc (limit - length (rs ++ (pair_at q ∷ []))) = omega arith in
      record {
        within = zero-le;
        records = rs ++ (pair_at q ∷ []);
        report_is = e;
        between = record {
          fine = fine_more rs (pair_at q) b.fine (fine-at q lo hi (omega arith));
          few = omega arith;
          next = λ t.
              b.next t
              ∙ ap (λ (k : ℕ). after rs (at_most k (q ++ t))) left
              ∙ ap (after rs) (at-whole q t lo hi l (limit - length (rs ++ (pair_at q ∷ []))))
              ∙ after-after rs (pair_at q ∷ []) _;
        };
        begun_is = short (omega arith);
      }

-- ---- bytes come

pub stays-bad : (s part : List ℕ) → ((t : List ℕ) → reading (s ++ t) ≡ bad) → (t : List ℕ) → reading ((s ++ part) ++ t) ≡ bad
stays-bad s part b t = ap reading (append_assoc s part t) ∙ b (part ++ t)

pub part-fits : (s : List ℕ) (p : Progress) (room : List ℕ) (k : ℕ) → 514 ≤ length room → UpTo (take p.have room) k → Goes s p room → p.have + k ≤ length room
part-fits s p room k big up g = by g.begun_is
  where
    by : Part (take p.have room) → p.have + k ≤ length room
    by (short l) = omega (arith, g.within, length-take-le p.have room g.within, up.first l)
    by (begun l lo hi m) = omega (arith, g.within, length-take-le p.have room g.within, up.frames l m)

-- the front of a room in which a part was written
front : (room part : List ℕ) (n : ℕ) → n ≤ length room → take (n + length part) (overwrite room n part) ≡ take n room ++ part
unfolding overwrite
front room part n h =
    take_at (take n room ++ part) _ (n + length part) (length-append (take n room) part ∙ ap (λ (k : ℕ). k + length part) (length-take-le n room h))

between_more : (s : List ℕ) (rs : List Pair) (p part : List ℕ) → Between s rs p → Between (s ++ part) rs (p ++ part)
between_more s rs p part b = record {
  fine = b.fine;
  few = b.few;
  next = λ t.
      ap reading (append_assoc s part t)
      ∙ b.next (part ++ t)
      ∙ ap (λ (u : List ℕ). after rs (at_most (limit - length rs) u)) (sym (append_assoc p part t));
}

within_more : (p part : List ℕ) → Part p → UpTo p (length part) → Within (p ++ part)
within_more p part (short h) up l = absurd (omega (arith, length-append p part, up.first h))
within_more p part (begun h lo hi m) up l = omega (arith, length-append p part, up.frames h m, length_more p part h)

-- a reader over the front of a room is one over the room
wider : (s : List ℕ) (r : Reader) (k : ℕ) (room : List ℕ) → Heard s r (take k room) → Heard s r room
wider s (Err e) k room b = b
wider s (Ok p) k room g =
    let l = length-take k room in
    let same : take p.have (take k room) ≡ take p.have room = take-take p.have k room (omega (arith, g.within)) in record {
      within = omega (arith, g.within);
      records = g.records;
      report_is = g.report_is;
      between = subst (Between s g.records) same g.between;
      begun_is = subst Part same g.begun_is;
    }

module _ (s : List ℕ) (p : Progress) (room part : List ℕ) (room₁ q : List ℕ) (next : Reader)
    (up : UpTo (take p.have room) (length part))
    (written : room₁ ≡ overwrite room p.have part)
    (taken : q ≡ take (p.have + length part) room₁)
    (settled : (s₁ : List ℕ) (rs : List Pair) → p.report ≡ report_of rs → Between s₁ rs q → Within q → Heard s₁ next q) where
  pub goes_on : Goes s p room → Heard (s ++ part) next room₁
  goes_on g =
      let is : q ≡ take p.have room ++ part = taken ∙ ap (take (p.have + length part)) written ∙ front room part p.have g.within in
      wider (s ++ part) next (p.have + length part) room₁
      (subst (Heard (s ++ part) next) taken
      (settled (s ++ part) g.records g.report_is (subst (Between (s ++ part) g.records) (sym is) (between_more s g.records _ part g.between))
      (subst Within (sym is) (within_more _ part g.begun_is up))))

-- ---- the end

module _ (s : List ℕ) (room : List ℕ) where
  all_read : reading (s ++ []) ≡ reading s
  all_read = ap reading (append-nil s)

  pub ends-bad : ((t : List ℕ) → reading (s ++ t) ≡ bad) → Err (record {}) ≡ outcome (reading s)
  ends-bad b = ap outcome (sym (b []) ∙ all_read)

  pub ends-inside : (p : Progress) → (p.have ≡ 0 → ⊥) → Goes s p room → Err (record {}) ≡ outcome (reading s)
  ends-inside p z g =
      let rs = g.records in
      let t = take p.have room in
      let l : length t ≡ p.have = length-take-le p.have room g.within in
      let some : 0 < length t = omega arith in
      ap outcome
      (sym (g.between.next [] ∙ ap (λ (u : List ℕ). after rs (at_most (limit - length rs) u)) (append-nil t) ∙ ap (after rs) (at_part (limit - length rs) t some (part-open t g.begun_is)) ∙ after-bad rs)
      ∙ all_read)

  pub ends-whole : (p : Progress) → p.have ≡ 0 → Goes s p room → Ok p.report ≡ outcome (reading s)
  ends-whole p z g =
      let rs = g.records in
      ap Ok g.report_is
      ∙ ap outcome
      (sym (g.between.next [] ∙ ap (λ (n : ℕ). after rs (at_most (limit - length rs) (take n room ++ []))) z ∙ ap (after rs) (at-end (limit - length rs)) ∙ after-these rs)
      ∙ all_read)

-- ---- a piece, bit by bit

-- what is at most wanted
pub up-less : (p q : List ℕ) (k j : ℕ) → q ≡ p → UpTo q k → j ≤ k → UpTo p j
up-less p q k j e up l =
    let u : UpTo p k = subst (λ (x : List ℕ). UpTo x k) e up in
    record { first = λ h. omega (arith, u.first h); frames = λ h m. omega (arith, u.frames h m) }

-- a piece of which a front has been heard, a part of what is left, and the rest
module _ (front left part rest piece : List ℕ) (whole : front ++ left ≡ piece) (cut : left ≡ part ++ rest) where
  pub next-front : (front ++ part) ++ rest ≡ piece
  next-front = append_assoc front part rest ∙ ap (λ (x : List ℕ). front ++ x) (sym cut) ∙ whole

  pub bad-within : (s : List ℕ) → ((t : List ℕ) → reading (((s ++ front) ++ part) ++ t) ≡ bad) → (t : List ℕ) → reading ((s ++ piece) ++ t) ≡ bad
  bad-within s b t =
      let same : (s ++ piece) ++ t ≡ ((s ++ front) ++ part) ++ (rest ++ t) = rw (← whole, cut) (simp append_assoc) in
      ap reading same ∙ b (rest ++ t)
