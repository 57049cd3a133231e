-- `noise_report::settle` meets its contract: each way out is one law of Hearing. Assumes nothing.
use mathlib.Core.List.{List, [], ◌∷◌, ◌++◌}
use mathlib.Core.Path.{◌≡◌, sym, ap, ap₂, ◌∙◌, subst}
use Prim.Native.Nat.{ℕ, ◌+◌, ◌≤◌, ◌<◌}
use native.Mathlib.Omega.{arith}
use lib.ListN.{length, take, drop}
use Rattle.noise_report.specs.Records.{Pair, pair_of, Fine, length_at, size_at, pair_at, limit}
use Rattle.noise_report.specs.Numbers.{report_of}
use Rattle.noise_report.specs.Heard.{short, begun}
use Rattle.noise_report.specs.declared.Report.{Report}
use Rattle.noise_report.proofs.Reading.{fine-at}
use Rattle.noise_report.proofs.Hearing.{keeps, wrong-length, too_many, counts}
use Rattle.noise_report.proofs.settle.Goals as goal

-- the two parts are the pair
parts : (q a b : List ℕ) (n : ℕ) → n ≡ length_at q → a ≡ take n (drop 2 q) → b ≡ take n (drop (2 + n) q) → pair_of a b ≡ pair_at q
parts q a b n e ea eb = ap₂ pair_of ea eb ∙ ap (λ (m : ℕ). pair_of (take m (drop 2 q)) (take m (drop (2 + m) q))) e

pub returns-then-have-lt2 : goal.returns-then-have-lt2
returns-then-have-lt2 c s rs e b w = keeps s rs _ b _ e (short c.if-have-lt2.true)

pub returns-then-n-lt-LEAST : goal.returns-then-n-lt-LEAST
returns-then-n-lt-LEAST c s rs e b w = wrong-length s rs _ b (omega arith) (λ lo hi. omega arith)

pub returns-then-have-n : goal.returns-then-have-n
returns-then-have-n c s rs e b w = keeps s rs _ b _ e (begun (omega arith) (omega arith) (omega arith) (omega arith))

pub returns-then-report-ge-LIMIT : goal.returns-then-report-ge-LIMIT
returns-then-report-ge-LIMIT c s rs e b w = too_many s rs _ b _ (omega arith) e (omega arith)

pub returns : goal.returns
returns c s rs e b w =
    let q = c.args.part.now in
    let lo : 4 ≤ length_at q = omega arith in
    let hi : length_at q ≤ 256 = omega arith in
    let l : length q ≡ size_at q = omega (arith, w (omega arith)) in
    let all : c.args.report.pairs ≡ length rs = ap (λ (r : Report). r.pairs) e in
    let few : length rs < limit = omega arith in
    let p = parts q _ _ _ c.length_at-n.ensures.value c.part_of.ensures c.part_of-2.ensures in
    counts s rs q b _ lo hi l few
    (c.step-more.ensures rs b.fine few e (subst Fine (sym p) (fine-at q lo hi (omega arith)))
    ∙ ap (λ (x : Pair). report_of (rs ++ (x ∷ []))) p)
