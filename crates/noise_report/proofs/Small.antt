-- The numbers of fewer than 1,000,000 records are small: a record adds at most one to each, and at most 2,048 flipped bits. Assumes nothing.
use mathlib.Core.Bool.{Bool, true, false}
use mathlib.Core.List.{List, [], ◌∷◌}
use Prim.Native.Nat.{ℕ, zero, suc, ◌*◌, ◌≤◌, ◌<◌, zero-le}
use native.Mathlib.Omega.{arith}
use lib.Bits.{differ}
use lib.ListN.{length}
use Rattle.rules.specs.Choice.{pick}
use Rattle.checks_shared.specs.Line.{bit_at, total, flipped}
use Rattle.checks_shared.proofs.Xor.{differ-lt}
use Rattle.checks_shared.proofs.Bits.{bit-lt}
use Rattle.checks_crc.specs.Crc.{right_crc}
use Rattle.noise_report.specs.Records.{Pair, Fine, AllFine, limit}
use Rattle.noise_report.specs.Numbers.{sum, one, is_faulty, is_refused, is_missed, flips, report_of, Small}

total-le : (n : ℕ) (g : ℕ → ℕ) → ((k : ℕ) → g k < 2) → total n g ≤ n
unfolding total
total-le zero g h = zero-le
total-le (suc n) g h = omega (arith, h 0, total-le n (λ k. g (suc k)) (λ k. h (suc k)))

pub flipped_le : (f g : List ℕ) → flipped f g ≤ 8 * length f
unfolding flipped
flipped_le f g = total-le (8 * length f) (λ k. differ (bit_at f k) (bit_at g k)) (λ k. differ-lt _ _ (bit-lt f k) (bit-lt g k))

one-le : (t : Bool) → one t ≤ 2048
one-le true = omega arith
one-le false = omega arith

flips-le : (p : Pair) → Fine p → flips p ≤ 2048
flips-le p h = go (right_crc p.sent)
  where
    go : (t : Bool) → pick t (flipped p.sent p.received) 0 ≤ 2048
    go true = omega (arith, flipped_le p.sent p.received, h.most)
    go false = zero-le

sum-le : (f : Pair → ℕ) → ((p : Pair) → Fine p → f p ≤ 2048) → (rs : List Pair) → AllFine rs → sum f rs ≤ 2048 * length rs
unfolding sum AllFine
sum-le f h [] a = zero-le
sum-le f h (p ∷ rs) a = omega (arith, h p a.0, sum-le f h rs a.1)

pub report-small : (rs : List Pair) → AllFine rs → length rs ≤ limit → Small (report_of rs)
report-small rs a l = record {
  pairs = omega arith;
  faulty = omega (arith, sum-le (λ p. one (is_faulty p)) (λ p _. one-le (is_faulty p)) rs a);
  flipped = omega (arith, sum-le flips flips-le rs a);
  refused = omega (arith, sum-le (λ p. one (is_refused p)) (λ p _. one-le (is_refused p)) rs a);
  missed = omega (arith, sum-le (λ p. one (is_missed p)) (λ p _. one-le (is_missed p)) rs a);
}
