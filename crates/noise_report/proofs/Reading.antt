-- Laws of reading an input: at its end, at a whole record, at a part of one, at a length that can't be, at a record too many. Assumes nothing.
use mathlib.Core.Bool.{Bool, true, false}
use mathlib.Core.List.{List, [], ◌∷◌, ◌++◌, append_assoc, append-nil}
use mathlib.Core.Path.{◌≡◌, refl, sym, ap, ap₂, ◌∙◌}
use Prim.Native.Nat.{ℕ, zero, suc, ◌+◌, ◌*◌, ◌≤◌, ◌<◌}
use native.Mathlib.Omega.{arith}
use borrow.Author.Tests.{lt-leb, le-leb, ne_eqb}
use lib.Dec.{eqb, leb}
use lib.ListN.{length, take, drop, length-append, length-take, length-drop, get_or-append}
use lib.Seq.{take-append-le, drop-append-le, drop_at}
use Rattle.rules.specs.Choice.{both, between}
use Rattle.rules.proofs.Choose.{both_false, pick_yes, pick_no, is-between}
use Rattle.noise_report.specs.Records.{Pair, pair_of, Fine, AllFine, length_at, size_at, whole, pair_at, Input, these, bad, after, at_most}
use Rattle.noise_report.specs.Heard.{Part, short, begun}

pub after-after : (rs qs : List Pair) (i : Input) → after rs (after qs i) ≡ after (rs ++ qs) i
unfolding after
after-after rs qs (these xs) = ap these (sym (append_assoc rs qs xs))
after-after rs qs bad = refl

pub after_none : (i : Input) → after [] i ≡ i
unfolding after
after_none (these xs) = refl
after_none bad = refl

pub after-bad : (rs : List Pair) → after rs bad ≡ bad
unfolding after
after-bad rs = refl

pub after-these : (rs : List Pair) → after rs (these []) ≡ these rs
unfolding after
after-these rs = ap these (append-nil rs)

-- ---- where nothing is left

pub at-end : (n : ℕ) → at_most n [] ≡ these []
unfolding at_most
at-end zero = refl
at-end (suc n) = refl

pub some : (s : List ℕ) → 0 < length s → eqb (length s) 0 ≡ false
some s h = ne_eqb (length s) 0 (λ e. omega arith)

-- ---- a record too many

pub at-limit : (s : List ℕ) → 0 < length s → at_most 0 s ≡ bad
unfolding at_most
at-limit s h = pick_no (eqb (length s) 0) (these []) bad (some s h)

-- ---- no whole record

pub at_part : (n : ℕ) (s : List ℕ) → 0 < length s → whole s ≡ false → at_most n s ≡ bad
unfolding at_most
at_part zero s h w = at-limit s h
at_part (suc n) s h w = pick_no (eqb (length s) 0) _ _ (some s h) ∙ pick_no (whole s) _ _ w

pub part-open : (p : List ℕ) → Part p → whole p ≡ false
unfolding whole
part-open p (short h) = ap (λ (t : Bool). both t (both (between 4 256 (length_at p)) (leb (size_at p) (length p)))) (lt-leb 2 (length p) h)
part-open p (begun h lo hi l) =
    ap (λ (t : Bool). both (leb 2 (length p)) (both (between 4 256 (length_at p)) t)) (lt-leb (size_at p) (length p) l)
    ∙ ap (both (leb 2 (length p))) (both_false (between 4 256 (length_at p)))
    ∙ both_false (leb 2 (length p))

-- ---- with more behind it

pub length_more : (q t : List ℕ) → 2 ≤ length q → length_at (q ++ t) ≡ length_at q
length_more q t h =
    ap₂ (λ (a b : ℕ). 256 * a + b) (get_or-append q t 0 0 (omega arith)) (get_or-append q t 0 1 (omega arith))

-- a length that can't be
pub at-wrong : (n : ℕ) (q t : List ℕ) → 2 ≤ length q → between 4 256 (length_at q) ≡ false → at_most n (q ++ t) ≡ bad
unfolding whole
at-wrong n q t h e =
    at_part n (q ++ t) (omega (arith, length-append q t))
    (ap (λ (m : Bool). both (leb 2 (length (q ++ t))) (both m (leb (size_at (q ++ t)) (length (q ++ t))))) (ap (between 4 256) (length_more q t h) ∙ e)
    ∙ both_false (leb 2 (length (q ++ t))))

-- a record's frames are as long as its length says
pub fine-at : (q : List ℕ) → 4 ≤ length_at q → length_at q ≤ 256 → size_at q ≤ length q → Fine (pair_at q)
fine-at q lo hi l = record {
  least = rw (length-take, length-drop) (omega arith);
  most = rw (length-take, length-drop) (omega arith);
  alike = omega (arith, length-take (length_at q) (drop 2 q), length-drop 2 q, length-take (length_at q) (drop (2 + length_at q) q), length-drop (2 + length_at q) q);
}

-- a whole record
module _ (q t : List ℕ) (lo : 4 ≤ length_at q) (hi : length_at q ≤ 256) (l : length q ≡ size_at q) where
  same_length : length_at (q ++ t) ≡ length_at q
  same_length = length_more q t (omega arith)

  whole-more : whole (q ++ t) ≡ true
  unfolding whole
  whole-more =
      rw (
        le-leb 2 (length (q ++ t)) (omega (arith, length-append q t)),
        is-between 4 256 (length_at (q ++ t)) (omega (arith, same_length)) (omega (arith, same_length)),
        le-leb (size_at (q ++ t)) (length (q ++ t)) (omega (arith, same_length, length-append q t)),
      )

  pair-more : pair_at (q ++ t) ≡ pair_at q
  pair-more =
      let n = length_at q in
      ap (λ (m : ℕ). pair_of (take m (drop 2 (q ++ t))) (take m (drop (2 + m) (q ++ t)))) same_length
      ∙ ap₂ (λ (a b : List ℕ). pair_of (take n a) (take n b)) (drop-append-le 2 q t (omega arith)) (drop-append-le (2 + n) q t (omega arith))
      ∙ ap₂ pair_of (take-append-le n (drop 2 q) t (omega (arith, length-drop 2 q))) (take-append-le n (drop (2 + n) q) t (omega (arith, length-drop (2 + n) q)))

  pub at-whole : (n : ℕ) → at_most (suc n) (q ++ t) ≡ after (pair_at q ∷ []) (at_most n t)
  unfolding at_most
  at-whole n =
      pick_no (eqb (length (q ++ t)) 0) _ _ (some (q ++ t) (omega (arith, length-append q t)))
      ∙ pick_yes (whole (q ++ t)) _ _ whole-more
      ∙ ap₂ (λ (p : Pair) (s : List ℕ). after (p ∷ []) (at_most n s)) pair-more (drop_at q t (size_at (q ++ t)) (omega (arith, same_length)))

pub fine_more : (rs : List Pair) (p : Pair) → AllFine rs → Fine p → AllFine (rs ++ (p ∷ []))
unfolding AllFine
fine_more [] p a h = (h, tt)
fine_more (r ∷ rs) p a h = (a.0, fine_more rs p a.1 h)
