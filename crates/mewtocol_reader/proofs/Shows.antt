-- A frame that shows data: its shape is right, and the data stands between its six first characters and its three last. Assumes nothing.
use mathlib.Core.Path.{◌≡◌, sym, ap, subst, ◌∙◌}
use mathlib.Core.List.{List}
use mathlib.Core.Bool.{true}
use Prim.Native.Nat.{ℕ, ◌+◌, ◌-◌, ◌≤◌}
use native.Mathlib.Omega.{arith}
use lib.Dec.{eqb}
use lib.ListN.{length, take, drop, get_or, length-take, length-drop}
use lib.Seq.{take-add, drop_at, drop-drop}
use Rattle.rules.specs.Choice.{between}
use Rattle.rules.specs.Characters.{bang, dollar}
use Rattle.rules.proofs.Choose.{pick_all, both_left, in-range}
use Rattle.text_digits.specs.Digits.{or_place}
use Rattle.text_digits.specs.declared.Number.{Number}
use Rattle.text_digits.specs.declared.Number.TheVariants.{Value, NoDigitAt}
use Rattle.text_hex.specs.Hex.{hex}
use Rattle.mewtocol_frame.specs.Frame.{limits_in, good_shape, good_check, for_station, text_of}
use Rattle.mewtocol_frame.specs.Text.{starts}
use Rattle.mewtocol_frame.specs.declared.Limits.{Limits}
use Rattle.mewtocol_requests.specs.Requests.{Request, letters}
use Rattle.mewtocol_asking.specs.Asking.{Asking, request_in, can_ask}
use Rattle.mewtocol_asking.proofs.Tests.{tests-are}
use Rattle.mewtocol_reader.specs.Replies.{Read, refused, error, unasked, shows, data_size, first_wrong, error_in, data_in, reply_in, form_reply, read_frame, read, data_of}

-- where data is shown it is that of the frame
abbrev Holds : List ℕ → List ℕ → Read → Type 0
Holds f t r = r ≡ shows t → t ≡ data_of f

holds-none : (f t : List ℕ) (k : ℕ) → Holds f t (refused k)
holds-none f t k e = let z : ◌≡◌ {A = ℕ} 0 1 = cc in absurd (omega arith)

holds-unasked : (f t : List ℕ) (p : ℕ) → Holds f t (unasked p)
holds-unasked f t p e = let z : ◌≡◌ {A = ℕ} 0 1 = cc in absurd (omega arith)

holds-error : (f t : List ℕ) (m : Number) → Holds f t (or_place m error (λ p. unasked (4 + p)))
holds-error f t (Value v) e = let z : ◌≡◌ {A = ℕ} 0 1 = cc in absurd (omega arith)
holds-error f t (NoDigitAt p) e = holds-unasked f t (4 + p) e

holds-in : (q : Request) (f t : List ℕ) → Holds f t (reply_in q (length f) (get_or f 3 0) (text_of f))
unfolding reply_in error_in data_in
holds-in q f t =
    let x = text_of f in
    pick_all (Holds f t) (eqb (get_or f 3 0) bang) _ _
    (λ _. pick_all (Holds f t) (eqb (length x) 2) _ _ (λ _. holds-error f t (hex 2 x)) (λ _. holds-unasked f t (length f)))
    (λ _. pick_all (Holds f t) (eqb (get_or f 3 0) dollar) _ _
    (λ _. pick_all (Holds f t) (starts (letters q) x) _ _
    (λ _. pick_all (Holds f t) (eqb (length (drop 2 x)) (data_size q)) _ _
    (λ _. pick_all (Holds f t) (eqb (first_wrong q (drop 2 x)) (length (drop 2 x))) _ _ (λ _ e. cc) (λ _. holds-unasked f t _))
    (λ _. holds-unasked f t (length f)))
    (λ _. holds-unasked f t (length f)))
    (λ _. holds-unasked f t (length f)))

holds-form : (l : Limits) (q : Request) (f t : List ℕ) → Holds f t (form_reply l q f)
unfolding form_reply
holds-form l q f t = pick_all (Holds f t) (eqb (get_or f 0 0) l.header) _ _ (λ _. holds-in q f t) (λ _. holds-unasked f t (length f))

module _ (l : Limits) (from : ℕ) (a : Asking) (f t : List ℕ) where
  abbrev Shown : Read → Type 0
  Shown r = r ≡ shows t → (good_shape (limits_in f) 9 f ≡ true) × (t ≡ data_of f)

  shown-none : (k : ℕ) → Shown (refused k)
  shown-none k e = let z : ◌≡◌ {A = ℕ} 0 1 = cc in absurd (omega arith)

  shown-frame : Shown (read_frame l from (request_in a) f)
  unfolding read_frame
  shown-frame =
      pick_all Shown (good_shape (limits_in f) 9 f) _ _
      (λ s. pick_all Shown (good_check f) _ _
      (λ _. pick_all Shown (for_station from f) _ _ (λ _ e. (s, holds-form l (request_in a) f t e)) (λ _. shown-none 12))
      (λ _. shown-none 11))
      (λ _. shown-none 10)

  pub shown : Shown (read l from a f)
  unfolding read
  shown =
      pick_all Shown (between 1 99 from) _ _
      (λ _. subst Shown (sym (tests-are l a refused (read_frame l from (request_in a) f))) (pick_all Shown (can_ask l a) _ _ (λ _. shown-frame) (λ _. shown-none 14)))
      (λ _. shown-none 2)

  pub shown-long : read l from a f ≡ shows t → 9 ≤ length f
  unfolding good_shape
  shown-long e = (in-range 9 _ (length f) (both_left _ _ (shown e).0)).0

-- what is left of a part after its first two is a part
drop-part : (n : ℕ) (l : List ℕ) → 2 ≤ length l → drop 2 (take (2 + n) l) ≡ take n (drop 2 l)
drop-part n l h =
    ap (drop 2) (take-add 2 n l) ∙ drop_at (take 2 l) (take n (drop 2 l)) 2 (omega (arith, h, length-take 2 l))

-- the data is all from the seventh character on but the last three
pub data-at : (f : List ℕ) → 9 ≤ length f → data_of f ≡ take (length f - 9) (drop 6 f)
data-at f h =
    let n : length f - 7 ≡ 2 + (length f - 9) = omega arith in
    ap (λ (k : ℕ). drop 2 (take k (drop 4 f))) n
    ∙ drop-part (length f - 9) (drop 4 f) (omega (arith, h, length-drop 4 f))
    ∙ ap (take (length f - 9)) (drop-drop 2 4 f)

-- the text of a frame of a right shape is all but four characters before it and three behind it
pub text-short : (l : Limits) (f : List ℕ) → good_shape l 9 f ≡ true → length (text_of f) + 7 ≤ length f
unfolding good_shape
text-short l f s =
    omega (arith, (in-range 9 _ (length f) (both_left _ _ s)).0, length-take (length f - 7) (drop 4 f), length-drop 4 f)
