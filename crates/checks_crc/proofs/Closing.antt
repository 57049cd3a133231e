-- A front followed by its CRC is right, and a frame is right where its last two bytes, as one word, are the CRC of its front. Assumes nothing.
use mathlib.Core.Bool.{Bool, true, false}
use mathlib.Core.List.{List, ◌++◌}
use mathlib.Core.Path.{◌≡◌, refl, sym, ◌∙◌}
use Prim.Native.Nat.{ℕ, ◌+◌, ◌*◌, ◌-◌, ◌/◌, ◌%◌, ◌≤◌, ◌<◌}
use native.Mathlib.Omega.{arith}
use borrow.Author.Tests.{eqb-true, eqb-false, ne_eqb, eq-eqb}
use lib.Dec.{eqb}
use lib.ListN.{length, take, get_or}
use Rattle.checks_shared.proofs.Closed.{closed-join, closed-no, closed-yes}
use Rattle.checks_crc.specs.Crc.{crc_of, crc_bytes, right_crc}

pub right-crc-of : (m : List ℕ) → right_crc (m ++ crc_bytes m) ≡ true
right-crc-of m = closed-join crc_bytes m refl

-- two bytes are those of a number where their word is the number
same_word : (a b x : ℕ) → a < 256 → b < 256 → a ≡ x % 256 → eqb b (x / 256) ≡ eqb (a + 256 * b) x
same_word a b x ha hb e = go (eqb b (x / 256)) refl
  where
    go : (t : Bool) → eqb b (x / 256) ≡ t → eqb b (x / 256) ≡ eqb (a + 256 * b) x
    go true h = h ∙ sym (eq-eqb (a + 256 * b) x (omega (arith, e, eqb-true b (x / 256) h)))
    go false h = h ∙ sym (ne_eqb (a + 256 * b) x (λ q. eqb-false b (x / 256) h (omega (arith, ha, hb, q))))

module _ (f : List ℕ) (l : 2 ≤ length f) (low : get_or f (length f - 2) 0 < 256) (high : get_or f (length f - 1) 0 < 256) where
  abbrev a : ℕ
  a = get_or f (length f - 2) 0

  abbrev b : ℕ
  b = get_or f (length f - 1) 0

  abbrev x : ℕ
  x = crc_of (take (length f - 2) f)

  pub right-crc-word : right_crc f ≡ eqb (a + 256 * b) x
  right-crc-word = go (eqb a (x % 256)) refl
    where
      go : (t : Bool) → eqb a (x % 256) ≡ t → right_crc f ≡ eqb (a + 256 * b) x
      go true h =
          let e = eqb-true a (x % 256) h in
          closed-yes crc_bytes f a (x % 256) (x / 256) l refl refl b e refl ∙ same_word a b x low high e
      go false h =
          closed-no crc_bytes f a (x % 256) (x / 256) l refl refl (eqb-false a (x % 256) h)
          ∙ sym (ne_eqb (a + 256 * b) x (λ q. eqb-false a (x % 256) h (omega (arith, low, q))))
