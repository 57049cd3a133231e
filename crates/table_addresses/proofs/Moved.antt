-- Laws of a conversion: what it gives in its range, and 5 on either side. Assumes nothing.
use mathlib.Core.Path.{◌≡◌}
use Prim.Native.Nat.{ℕ, ◌+◌, ◌-◌, ◌≤◌, ◌<◌}
use native.Mathlib.Omega.{arith}
use borrow.Author.Tests.{le-leb, lt-leb, leb-true}
use lib.Dec.{leb}
use Rattle.rules.specs.Given.{gives, refused}
use Rattle.rules.proofs.Choose.{pick_all, pick_same}
use Rattle.table_addresses.specs.Catalogue.{moved}

pub moved-below : (lo n start x : ℕ) → x < lo → moved lo n start x ≡ refused 5
moved-below lo n start x h = rw (lt-leb lo x h)

pub moved-above : (lo n start x : ℕ) → lo + n - 1 < x → moved lo n start x ≡ refused 5
moved-above lo n start x h = rw (lt-leb x (lo + n - 1) h) (pick_same (leb lo x) (refused 5))

pub moved_in : (lo n start x y : ℕ) → lo ≤ x → x ≤ lo + n - 1 → y ≡ x - lo + start → moved lo n start x ≡ gives y
moved_in lo n start x y l h e = rw (le-leb lo x l, le-leb x (lo + n - 1) h, e)

-- what is given was in range
pub moved-gives : (lo n start x y : ℕ) → moved lo n start x ≡ gives y → (lo ≤ x) × (x ≤ lo + n - 1) × (y ≡ x - lo + start)
moved-gives lo n start x y =
    pick_all (λ g. g ≡ gives y → (lo ≤ x) × (x ≤ lo + n - 1) × (y ≡ x - lo + start)) (leb lo x) _ _
    (λ l. pick_all (λ g. g ≡ gives y → (lo ≤ x) × (x ≤ lo + n - 1) × (y ≡ x - lo + start)) (leb x (lo + n - 1)) _ _
    (λ h e. let w : y ≡ x - lo + start = cc in (leb-true lo x l, leb-true x (lo + n - 1) h, w))
    (λ _ e. let z : ◌≡◌ {A = ℕ} 0 1 = cc in absurd (omega arith)))
    (λ _ e. let z : ◌≡◌ {A = ℕ} 0 1 = cc in absurd (omega arith))

-- one way and then the other
pub moved_back : (lo n lo' x y : ℕ) → 0 < n → moved lo n lo' x ≡ gives y → moved lo' n lo y ≡ gives x
moved_back lo n lo' x y pos e =
    let r = moved-gives lo n lo' x y e in
    moved_in lo' n lo y x (omega arith) (omega arith) (omega arith)
