-- What holds of exceptions 01 and 03 and of each row of the functions holds of whatever a body asks. Assumes nothing.
use mathlib.Core.Path.{◌≡◌}
use mathlib.Core.Bool.{true}
use mathlib.Core.List.{List, [], ◌∷◌}
use Prim.Native.Nat.{ℕ}
use lib.Dec.{eqb}
use Rattle.rules.proofs.Choose.{pick_all}
use Rattle.station.specs.Site.{Asked, wrong, asks}
use Rattle.modbus_body.specs.Body.{Function, function, reply_body, asks_by, body_asks}

-- a row that a body names and fits
abbrev pub Row : (Asked → Type 0) → List ℕ → Function → Type 0
Row P b f = eqb (function b) f.code ≡ true → f.fits b ≡ true → P (asks (f.operation b) (reply_body b (f.operation b)))

abbrev pub Rows : (Asked → Type 0) → List ℕ → List Function → Type 0
Rows P b [] = Unit {0}
Rows P b (f ∷ fs) = Row P b f × Rows P b fs

pub asked-all : (P : Asked → Type 0) (b : List ℕ) (fs : List Function) → P (wrong 1) → P (wrong 3) → Rows P b fs → P (body_asks fs b)
unfolding body_asks asks_by
asked-all P b [] one three rows = one
asked-all P b (f ∷ fs) one three rows =
    pick_all P (eqb (function b) f.code) _ _
    (λ is. pick_all P (f.fits b) _ _ (λ fits. rows.0 is fits) (λ _. three))
    (λ _. asked-all P b fs one three rows.1)
