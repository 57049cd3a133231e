-- Coil numbers outside the coils have no address. Assumes nothing.
use mathlib.Core.Path.{◌≡◌}
use Prim.Native.Nat.{ℕ, ◌<◌}
use Rattle.rules.specs.Given.{refused}
use Rattle.table_addresses.specs.Catalogue.{coil_address}
use Rattle.table_addresses.proofs.Moved.{moved-below, moved-above}

pub below_the_coils : (n : ℕ) → n < 161 → coil_address n ≡ refused 5
unfolding coil_address
below_the_coils n h = moved-below 161 96 160 n h

pub above_the_coils : (n : ℕ) → 256 < n → coil_address n ≡ refused 5
unfolding coil_address
above_the_coils n h = moved-above 161 96 160 n h
