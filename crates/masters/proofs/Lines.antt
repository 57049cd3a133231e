-- A Modbus frame that neither 1 nor 2 stops: its shape, its check, whom it is for, its body. Assumes nothing.
use Prim.Native.Nat.{ℕ}
use mathlib.Core.Bool.{Bool, true, false}
use mathlib.Core.List.{List}
use mathlib.Core.Path.{◌≡◌, sym, ap, ◌∙◌}
use Rattle.rules.specs.Choice.{pick}
use Rattle.rules.proofs.Choose.{pick_yes, pick_no}
use Rattle.table_registers.specs.declared.Profile.{Profile}
use Rattle.table_cells.specs.declared.Touched.{Touched}
use Rattle.table_cells.specs.Touched.{cells_in, Touches}
use Rattle.station.specs.Site.{site_of}
use Rattle.station.specs.declared.Whom.{Whom}
use Rattle.modbus_counters.specs.Counters.{cleared}
use Rattle.modbus_body.specs.Body.{functions, body_asks}
use Rattle.modbus_line.specs.Framing.{Framing, whom_at, line_asks, modbus}
use Rattle.masters.specs.Frames.{asked_cells}
use Rattle.masters.specs.Asking.{own_cells, TouchesFor, heard_cells}
use Rattle.masters.proofs.Functions.{line-cells, any-own}

module _ (m : Framing) (us : List ℕ) (p : Profile) (own : ℕ) (frame : List ℕ) (t : Touched) where
  abbrev asked : ℕ → ℕ → Bool
  asked way c = asked_cells (site_of us p own) (whom_at (m.to frame) own) (line_asks cleared (m.body frame)) way c

  pub wrong-shape : m.shape frame ≡ false → ((way c : ℕ) → cells_in t way c ≡ false) → Touches t (heard_cells (modbus m cleared) (site_of us p own) frame)
  wrong-shape e none way c = none way c ∙ sym (pick_no (m.shape frame) (pick (m.check frame) (asked way c) false) false e)

  pub wrong-check : m.shape frame ≡ true → m.check frame ≡ false → ((way c : ℕ) → cells_in t way c ≡ false)
      → Touches t (heard_cells (modbus m cleared) (site_of us p own) frame)
  wrong-check e f none way c =
      none way c ∙ sym (pick_yes (m.shape frame) (pick (m.check frame) (asked way c) false) false e ∙ pick_no (m.check frame) (asked way c) false f)

  pub right-frame : (o : Touched) (b : List ℕ) (whom : Whom) → m.shape frame ≡ true → m.check frame ≡ true
      → Touches o (own_cells us p (body_asks functions b)) → b ≡ m.body frame → whom ≡ whom_at (m.to frame) own → TouchesFor whom o t
      → Touches t (heard_cells (modbus m cleared) (site_of us p own) frame)
  right-frame o b whom e f h same is for way c =
      for (site_of us p own) (line_asks cleared b) (λ w k. h w k ∙ line-cells us p b w k ∙ any-own us p own (line_asks cleared b) w k) way c
      ∙ ap (λ (l : List ℕ). asked_cells (site_of us p own) whom (line_asks cleared l) way c) same
      ∙ ap (λ (x : Whom). asked_cells (site_of us p own) x (line_asks cleared (m.body frame)) way c) is
      ∙ sym (pick_yes (m.shape frame) (pick (m.check frame) (asked way c) false) false e ∙ pick_yes (m.check frame) (asked way c) false f)
