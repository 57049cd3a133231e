-- A MEWTOCOL request, by the numbers, lists and text that the code holds, touches what its operation does. Assumes nothing.
use Prim.Native.Nat.{ℕ, ◌≤◌}
use mathlib.Core.Bool.{Bool, true, false}
use mathlib.Core.List.{List, map}
use mathlib.Core.Path.{◌≡◌, sym, ap, ap₂, subst, ◌∙◌}
use native.Mathlib.Omega.{arith}
use lib.ListN.{length, take}
use Rattle.rules.proofs.Choose.{pick_yes, pick_no}
use Rattle.table_addresses.specs.Areas.{word_in, contact_cell}
use Rattle.table_addresses.specs.declared.Area.{Area}
use Rattle.table_addresses.specs.declared.Area.TheVariants.{Registers}
use Rattle.table_registers.specs.declared.Profile.{Profile}
use Rattle.table_registers.specs.Bits.{on_of}
use Rattle.table_registers.specs.Operation.{write_words, fill_words, words_of_text}
use Rattle.table_registers.specs.Profile.{verdict}
use Rattle.table_profiles.specs.declared.Data.TheVariants.{Text, Same}
use Rattle.table_profiles.specs.Runs.{run_taken}
use Rattle.table_cells.specs.declared.Touched.{Touched}
use Rattle.table_cells.specs.Touched.{cells_in, Touches, operation_cells, run_cells, bit_cells}
use Rattle.table_cells.proofs.Passing.{read-cells, read-bit-cells, write-bit-cells, text-cells, fill-cells}
use Rattle.station.specs.Site.{site_of}
use Rattle.station.specs.declared.Whom.{Whom}
use Rattle.mewtocol_frame.specs.declared.Limits.{Limits}
use Rattle.mewtocol_frame.specs.Frame.{limits_in, good_shape}
use Rattle.mewtocol_frame.specs.Text.{span}
use Rattle.mewtocol_requests.specs.declared.Request as code
use Rattle.mewtocol_requests.specs.declared.Request.TheVariants.{ReadContacts, WriteContacts}
use Rattle.mewtocol_requests.specs.Requests.{read_contacts, write_contacts, read_range}
use Rattle.mewtocol_requests.specs.Hearing.{read_frame}
use Rattle.mewtocol_requests.specs.Code.{paired, front, request_of}
use Rattle.mewtocol_requests.specs.Sound.{Sound}
use Rattle.mewtocol_station.specs.Replies.{operation_of}
use Rattle.mewtocol_station.specs.Station.{reading_asks, whom_in, mewtocol}
use Rattle.mewtocol_station.proofs.Operations.{front_length, front-take, paired-length, settings-are}
use Rattle.masters.specs.Frames.{asked_cells}
use Rattle.masters.specs.Asking.{own_cells, TouchesFor, heard_cells}
use Rattle.masters.proofs.Functions.{any-own, operation-as}

-- ---- the numbers of a request

-- what is known of the request in a way
pub sound-as : (l : Limits) (q q' : code.Request) (cs vs : List ℕ) (ws : ℕ → List ℕ) → q ≡ q' → Sound l (request_of q cs vs ws) → Sound l (request_of q' cs vs ws)
sound-as l q q' cs vs ws e s = subst (λ (x : code.Request). Sound l (request_of x cs vs ws)) e s

pub few-read : (l : Limits) (n : ℕ) (cs vs : List ℕ) (ws : ℕ → List ℕ) → Sound l (request_of (ReadContacts n) cs vs ws) → n ≤ 8
few-read l n cs vs ws s = omega (arith, s.ordered.most, front_length n cs)

pub few-written : (l : Limits) (n : ℕ) (cs vs : List ℕ) (ws : ℕ → List ℕ) → Sound l (request_of (WriteContacts n) cs vs ws) → n ≤ 8
few-written l n cs vs ws s = omega (arith, s.ordered.most, paired-length (front n cs) vs, front_length n cs)

-- the operation of the request in a way is that of the request
pub asked_in : {q q' : code.Request} (cs vs : List ℕ) (ws : ℕ → List ℕ) → q ≡ q' → operation_of (request_of q' cs vs ws) ≡ operation_of (request_of q cs vs ws)
asked_in cs vs ws e = ap (λ (x : code.Request). operation_of (request_of x cs vs ws)) (sym e)

-- ---- the operations

module _ (t : Touched) (us : List ℕ) (p : Profile) where
  pub brings-text : (area : Area) (k n first at : ℕ) (s : List ℕ) {taken : Bool} → Touches t (run_cells us area 2 first n taken) → first ≡ k → taken ≡ run_taken p Text at n s → at ≡ first
      → Touches t (operation_cells (verdict p us) (length us) (write_words area k (words_of_text n s)))
  brings-text area k n first at s h e f g way c =
      h way c ∙ ap₂ (λ (x : ℕ) (b : Bool). run_cells us area 2 x n b way c) e (f ∙ ap (λ (x : ℕ). run_taken p Text x n s) (g ∙ e)) ∙ sym (text-cells p us way c area k n s)

  pub fills-words : (k n w first at count : ℕ) (s : List ℕ) {taken : Bool} → Touches t (run_cells us Registers 2 first count taken) → first ≡ k → count ≡ n
      → taken ≡ run_taken p (Same w) at count s → at ≡ first → Touches t (operation_cells (verdict p us) (length us) (fill_words k n w))
  fills-words k n w first at count s h e f g i way c =
      h way c ∙ ap₂ (λ (x : ℕ) (b : Bool). run_cells us Registers 2 x count b way c) e (g ∙ ap (λ (x : ℕ). run_taken p (Same w) x count s) (i ∙ e))
      ∙ ap (λ (m : ℕ). run_cells us Registers 2 k m (run_taken p (Same w) k m s) way c) f ∙ sym (fill-cells p us way c k n w s)

  pub reads-contacts : (n : ℕ) (cs : List ℕ) → n ≤ length cs → Touches t (bit_cells us 1 (map contact_cell (take n cs)))
      → Touches t (operation_cells (verdict p us) (length us) (operation_of (read_contacts (front n cs))))
  unfolding operation_of
  reads-contacts n cs h touched way c =
      touched way c ∙ ap (λ (l : List ℕ). bit_cells us 1 (map contact_cell l) way c) (sym (front-take n cs h)) ∙ sym (read-bit-cells p us way c (map contact_cell (front n cs)))

  pub writes-contacts : (n : ℕ) (cs vs : List ℕ) → n ≤ length cs → n ≤ length vs → Touches t (bit_cells us 2 (map contact_cell (take n cs)))
      → Touches t (operation_cells (verdict p us) (length us) (operation_of (write_contacts (paired (front n cs) vs))))
  writes-contacts n cs vs h k touched =
      operation-as t us p (settings-are n cs vs h k)
      (λ way c. touched way c ∙ sym (write-bit-cells p us way c (map contact_cell (take n cs)) (map on_of (take n vs))))

  pub reads-range : (area : Area) (s e first count : ℕ) → Touches t (run_cells us area 1 first count true) → first ≡ word_in area s → count ≡ span s e
      → Touches t (operation_cells (verdict p us) (length us) (operation_of (read_range area s e)))
  unfolding operation_of
  reads-range area s e first count h f g way c =
      h way c ∙ ap₂ (λ (x y : ℕ). run_cells us area 1 x y true way c) f g ∙ sym (read-cells p us way c area (word_in area s) (span s e))

-- ---- a frame that neither 1 nor 2 stops

module _ (us : List ℕ) (p : Profile) (own : ℕ) (frame : List ℕ) (t : Touched) where
  abbrev asked : ℕ → ℕ → Bool
  asked way c = asked_cells (site_of us p own) (whom_in own frame) (reading_asks (read_frame (limits_in frame) frame)) way c

  pub wrong-frame : good_shape (limits_in frame) 8 frame ≡ false → ((way c : ℕ) → cells_in t way c ≡ false) → Touches t (heard_cells mewtocol (site_of us p own) frame)
  wrong-frame e none way c = none way c ∙ sym (pick_no (good_shape (limits_in frame) 8 frame) (asked way c) false e)

  pub frame-heard : (o : Touched) (l : Limits) (whom : Whom) → l ≡ limits_in frame → good_shape (limits_in frame) 8 frame ≡ true
      → Touches o (own_cells us p (reading_asks (read_frame l frame))) → whom ≡ whom_in own frame → TouchesFor whom o t → Touches t (heard_cells mewtocol (site_of us p own) frame)
  frame-heard o l whom same e h is for way c =
      for (site_of us p own) (reading_asks (read_frame l frame)) (λ w k. h w k ∙ any-own us p own (reading_asks (read_frame l frame)) w k) way c
      ∙ ap₂ (λ (x : Whom) (y : Limits). asked_cells (site_of us p own) x (reading_asks (read_frame y frame)) way c) is same
      ∙ sym (pick_yes (good_shape (limits_in frame) 8 frame) (asked way c) false e)
