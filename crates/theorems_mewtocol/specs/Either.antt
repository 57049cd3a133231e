-- One contact by either command: what a station makes of `RCS` and of an RCP with n of 1 (RULES P16). Proved in proofs/Either. Assumes nothing.
use Rattle.std.specs.Prelude.{ℕ, ◌+◌, ◌≡◌, List, [], ◌∷◌, true, get_or}
use Rattle.rules.specs.Characters.{digit0, letter_c, letter_p, letter_r, letter_s}
use Rattle.station.specs.Site.{Site}
use Rattle.station.specs.Station.{station}
use Rattle.mewtocol_frame.specs.Frame.{limits_in, good_shape, good_check, text_of}
use Rattle.mewtocol_station.specs.Station.{mewtocol}

-- `RCS` and some more; `RCP1` and the same
abbrev pub single : List ℕ → List ℕ
single t = letter_r ∷ letter_c ∷ letter_s ∷ t

abbrev pub counted_one : List ℕ → List ℕ
counted_one t = letter_r ∷ letter_c ∷ letter_p ∷ (digit0 + 1) ∷ t

-- two frames of one form, right in shape and alike but for these texts: the same station, the same mark, and checks that are both right or both wrong
pub record Alike (f g t : List ℕ) : Type 0 where
  pub form : limits_in f ≡ limits_in g
  pub shape-f : good_shape (limits_in f) 8 f ≡ true
  pub shape-g : good_shape (limits_in g) 8 g ≡ true
  pub station-tens : get_or f 1 0 ≡ get_or g 1 0
  pub station-ones : get_or f 2 0 ≡ get_or g 2 0
  pub mark : get_or f 3 0 ≡ get_or g 3 0
  pub check : good_check f ≡ good_check g
  pub text-f : text_of f ≡ single t
  pub text-g : text_of g ≡ counted_one t

-- any station, of any table, answers both alike and leaves the same words, whatever more there is
abbrev pub EitherCommand : Type 0
EitherCommand = (site : Site) (words room f g t : List ℕ) → Alike f g t
    → station mewtocol site words f room ≡ station mewtocol site words g room

-- ---- not empty

-- `%01#RCSR103015` CR and `%01#RCP1R103027` CR
abbrev pub by_rcs : List ℕ
by_rcs = 37 ∷ 48 ∷ 49 ∷ 35 ∷ 82 ∷ 67 ∷ 83 ∷ 82 ∷ 49 ∷ 48 ∷ 51 ∷ 48 ∷ 49 ∷ 53 ∷ 13 ∷ []

abbrev pub by_rcp : List ℕ
by_rcp = 37 ∷ 48 ∷ 49 ∷ 35 ∷ 82 ∷ 67 ∷ 80 ∷ 49 ∷ 82 ∷ 49 ∷ 48 ∷ 51 ∷ 48 ∷ 50 ∷ 55 ∷ 13 ∷ []

abbrev pub EitherExample : Type 0
EitherExample = Alike by_rcs by_rcp (82 ∷ 49 ∷ 48 ∷ 51 ∷ 48 ∷ [])
