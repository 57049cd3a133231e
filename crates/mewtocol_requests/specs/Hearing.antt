-- What a frame of a right shape asks (RULES M4, M5). Assumes nothing.
use Rattle.std.specs.Prelude.{ℕ, List, [], ◌∷◌, get_or, eqb}
use Rattle.rules.specs.Tests.{◌unless◌, first}
use Rattle.rules.specs.Characters.{hash}
use Rattle.mewtocol_frame.specs.Frame.{good_check, text_of}
use Rattle.mewtocol_frame.specs.declared.Limits.{Limits}
use Rattle.mewtocol_requests.specs.Reading.{Reading, faulty, read_text}

-- the check, 40; `#`, 41; then the text
unfoldable pub read_frame : Limits → List ℕ → Reading
read_frame l f = first faulty ((0x40 unless good_check f) ∷ (0x41 unless eqb (get_or f 3 0) hash) ∷ []) (read_text l (text_of f))
