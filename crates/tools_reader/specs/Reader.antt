-- What becomes of a line's next byte in a room that holds the first bytes of the line. Assumes nothing.
use Rattle.std.specs.Prelude.{ℕ, ◌+◌, List, length, set, ltb}
use Rattle.rules.specs.Choice.{pick}

-- how many bytes of the line the room holds then
unfoldable pub counted : List ℕ → ℕ → ℕ
counted room used = pick (ltb used (length room)) (used + 1) used

-- what the room holds then: the byte behind those before, and nothing new where it is full
unfoldable pub kept : List ℕ → ℕ → ℕ → List ℕ
kept room used byte = pick (ltb used (length room)) (set room used byte) room
