-- Two masters by example: side by side in one word, meeting, and refused (RULES T7); proved in proofs/Examples. Assumes nothing.
use Rattle.std.specs.Prelude.{ℕ, true, false, List, [], ◌∷◌, ◌≡◌, length, replicate}
use Rattle.table_registers.specs.declared.Profile.{Profile}
use Rattle.table_registers.specs.declared.Profile.TheVariants.{Free, HlG2}
use Rattle.table_registers.specs.Bits.{word_of}
use Rattle.table_cells.specs.Cells.{reading, writing, meeting}
use Rattle.table_cells.specs.declared.Meeting.TheVariants.{At}
use Rattle.masters.specs.declared.Line.{Line}
use Rattle.masters.specs.declared.Line.TheVariants.{Mewtocol, Rtu}
use Rattle.theorems_masters.specs.Masters.{Words, Master, cells_of, calls, SameEitherWay}

abbrev pub master_at : Line → ℕ → List ℕ → List ℕ → Master
master_at line own frame room = record { line = line; own = own; frame = frame; room = room }

-- n words that may be read and written
abbrev pub all_open : ℕ → List ℕ
all_open n = replicate n 3

-- ---- side by side

-- `%01#WCSR1030121`, CR: contact R1030 is set, bit 0 of word 133
abbrev pub contact_frame : List ℕ
contact_frame = 37 ∷ 48 ∷ 49 ∷ 35 ∷ 87 ∷ 67 ∷ 83 ∷ 82 ∷ 49 ∷ 48 ∷ 51 ∷ 48 ∷ 49 ∷ 50 ∷ 49 ∷ 13 ∷ []

-- `%02#WCSR1031123`, CR: contact R1031 is set, bit 1 of the same word
abbrev pub neighbour_frame : List ℕ
neighbour_frame = 37 ∷ 48 ∷ 50 ∷ 35 ∷ 87 ∷ 67 ∷ 83 ∷ 82 ∷ 49 ∷ 48 ∷ 51 ∷ 49 ∷ 49 ∷ 50 ∷ 51 ∷ 13 ∷ []

-- 05: coil 209 is set, which is that bit, too
abbrev pub coil_frame : List ℕ
coil_frame = 0x01 ∷ 0x05 ∷ 0x00 ∷ 0xD1 ∷ 0xFF ∷ 0x00 ∷ 0xDC ∷ 0x03 ∷ []

-- each writes a cell of one word, and whatever the words hold their order is free
pub record SideBySide (attributes : List ℕ) (one other : Master) (c d : ℕ) : Type 0 where
  pub one_writes : (p : Profile) → cells_of attributes p one writing c ≡ true
  pub other-writes : (p : Profile) → cells_of attributes p other writing d ≡ true
  pub one_word : word_of c ≡ word_of d
  pub free : (p : Profile) (words : List ℕ) → Words words → SameEitherWay (calls attributes p one) (calls attributes p other) words

abbrev pub TwoContacts : Type 0
TwoContacts = (room room' : List ℕ) → SideBySide (all_open 136) (master_at Mewtocol 1 contact_frame room) (master_at Mewtocol 2 neighbour_frame room') 2128 2129

abbrev pub CoilBesideContact : Type 0
CoilBesideContact = (room room' : List ℕ) → SideBySide (all_open 136) (master_at Mewtocol 1 contact_frame room) (master_at Rtu 1 coil_frame room') 2128 2129

-- ---- meeting

-- 03: word 1 is read
abbrev pub read_frame : List ℕ
read_frame = 0x01 ∷ 0x03 ∷ 0x00 ∷ 0x01 ∷ 0x00 ∷ 0x01 ∷ 0xD5 ∷ 0xCA ∷ []

-- 06: word 1 gets 7
abbrev pub write_frame : List ℕ
write_frame = 0x01 ∷ 0x06 ∷ 0x00 ∷ 0x01 ∷ 0x00 ∷ 0x07 ∷ 0x99 ∷ 0xC8 ∷ []

-- 10: one word from word 1 on, 5
abbrev pub run_frame : List ℕ
run_frame = 0x01 ∷ 0x10 ∷ 0x00 ∷ 0x01 ∷ 0x00 ∷ 0x01 ∷ 0x02 ∷ 0x00 ∷ 0x05 ∷ 0x67 ∷ 0x82 ∷ []

-- 16: the lowest four bits of word 1 get 3
abbrev pub mask_frame : List ℕ
mask_frame = 0x01 ∷ 0x16 ∷ 0x00 ∷ 0x01 ∷ 0xFF ∷ 0xF0 ∷ 0x00 ∷ 0x03 ∷ 0xBB ∷ 0xE0 ∷ []

-- 16: the lowest two bits of word 1 get 0
abbrev pub clear_frame : List ℕ
clear_frame = 0x01 ∷ 0x16 ∷ 0x00 ∷ 0x01 ∷ 0xFF ∷ 0xFC ∷ 0x00 ∷ 0x00 ∷ 0x3B ∷ 0xE2 ∷ []

-- an RTU master at station 1, with as little room as will do
abbrev pub rtu_master : List ℕ → Master
rtu_master frame = master_at Rtu 1 frame (replicate 513 0)

-- they meet, at this cell first, and over some words their order is not free
pub record OrderMatters (attributes : List ℕ) (one other : Master) (c : ℕ) : Type 0 where
  pub meet : meeting (length attributes) (cells_of attributes Free one) (cells_of attributes Free other) ≡ At c
  pub over : List ℕ
  pub words : Words over
  pub differs : SameEitherWay (calls attributes Free one) (calls attributes Free other) over → ⊥

-- a read beside a write: the reply
abbrev pub ReadAndWrite : Type 0
ReadAndWrite = OrderMatters (all_open 4) (rtu_master read_frame) (rtu_master write_frame) 16

-- two writes, and two masks: the words
abbrev pub TwoWrites : Type 0
TwoWrites = OrderMatters (all_open 4) (rtu_master write_frame) (rtu_master run_frame) 16

abbrev pub TwoMasks : Type 0
TwoMasks = OrderMatters (all_open 4) (rtu_master mask_frame) (rtu_master clear_frame) 16

-- a mask write reads its word, the first cell and the last, and neither the one before nor the one after
abbrev pub MaskReads : Type 0
MaskReads =
    let reads = cells_of (all_open 4) Free (rtu_master mask_frame) reading in
    (reads 15 ≡ false) × (reads 16 ≡ true) × (reads 31 ≡ true) × (reads 32 ≡ false)

-- ---- refused

abbrev pub TouchesNothing : List ℕ → Profile → Master → Type 0
TouchesNothing attributes p m = (way c : ℕ) → cells_of attributes p m way c ≡ false

-- a write of words that may only be read
abbrev pub ReadOnly : Type 0
ReadOnly = (p : Profile) → TouchesNothing (replicate 4 1) p (rtu_master write_frame)

-- 06: word 53 gets 1
abbrev pub limit_frame : List ℕ
limit_frame = 0x01 ∷ 0x06 ∷ 0x00 ∷ 0x35 ∷ 0x00 ∷ 0x01 ∷ 0x58 ∷ 0x04 ∷ []

-- which the HL-G2 doesn't take, whatever the words hold; without a profile it is a write as any other
abbrev pub OutOfRange : Type 0
OutOfRange = TouchesNothing (all_open 54) HlG2 (rtu_master limit_frame) × (cells_of (all_open 54) Free (rtu_master limit_frame) writing 848 ≡ true)
