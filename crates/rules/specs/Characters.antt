-- The characters that the formats name. Assumes nothing.
use Rattle.std.specs.Prelude.{ℕ}

abbrev pub LF : ℕ
LF = 10

abbrev pub CR : ℕ
CR = 13

-- `!`
abbrev pub bang : ℕ
bang = 33

-- `#`
abbrev pub hash : ℕ
hash = 35

-- `$`
abbrev pub dollar : ℕ
dollar = 36

-- `%`
abbrev pub percent : ℕ
percent = 37

-- `.`
abbrev pub period : ℕ
period = 46

-- `/`
abbrev pub slash : ℕ
slash = 47

-- `0`
abbrev pub digit0 : ℕ
digit0 = 48

-- `:`
abbrev pub colon : ℕ
colon = 58

abbrev pub letter_c : ℕ
letter_c = 67

abbrev pub letter_d : ℕ
letter_d = 68

abbrev pub letter_f : ℕ
letter_f = 70

abbrev pub letter_p : ℕ
letter_p = 80

abbrev pub letter_r : ℕ
letter_r = 82

abbrev pub letter_s : ℕ
letter_s = 83

abbrev pub letter_w : ℕ
letter_w = 87
