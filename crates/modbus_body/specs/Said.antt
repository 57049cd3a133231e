-- What the code says of a write, its reply apart from its doing. Assumes nothing.
use Rattle.std.specs.Prelude.{ℕ, List, take, Result, Ok, Err}
use Rattle.station.specs.Site.{Says, good, error, Done}
use Rattle.modbus_body.specs.declared.Exception.{Exception}
use Rattle.modbus_body.specs.declared.Exception.TheVariants.{Function, Address, Value}

-- the byte that tells an exception
abbrev pub number_of : Exception → ℕ
number_of Function = 1
number_of Address = 2
number_of Value = 3

-- a good reply repeats the first n bytes of the request
abbrev pub says_of : List ℕ → Result ℕ Exception → Says
says_of body (Ok n) = good (take n body)
says_of body (Err e) = error (number_of e)

abbrev pub left : List ℕ → Result ℕ Exception → List ℕ → Done
left body r words = record { says = says_of body r; words = words }
