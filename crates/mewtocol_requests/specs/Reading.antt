-- What a text asks: the name, and steps 1 to 7 in their order (RULES M6, M10 to M17). Assumes nothing.
use Rattle.std.specs.Prelude.{ℕ, List, length, drop}
use Rattle.rules.specs.Tests.{first}
use Rattle.mewtocol_frame.specs.declared.Limits.{Limits}
use Rattle.mewtocol_commands.specs.declared.Named.{Named}
use Rattle.mewtocol_commands.specs.declared.Named.TheVariants.{Is, Unknown}
use Rattle.mewtocol_commands.specs.declared.Kind.{Kind}
use Rattle.mewtocol_commands.specs.Rows.{numbers}
use Rattle.mewtocol_steps.specs.Steps.{count_in, after_count, all_fields, count_tests, field_tests}
use Rattle.mewtocol_commands.specs.Commands.{entry, commands, named, layout}
use Rattle.mewtocol_requests.specs.Requests.{Request, makes}

-- an error's number, or a request
pub data Reading : Type 0 where
  faulty : ℕ → Reading
  request : Request → Reading

-- the text after n, and the text after a command's name
unfoldable pub read_fields : Limits → Kind → ℕ → List ℕ → Reading
read_fields l k n t = first faulty (field_tests l k n t) (request (makes k (numbers (all_fields (layout k) n t) t)))

unfoldable pub read_as : Limits → Kind → List ℕ → Reading
read_as l k t = first faulty (count_tests (layout k) t) (read_fields l k (count_in (layout k) t) (after_count (layout k) t))

-- a text that begins with a command's name; 42 where it begins with none
abbrev pub read_named : Limits → Named → List ℕ → Reading
read_named l (Is c) b = read_as l (entry c).kind (drop (length (entry c).name) b)
read_named l Unknown b = faulty 0x42

-- all that stands between `#` and the check
unfoldable pub read_text : Limits → List ℕ → Reading
read_text l b = read_named l (named commands b) b
