-- meaning: the definitions in force: the value of each name that is defined.
use Rattle.std.specs.Prelude.{List, ℕ, Option, Some, None, if◌then◌else◌}
use Rattle.std.specs.Str.{bytes_eq}

abbrev pub Values : Type 0
Values = List ℕ → Option (List ℕ)

abbrev pub no_definitions : Values
no_definitions name = None

-- a later definition of a name replaces its value
abbrev pub with_value : List ℕ → List ℕ → Values → Values
with_value name value defs other = if bytes_eq name other then Some value else defs other

abbrev pub without : List ℕ → Values → Values
without name defs other = if bytes_eq name other then None else defs other
