-- step: sizes that are put at a number.
use Rattle.std.specs.Prelude.{ℕ, List, Option, Some, None, set}
use Rattle.sl_word.specs.declared.word.Size.{Size}

abbrev pub put_one : List (List Size) → Option ℕ → List Size → List (List Size)
put_one all None sizes = all
put_one all (Some i) sizes = set all i sizes
