-- view: shapes as the program keeps them, with lists by their numbers.
use Rattle.std.specs.Prelude.{◌≡◌, ℕ, ◌<◌, List, [], ◌++◌, Option, Some, None, length, get_or, nat_lt, if◌then◌else◌}
use Rattle.sl_shape_tokens.specs.Shapes as spec
use Rattle.sl_shape_tokens.specs.declared.shapes.Shape.{Shape}
use Rattle.sl_shape_tokens.specs.declared.nodes.TokenList.{TokenList}

-- the list of a number among all lists
abbrev pub list_at : List (List ℕ) → Option ℕ → List ℕ
list_at lists None = []
list_at lists (Some i) = get_or lists i []

abbrev pub list_of : List (List ℕ) → TokenList → List ℕ
list_of lists l = list_at lists l.0

-- There is a list of this number.
abbrev pub IsAmong : List (List ℕ) → Option ℕ → Type 0
IsAmong lists None = Unit {0}
IsAmong lists (Some i) = i < length lists

-- a number below the limit
abbrev pub limited : ℕ → Option ℕ → Option ℕ
limited limit None = None
limited limit (Some i) = if nat_lt i limit then Some i else None

abbrev pub IsThere : List (List ℕ) → Shape → Type 0
IsThere lists s = IsAmong lists s.tokens.0

-- Lists may be added, and stay.
pub record Keeps (old new : List (List ℕ)) : Type 0 where
  pub more : List (List ℕ)
  pub is : new ≡ old ++ more

-- a shape with its list
abbrev pub seen : List (List ℕ) → Shape → spec.Shape
seen lists s = record { kind = s.kind; tokens = list_of lists s.tokens }
