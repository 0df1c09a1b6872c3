-- view: the whole value of a name, in which all names have their values too.
use Rattle.std.specs.Prelude.{◌≡◌, ℕ, zero, suc, ◌≤◌, List, [], ◌∷◌, ◌++◌, Option, Some, None}
use Rattle.std.specs.Prelude.{max, if◌then◌else◌}
use Rattle.std.specs.Str.{bytes_eq}
use Rattle.sl_preproc_directives.specs.Parts.{◌>>=◌}
use Rattle.sl_preproc_directives.specs.Definitions.{Values}
use Rattle.sl_preproc_directives.specs.Replacement.{Piece, Byte, Name, all_pieces}

abbrev pub piece_whole : (List ℕ → Option (List ℕ)) → Piece → Option (List ℕ)
piece_whole named (Byte b) = Some (b ∷ [])
piece_whole named (Name name) = named name

unfoldable pub whole_pieces : (List ℕ → Option (List ℕ)) → List Piece → Option (List ℕ)
whole_pieces named [] = Some []
whole_pieces named (piece ∷ others) = do
  front ← piece_whole named piece
  behind ← whole_pieces named others
  Some (front ++ behind)

-- what the name stands for, where so many levels are enough and each name in it is defined
unfoldable pub whole : ℕ → Values → List ℕ → Option (List ℕ)
whole zero defs name = None
whole (suc left) defs name = defs name >>= λ value. whole_pieces (whole left defs) (all_pieces value)

-- what is known of names: how many levels each takes, and its whole value
abbrev pub Wholes : Type 0
Wholes = List ℕ → Option (ℕ × List ℕ)

abbrev pub nothing_known : Wholes
nothing_known name = None

abbrev pub with_whole : List ℕ → ℕ × List ℕ → Wholes → Wholes
with_whole name w known other = if bytes_eq name other then Some w else known other

-- What is known is so.
abbrev pub AreWholes : Values → Wholes → Type 0
AreWholes defs known = (name : List ℕ) (w : ℕ × List ℕ) → known name ≡ Some w
    → whole w.0 defs name ≡ Some w.1

-- What a text stands for as a whole.
abbrev pub IsWholeText : Values → List ℕ → ℕ → List ℕ → Type 0
IsWholeText defs s levels bytes =
    (left : ℕ) → levels ≤ left → whole_pieces (whole left defs) (all_pieces s) ≡ Some bytes

-- ---- what a step of the replacement leaves

abbrev pub joined : Option ℕ → Option ℕ → Option ℕ
joined (Some levels) (Some more) = Some (max levels more)
joined (Some levels) None = None
joined None more = None

-- The text grew by the whole value of the name, which takes so many levels.
pub record IsWholeName (defs : Values) (left : ℕ) (name : List ℕ) (levels : ℕ) (old new : List ℕ) : Type 0 where
  pub bytes : List ℕ
  pub grown : new ≡ old ++ bytes
  pub within : levels ≤ left
  pub is : whole levels defs name ≡ Some bytes

-- The same of a text.
pub record IsWholeValue (defs : Values) (left : ℕ) (s : List ℕ) (levels : ℕ) (old new : List ℕ) : Type 0 where
  pub bytes : List ℕ
  pub grown : new ≡ old ++ bytes
  pub within : levels ≤ left
  pub is : IsWholeText defs s levels bytes
