-- meaning: the choice of the most specific constructor of a table (SLEIGH manual, "The Bit Pattern
-- Section").
use Rattle.std.specs.Prelude.{◌≡◌, ℕ, ◌^◌, ◌%◌, List, Option, Some, None}
use Rattle.sl_ast.specs.Trees.{Constructor}
use Rattle.sl_ast.specs.Unfolding.{Placed}
use Rattle.sl_cube.specs.declared.Point.{Point}
use Rattle.sl_decode_meaning.specs.Choices.{Choice}
use Rattle.sl_cube_sets.specs.Sets.{IsChoice, IsUnmatched}
use Rattle.sl_conflict.specs.Soundness.{has_in, numbers}
use Rattle.sl_spec.specs.declared.tables.Tables.{Tables}

-- the point with its 128 bits of input and 64 bits of context
abbrev pub in_range : Point → Point
in_range p = record { bytes = p.bytes % 2 ^ 128; context = p.context % 2 ^ 64 }

module _ (t : Tables) (cs : List (Placed Constructor)) where
  -- What a table chooses at a point: the one of its constructors that has the point and lies properly
  -- within each other one that has it; or none, where no constructor of the table has the point.
  abbrev pub Chooses : (table : ℕ) → Point → Option ℕ → Type 0
  Chooses table p None = IsUnmatched (has_in t cs table) (numbers t) p
  Chooses table p (Some ctor) = IsChoice (has_in t cs table) (numbers t) p ctor

  -- This is the choice of each table at each point.
  abbrev pub IsChoiceOf : Choice → Type 0
  IsChoiceOf choose = (table : ℕ) (p : Point) → Chooses table (in_range p) (choose table p)
