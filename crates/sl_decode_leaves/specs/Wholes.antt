-- view: what is made of patterns.
use Rattle.std.specs.Prelude.{◌≡◌, ℕ, List, [], ◌++◌, Option, None, Some, max}
use Rattle.sl_ast.specs.Trees.{Pattern}
use Rattle.sl_decode_meaning.specs.Actions.{Own, look}
use Rattle.sl_decode_meaning.specs.Outcomes.{in_turn}
use Rattle.sl_decode_meaning.specs.Places.{Leaf, leaves, length_in, length_of}
use Rattle.sl_decode_meaning.specs.Values.{Site}
use Rattle.sl_decode_leaves.specs.Extents.{extent, leaves_at}
use Rattle.sl_decode_leaves.specs.Looks.{look_step}
use Rattle.sl_decode_leaves.specs.declared.pattern_leaves.PatternLeaves.{PatternLeaves}
use Rattle.sl_decode_leaves.specs.declared.whole.Whole.{Whole}
use Rattle.sl_spec.specs.Tables.{Operand}
use Rattle.sl_spec.specs.declared.tables.Tables.{Tables}

-- ---- of a pattern, if there is one

module _ (t : Tables) (os : List Operand) (lengths : List ℕ) where
  abbrev pub leaves_if_written : Option Pattern → List Leaf
  leaves_if_written None = []
  leaves_if_written (Some p) = leaves t os (length_of os lengths) 0 p

  abbrev pub length_if_written : Option Pattern → ℕ
  length_if_written None = 0
  length_if_written (Some p) = length_in t os (length_of os lengths) p

-- They are the names of a pattern with their places, the look-ups of its bare fields, and its
-- length, where these are the operands.
pub record AreLeavesOf (t : Tables) (os : List Operand) (p : Option Pattern) (x : PatternLeaves)
    : Type 0 where
  pub leaves : (lengths : List ℕ)
      → leaves_at lengths x.leaves.items ≡ leaves_if_written t os lengths p
  pub looks : (s : Site) (c : Own) → in_turn (look_step t s) x.looks.items c
      ≡ in_turn (look t os s) (leaves_if_written t os s.lengths p) c
  pub length : (lengths : List ℕ) → extent x.length lengths ≡ length_if_written t os lengths p

-- ---- of a whole pattern

pub record IsWhole (t : Tables) (os : List Operand) (p : Pattern) (w : Whole) : Type 0 where
  pub leaves : (lengths : List ℕ)
      → leaves_at lengths w.leaves ≡ leaves_if_written t os lengths (Some p)
  pub looks : (s : Site) (c : Own) → in_turn (look_step t s) w.looks.items c
      ≡ in_turn (look t os s) (leaves_if_written t os s.lengths (Some p)) c
  pub length : (lengths : List ℕ)
      → extent w.length lengths ≡ length_if_written t os lengths (Some p)

pub record IsNothing (w : Whole) : Type 0 where
  pub leaves : w.leaves ≡ []
  pub looks : w.looks.items ≡ []
  pub length : (lengths : List ℕ) → extent w.length lengths ≡ 0

-- What was made, and then what is made of a pattern.
pub record Joins (w : Whole) (x : PatternLeaves) (more : Whole) : Type 0 where
  pub leaves : more.leaves ≡ w.leaves ++ x.leaves.items
  pub looks : (t : Tables) (s : Site) (c : Own) → in_turn (look_step t s) more.looks.items c
      ≡ in_turn (look_step t s) (w.looks.items ++ x.looks.items) c
  pub length : (lengths : List ℕ)
      → extent more.length lengths ≡ max (extent w.length lengths) (extent x.length lengths)
