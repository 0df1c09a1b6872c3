-- meaning: the report on what a specification leaves unmatched.
use Rattle.std.specs.Prelude.{◌≡◌, ◌↔◌, ◌<◌, ◌≤◌, ℕ, All, Bool, List, [], ◌∷◌, length, map, Option, Some, slice_get, IsTrue, Contains}
use Rattle.sl_ast.specs.Trees.{Constructor}
use Rattle.sl_ast.specs.Unfolding.{Placed}
use Rattle.sl_cube.specs.Points.{InRange}
use Rattle.sl_cube.specs.declared.Point.{Point}
use Rattle.sl_decode_meaning.specs.Places.{table_operands}
use Rattle.sl_gap.specs.Holes.{IsHole, IsLeastHole}
use Rattle.sl_gap.specs.declared.report.Hole.{Hole}
use Rattle.sl_gap_operands.specs.Operands.{IsExamined, IsQuiet}
use Rattle.sl_gap_tables.specs.Gaps.{IsGap, IsShadowed, TellGaps}
use Rattle.sl_spec.specs.Tables.{Ctor}
use Rattle.sl_spec.specs.declared.tables.Tables.{Tables}

-- What a specification leaves unmatched: the least unmatched point of each table, in order of the tables; the constructors
-- that are chosen at no point; the holes; and whether no decode can end for want of a constructor.
pub record Report : Type 0 where
  pub tables : List (Option Point)
  pub shadowed : List ℕ
  pub holes : List Hole
  pub sure : Bool

-- Each number is less than those after it.
abbrev pub IsRising : List ℕ → Type 0
IsRising [] = Unit {0}
IsRising (n ∷ ns) = All (λ m. n < m) ns × IsRising ns

module _ (t : Tables) (cs : List (Placed Constructor)) where
  -- The constructors that are chosen at no point, in the order of the text.
  pub record AreShadowed (ns : List ℕ) : Type 0 where
    pub rising : IsRising ns
    pub each : (n : ℕ) → Contains ns n ↔ ((n < length t.constructors) × IsShadowed t cs n)

  -- The least hole of each examined constructor that has one, in the order of the text.
  pub record AreHoles (hs : List Hole) : Type 0 where
    pub rising : IsRising (map (λ h. h.ctor) hs)
    pub right : (h : Hole) → Contains hs h → IsLeastHole t cs h
    pub all : (number table place : ℕ) → IsExamined t cs number table place → (parent child : Point)
        → IsHole t cs number table place parent child → (h : Hole) × Contains hs h × (h.ctor ≡ number)

  -- No action of the constructor sets a field of the context, and it has at most one table operand, for which it is
  -- examined.
  pub record IsPlain (number : ℕ) (c : Ctor) : Type 0 where
    pub quiet : IsQuiet t cs number
    pub single : length (table_operands c.operands) ≤ 1
    pub examined : 1 ≤ length (table_operands c.operands) → (table : ℕ) × (place : ℕ) × IsExamined t cs number table place

  -- Each constructor is plain, the first table has no gap, and there is no hole.
  pub record IsSure : Type 0 where
    pub plain : (number : ℕ) (c : Ctor) → slice_get t.constructors number ≡ Some c → IsPlain number c
    pub whole : (p : Point) → InRange p → IsGap t cs 0 p → ⊥
    pub no_holes : (number table place : ℕ) → IsExamined t cs number table place → (parent child : Point)
        → IsHole t cs number table place parent child → ⊥

  -- Each list has all that it should and nothing else.
  pub record IsReport (r : Report) : Type 0 where
    pub tables : TellGaps t cs r.tables
    pub shadowed : AreShadowed r.shadowed
    pub holes : AreHoles r.holes
    pub sure : IsTrue r.sure ↔ IsSure
