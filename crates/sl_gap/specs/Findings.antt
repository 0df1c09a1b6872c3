-- step: what is found of single constructors.
use Rattle.std.specs.Prelude.{◌≡◌, ◌↔◌, ◌++◌, ◌∷◌, [], ℕ, ◌&&◌, All, Bool, true, false, List, length, Option, Some, None, slice_get, IsTrue, Contains}
use Rattle.sl_ast.specs.Trees.{Constructor}
use Rattle.sl_ast.specs.Unfolding.{Placed}
use Rattle.sl_conflict.specs.Kept.{IsPaired}
use Rattle.sl_conflict.specs.TableTests.{AreSetsOf}
use Rattle.sl_conflict.specs.declared.table_sets.TableSets.{TableSets}
use Rattle.sl_cube.specs.Points.{InRange, IsInSome}
use Rattle.sl_cube.specs.declared.Cube.{Cube}
use Rattle.sl_cube.specs.declared.Point.{Point}
use Rattle.sl_cube_sets.specs.Sets.{IsLeastWhere}
use Rattle.sl_decode_meaning.specs.Meanings.{says}
use Rattle.sl_decode_plan.specs.Plans.{done}
use Rattle.sl_decode_plan.specs.declared.plans.Plan.{Plan}
use Rattle.sl_gap.specs.Holes.{HasHole, IsHole, IsLeastHole}
use Rattle.sl_gap.specs.Reports.{AreHoles, IsPlain, IsRising}
use Rattle.sl_gap.specs.declared.findings.Finding.{Finding}
use Rattle.sl_gap.specs.declared.reports.Found.{Found}
use Rattle.sl_gap.specs.declared.report.Hole.{Hole}
use Rattle.sl_gap_holes.specs.declared.holes.HolePoints.{HolePoints}
use Rattle.sl_gap_operands.specs.Operands.{IsExamined}
use Rattle.sl_gap_tables.specs.Gaps.{IsGap}
use Rattle.sl_spec.specs.Tables.{Ctor}
use Rattle.sl_spec.specs.declared.tables.Tables.{Tables}
use Rattle.sl_spec_constructors.specs.Listed.{AreListed}

-- ---- lists of numbers

-- The number is added, unless it has a mark.
abbrev pub AddsUnmarked : Bool → ℕ → List ℕ → List ℕ → Type 0
AddsUnmarked true number old new = new ≡ old
AddsUnmarked false number old new = new ≡ old ++ number ∷ []

-- The numbers without a mark, in order.
pub record AreUnmarked (marks : List Bool) (ids : List ℕ) : Type 0 where
  pub rising : IsRising ids
  pub each : (n : ℕ) → Contains ids n ↔ (slice_get marks n ≡ Some false)

-- ---- single constructors

module _ (t : Tables) (cs : List (Placed Constructor)) where
  -- The sets are those of the tables, each with its constructors.
  pub record AreKept (kept : List TableSets) : Type 0 where
    pub listed : AreListed t cs
    pub sets : AreSetsOf t cs kept
    pub paired : All IsPaired kept

  -- The cubes have each point that the table doesn't leave unmatched.
  abbrev pub AreMatched : ℕ → List Cube → Type 0
  AreMatched table cubes = (q : Point) → InRange q → (IsInSome cubes q → ⊥) ↔ IsGap t cs table q

  -- the least hole of a constructor for an operand at a place; or there is none
  abbrev pub TellsPoints : (number table place : ℕ) → Option HolePoints → Type 0
  TellsPoints number table place None = (parent child : Point) → IsHole t cs number table place parent child → ⊥
  TellsPoints number table place (Some h) =
      IsLeastWhere (HasHole t cs number table place) h.parent × IsLeastWhere (IsHole t cs number table place h.parent) h.child

  -- so as a hole
  abbrev pub TellsHoleAt : (number table place : ℕ) → Option Hole → Type 0
  TellsHoleAt number table place None = (parent child : Point) → IsHole t cs number table place parent child → ⊥
  TellsHoleAt number table place (Some h) = (h.ctor ≡ number) × (h.operand ≡ table)
      × IsLeastWhere (HasHole t cs number table place) h.parent × IsLeastWhere (IsHole t cs number table place h.parent) h.child

  -- the constructor of a number, as it is written, and its plan
  pub record IsAt (number : ℕ) (c : Ctor) (d : Placed Constructor) (plan : Plan) : Type 0 where
    pub ctor_is : slice_get t.constructors number ≡ Some c
    pub written_is : slice_get cs number ≡ Some d
    pub says_so : says t cs number ≡ Some (done t plan)

  -- the hole of an examined constructor, if it has one
  abbrev pub TellsHoleOf : ℕ → Option Hole → Type 0
  TellsHoleOf number None = (table place : ℕ) → IsExamined t cs number table place → (parent child : Point)
      → IsHole t cs number table place parent child → ⊥
  TellsHoleOf number (Some h) = (h.ctor ≡ number) × IsLeastHole t cs h

  -- its hole, and whether it is plain
  pub record TellsFinding (number : ℕ) (c : Ctor) (f : Finding) : Type 0 where
    pub hole : TellsHoleOf number f.hole
    pub plain : IsTrue f.plain ↔ IsPlain t cs number c

-- ---- all constructors

-- the hole, if any, behind those so far
abbrev pub with_hole : List Hole → Option Hole → List Hole
with_hole holes None = holes
with_hole holes (Some h) = holes ++ h ∷ []

-- What is found of one more constructor is added.
pub record AddsHole (old : Found) (f : Finding) (new : Found) : Type 0 where
  pub holes : new.holes.items ≡ with_hole old.holes.items f.hole
  pub plain : new.plain ≡ (old.plain && f.plain)

-- The holes of all constructors, and whether each is plain.
pub record AreFindings (t : Tables) (cs : List (Placed Constructor)) (f : Found) : Type 0 where
  pub holes : AreHoles t cs f.holes.items
  pub plain : IsTrue f.plain ↔ ((number : ℕ) (c : Ctor) → slice_get t.constructors number ≡ Some c → IsPlain t cs number c)

-- Each constructor is plain, the first table leaves no point, and there is no hole.
pub record LooksSure (f : Found) (gaps : List (Option Point)) : Type 0 where
  pub plain : f.plain ≡ true
  pub none : length f.holes.items ≡ 0
  pub whole : slice_get gaps 0 ≡ Some None
