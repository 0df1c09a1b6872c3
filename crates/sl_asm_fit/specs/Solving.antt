-- step: regions whose lists meet demands.
use Rattle.std.specs.Prelude.{ℕ, List}
use Rattle.sl_asm_fit.specs.Demands.{MeetAll}
use Rattle.sl_asm_fit.specs.Regions.{IsOf}
use Rattle.sl_asm_fit.specs.Windows.{ReadsIn}
use Rattle.sl_asm_fit.specs.declared.Cell.{Cell}
use Rattle.sl_asm_fit.specs.declared.solving.Demand.{Demand}
use Rattle.sl_cube.specs.declared.Cube.{Cube}

-- No list of the region meets all demands.
abbrev pub IsHopeless : List Cell → ℕ → List Demand → Type 0
IsHopeless region context ds = (xs : List ℕ) → IsOf region xs → MeetAll context xs ds → ⊥

-- Each list of the smaller region is one of the region and meets all demands.
pub record Solves (region : List Cell) (context : ℕ) (ds : List Demand) (narrow : List Cell) : Type 0 where
  pub within : (xs : List ℕ) → IsOf narrow xs → IsOf region xs
  pub meets : (xs : List ℕ) → IsOf narrow xs → MeetAll context xs ds

-- No list of the region is in the cube at the place and meets the demands.
abbrev pub IsDead : List Cell → ℕ → ℕ → Cube → List Demand → Type 0
IsDead region context at cube ds =
    (xs : List ℕ) → IsOf region xs → ReadsIn at context cube xs → MeetAll context xs ds → ⊥

-- Each list of the smaller region is one of the region, is in the cube at the place and meets the demands.
pub record SolvesBy (region : List Cell) (context at : ℕ) (cube : Cube) (ds : List Demand)
    (narrow : List Cell) : Type 0 where
  pub within : (xs : List ℕ) → IsOf narrow xs → IsOf region xs
  pub reads : (xs : List ℕ) → IsOf narrow xs → ReadsIn at context cube xs
  pub meets : (xs : List ℕ) → IsOf narrow xs → MeetAll context xs ds
