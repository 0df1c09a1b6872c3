-- step: entries for the cubes of one set more.
use Rattle.std.specs.Prelude.{◌≡◌, ◌↔◌, ℕ, ◌+◌, ◌⊎◌, List, length, Contains}
use Rattle.sl_cube.specs.declared.Cube.{Cube}
use Rattle.sl_choose.specs.declared.Entry.{Entry}

-- The new list has the old entries, and one for each of the cubes.
pub record AddsAll (ctor set : ℕ) (cubes : List Cube) (old new : List Entry) : Type 0 where
  pub are : (e : Entry) → Contains new e ↔ (Contains old e ⊎ ((e.ctor ≡ ctor) × (e.set ≡ set) × Contains cubes e.cube))
  pub count : length new ≡ length old + length cubes
