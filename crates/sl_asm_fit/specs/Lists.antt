-- view: lists of a region that pass a test.
use Rattle.std.specs.Prelude.{◌≡◌, ℕ, ◌<◌, ◌≤◌, List, Bool, true, false, Some, get_or, length, slice_get, take}
use Rattle.std.specs.List.{All}
use Rattle.sl_asm_fit.specs.Cells.{Fits}
use Rattle.sl_asm_fit.specs.Regions.{IsOf}
use Rattle.sl_asm_fit.specs.declared.Cell.{Cell}

-- No list of the region passes.
abbrev pub HasNone : (List ℕ → Type 0) → List Cell → Type 0
HasNone passes region = (xs : List ℕ) → IsOf region xs → passes xs → ⊥

-- A list of the region that passes.
pub record IsPassing (passes : List ℕ → Type 0) (region : List Cell) (xs : List ℕ) : Type 0 where
  pub of_region : IsOf region xs
  pub passed : passes xs

-- The bytes fit the first cells of the region.
pub record HasFront (region : List Cell) (front : List ℕ) : Type 0 where
  pub short : length front ≤ length region
  pub are_bytes : All (λ b. b < 256) front
  pub fits : (k : ℕ) (c : Cell) → k < length front → slice_get region k ≡ Some c → Fits c (get_or front k 0)

-- No list of the region that begins with the front passes.
abbrev pub Without : (List ℕ → Type 0) → List Cell → List ℕ → Type 0
Without passes region front =
    (xs : List ℕ) → IsOf region xs → take (length front) xs ≡ front → passes xs → ⊥

-- A list of the region passes; or none that begins with the front does, and this stays.
abbrev pub EndsIn : (List ℕ → Type 0) → List Cell → List ℕ → List ℕ → Bool → Type 0
EndsIn passes region front bytes true = IsPassing passes region bytes
EndsIn passes region front bytes false = (bytes ≡ front) × Without passes region front
