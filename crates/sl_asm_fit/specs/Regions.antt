-- view: regions of lists of bytes, by a cell for each byte.
use Rattle.std.specs.Prelude.{◌≡◌, ℕ, ◌<◌, List, Bool, true, false, Some, length, get_or, slice_get}
use Rattle.std.specs.List.{All}
use Rattle.sl_asm_fit.specs.Cells.{Fits}
use Rattle.sl_asm_fit.specs.Windows.{ReadsIn}
use Rattle.sl_asm_fit.specs.declared.Cell.{Cell}
use Rattle.sl_cube.specs.declared.Cube.{Cube}

-- A list of the region: it is as long, and each byte fits its cell.
pub record IsOf (region : List Cell) (xs : List ℕ) : Type 0 where
  pub long : length xs ≡ length region
  pub are_bytes : All (λ b. b < 256) xs
  pub fits : (k : ℕ) (c : Cell) → slice_get region k ≡ Some c → Fits c (get_or xs k 0)

-- The region has all lists of the length.
pub record IsOpen (count : ℕ) (region : List Cell) : Type 0 where
  pub long : length region ≡ count
  pub all : (xs : List ℕ) → length xs ≡ count → All (λ b. b < 256) xs → IsOf region xs

-- No list of the region is in the cube at the place.
abbrev pub Misses : List Cell → ℕ → ℕ → Cube → Type 0
Misses region at context cube = (xs : List ℕ) → IsOf region xs → ReadsIn at context cube xs → ⊥

-- The lists of the new region are those of the old one that are in the cube at the place.
pub record Narrows (region : List Cell) (at context : ℕ) (cube : Cube) (narrow : List Cell) : Type 0 where
  pub long : length narrow ≡ length region
  pub within : (xs : List ℕ) → IsOf narrow xs → IsOf region xs
  pub reads : (xs : List ℕ) → IsOf narrow xs → ReadsIn at context cube xs
  pub all : (xs : List ℕ) → IsOf region xs → ReadsIn at context cube xs → IsOf narrow xs

-- No list of the region has a byte that fits the cell at the index.
abbrev pub MissesOne : List Cell → ℕ → Cell → Type 0
MissesOne region i c = (xs : List ℕ) → IsOf region xs → Fits c (get_or xs i 0) → ⊥

-- The lists of the new region are those of the old one whose byte at the index fits the cell.
pub record NarrowsOne (region : List Cell) (i : ℕ) (c : Cell) (narrow : List Cell) : Type 0 where
  pub long : length narrow ≡ length region
  pub within : (xs : List ℕ) → IsOf narrow xs → IsOf region xs
  pub fits : (xs : List ℕ) → IsOf narrow xs → Fits c (get_or xs i 0)
  pub all : (xs : List ℕ) → IsOf region xs → Fits c (get_or xs i 0) → IsOf narrow xs

-- The region is narrowed so, or has no such list.
abbrev pub NarrowsIf : Bool → List Cell → ℕ → Cell → List Cell → Type 0
NarrowsIf true region i c narrow = NarrowsOne region i c narrow
NarrowsIf false region i c narrow = MissesOne region i c
