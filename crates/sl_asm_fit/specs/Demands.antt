-- view: lists of bytes that meet demands at places.
use Rattle.std.specs.Prelude.{◌≡◌, ℕ, ◌<◌, ◌≤◌, List, Option, Some, None, length}
use Rattle.std.specs.List.{All, AllByRecursion}
use Rattle.sl_asm_fit.specs.Windows.{with_zeros}
use Rattle.sl_asm_fit.specs.declared.solving.Demand.{Demand}
use Rattle.sl_cube.specs.Points.{IsInSome}
use Rattle.sl_decode_meaning.specs.Decoding.{point_at}

-- Followed by zeros, the bytes meet the demand: the sixteen from its place on, with the context, are
-- in one of its cubes.
abbrev pub Meets : ℕ → List ℕ → Demand → Type 0
Meets context bytes d = IsInSome d.cubes.items (point_at (with_zeros bytes) d.at context)

abbrev pub MeetAll : ℕ → List ℕ → List Demand → Type 0
MeetAll context bytes ds = AllByRecursion (Meets context bytes) ds

-- Each place is at most 255.
abbrev pub ArePlaced : List Demand → Type 0
ArePlaced ds = AllByRecursion (λ d. d.at ≤ 255) ds

-- Bytes of the length that meet all demands.
pub record IsSolution (count context : ℕ) (ds : List Demand) (bytes : List ℕ) : Type 0 where
  pub long : length bytes ≡ count
  pub are_bytes : All (λ b. b < 256) bytes
  pub meets : MeetAll context bytes ds

-- Such bytes, or that there are none.
abbrev pub IsAnswer : ℕ → ℕ → List Demand → Option (List ℕ) → Type 0
IsAnswer count context ds None = (bytes : List ℕ) → IsSolution count context ds bytes → ⊥
IsAnswer count context ds (Some bytes) = IsSolution count context ds bytes
