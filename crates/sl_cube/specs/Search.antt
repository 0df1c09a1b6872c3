-- law: halves of cubes at bits; and, for private clauses, what the search for a point outside keeps.
use Rattle.std.specs.Prelude.{◌≡◌, ◌↔◌, ◌<◌, ◌≤◌, ◌⊎◌, List, Option, Some, None, bit_and, bit_or}
use Rattle.sl_cube.specs.Bits.{Agrees}
use Rattle.sl_cube.specs.TopBits.{IsTopBit}
use Rattle.sl_cube.specs.Points.{InRange, IsIn, NotAfter, IsInSome}
use Rattle.sl_cube.specs.Cubes.{Covers, IsOutside}
use Rattle.sl_cube.specs.declared.Cube.{Cube}
use Rattle.sl_cube.specs.declared.Point.{Point}

-- The masks of the second cube are not less, as numbers, than those of the first.
abbrev pub IsNoWider : Cube → Cube → Type 0
IsNoWider cube rest = (cube.mask ≤ rest.mask) × (cube.ctx_mask ≤ rest.ctx_mask)

-- A point of the cube outside the list, or none where the list covers the cube.
abbrev pub IsSomeFound : Cube → List Cube → Option Point → Type 0
IsSomeFound cube others None = Covers others cube
IsSomeFound cube others (Some p) = IsOutside p cube others

-- What is found in the rest outside the kept ones is found in the cube outside the others.
pub record Reduces (cube : Cube) (others : List Cube) (rest : Cube) (kept : List Cube) : Type 0 where
  pub answers : (found : Option Point) → IsSomeFound rest kept found → IsSomeFound cube others found
  pub no_wider : IsNoWider cube rest

-- The rest of a cube has each of its points that isn't in the other cube.
pub record IsRest (cube other rest : Cube) : Type 0 where
  pub within : (p : Point) → IsIn p rest → IsIn p cube
  pub leaves : (p : Point) → InRange p → IsIn p cube → IsIn p other ⊎ IsIn p rest
  pub no_wider : IsNoWider cube rest

-- Each point of the cube is in some cube of the list or in the rest.
pub record Narrows (cube : Cube) (others : List Cube) (rest : Cube) : Type 0 where
  pub within : (p : Point) → IsIn p rest → IsIn p cube
  pub leaves : (p : Point) → InRange p → IsIn p cube → IsInSome others p ⊎ IsIn p rest
  pub no_wider : IsNoWider cube rest

-- Within the cube, the kept ones have the points that the others have.
abbrev pub KeepsMeeting : Cube → List Cube → List Cube → Type 0
KeepsMeeting cube others kept =
    (p : Point) → InRange p → IsIn p cube → IsInSome kept p ↔ IsInSome others p

-- The point has each of the bits clear.
abbrev pub Lacks : Point → Point → Type 0
Lacks bits p = Agrees bits.bytes 0 p.bytes × Agrees bits.context 0 p.context

-- The point has each of the bits set.
abbrev pub Has : Point → Point → Type 0
Has bits p = Agrees bits.bytes bits.bytes p.bytes × Agrees bits.context bits.context p.context

-- None of the bits is set.
abbrev pub IsNoBit : Point → Type 0
IsNoBit bits = (bits.bytes ≡ 0) × (bits.context ≡ 0)

-- The highest of the bits, those of the bytes before those of the context.
abbrev pub IsHighest : Point → Point → Type 0
IsHighest bits bit =
    (IsTopBit bits.bytes bit.bytes × (bit.context ≡ 0)) ⊎ ((bits.bytes ≡ 0) × (bit.bytes ≡ 0) × IsTopBit bits.context bit.context)

-- The cube fixes none of the bits.
abbrev pub LeavesOpen : Cube → Point → Type 0
LeavesOpen cube bits = (bit_and cube.mask bits.bytes ≡ 0) × (bit_and cube.ctx_mask bits.context ≡ 0)

-- The points of the cube that lack the bits, or that have them.
pub record IsPart (cube : Cube) (bits : Point) (Side : Point → Type 0) (part : Cube) : Type 0 where
  pub points : (p : Point) → IsIn p part ↔ (IsIn p cube × Side p)
  pub mask : part.mask ≡ bit_or cube.mask bits.bytes
  pub ctx_mask : part.ctx_mask ≡ bit_or cube.ctx_mask bits.context

-- And one of them is greater: this is what the search goes down by.
abbrev pub IsNarrower : Cube → Cube → Type 0
IsNarrower cube part = IsNoWider cube part × ((cube.mask < part.mask) ⊎ (cube.ctx_mask < part.ctx_mask))

-- Two halves of a cube, the points of the first before those of the second.
pub record IsSplit (cube low high : Cube) : Type 0 where
  pub low_within : (p : Point) → IsIn p low → IsIn p cube
  pub high_within : (p : Point) → IsIn p high → IsIn p cube
  pub whole : (p : Point) → IsIn p cube → IsIn p low ⊎ IsIn p high
  pub ordered : (p q : Point) → InRange p → InRange q → IsIn p low → IsIn q high → NotAfter p q
  pub low_narrower : IsNarrower cube low
  pub high_narrower : IsNarrower cube high

-- All points of the cube are one point.
abbrev pub IsSingle : Cube → Type 0
IsSingle cube = (p q : Point) → InRange p → InRange q → IsIn p cube → IsIn q cube → p ≡ q

-- Two cubes that make up another.
pub record IsHalved (cube low high : Cube) : Type 0 where
  pub low_within : (p : Point) → IsIn p low → IsIn p cube
  pub high_within : (p : Point) → IsIn p high → IsIn p cube
  pub whole : (p : Point) → IsIn p cube → IsIn p low ⊎ IsIn p high
  pub low_narrower : IsNarrower cube low
  pub high_narrower : IsNarrower cube high

-- The cube fixes no bit that the region leaves open.
pub record FixesNoMore (region cube : Cube) : Type 0 where
  pub same : (p q : Point) → IsIn p region → IsIn q region → IsIn p cube → IsIn q cube
