-- view: how cubes lie to each other as sets of points.
use Rattle.std.specs.Prelude.{◌≡◌, ◌↔◌, ℕ, ◌⊎◌, List, Option, Some, None, Contains, bit_or}
use Rattle.std.specs.Int.{bit_at}
use Rattle.sl_cube.specs.declared.Cube.{Cube}
use Rattle.sl_cube.specs.declared.Point.{Point}
use Rattle.sl_cube.specs.Points.{InRange, IsIn, IsInSome, NotAfter}

-- Each point of the inner cube is in the outer one.
abbrev pub Includes : Cube → Cube → Type 0
Includes outer inner = (p : Point) → InRange p → IsIn p inner → IsIn p outer

-- Some point is in both cubes.
abbrev pub DoMeet : Cube → Cube → Type 0
DoMeet a b = (p : Point) × InRange p × IsIn p a × IsIn p b

-- No point is in both cubes.
abbrev pub AreApart : Cube → Cube → Type 0
AreApart a b = (p : Point) → InRange p → IsIn p a → IsIn p b → ⊥

-- The points of the third cube are those that are in both of the others.
abbrev pub IsMeet : Cube → Cube → Cube → Type 0
IsMeet a b m = (p : Point) → IsIn p m ↔ (IsIn p a × IsIn p b)

-- The third cube fixes the bits that either of the others fixes.
abbrev pub FixesBoth : Cube → Cube → Cube → Type 0
FixesBoth a b m = (m.mask ≡ bit_or a.mask b.mask) × (m.ctx_mask ≡ bit_or a.ctx_mask b.ctx_mask)

-- The point is in the cube, and after no point of it.
abbrev pub IsLeast : Cube → Point → Type 0
IsLeast c p = IsIn p c × ((q : Point) → InRange q → IsIn q c → NotAfter p q)

-- All points of both cubes have this bit at this place.
abbrev pub AllHave : (Point → ℕ) → Cube → Cube → ℕ → ℕ → Type 0
AllHave part a b i bit = (p : Point) → InRange p → IsIn p a ⊎ IsIn p b → bit_at (part p) i ≡ bit

-- The point has each bit that all points of both cubes have.
abbrev pub HasShared : (Point → ℕ) → Cube → Cube → Point → Type 0
HasShared part a b q = (i bit : ℕ) → AllHave part a b i bit → bit_at (part q) i ≡ bit

-- The points of the hull are those that agree with each bit on which all points of both cubes agree.
abbrev pub IsHull : Cube → Cube → Cube → Type 0
IsHull a b h = (q : Point) → InRange q
    → IsIn q h ↔ (HasShared (λ p. p.bytes) a b q × HasShared (λ p. p.context) a b q)

-- The kept cubes are those of the others that meet the cube.
abbrev pub AreMeeting : Cube → List Cube → List Cube → Type 0
AreMeeting cube others kept = (c : Cube) → Contains kept c ↔ (Contains others c × DoMeet cube c)

-- Each point of the cube is in some cube of the list.
abbrev pub Covers : List Cube → Cube → Type 0
Covers others cube = (p : Point) → InRange p → IsIn p cube → IsInSome others p

-- The point is in the cube and in no cube of the list.
abbrev pub IsOutside : Point → Cube → List Cube → Type 0
IsOutside p cube others = InRange p × IsIn p cube × (IsInSome others p → ⊥)

-- It is outside, and no other point that is outside stands before it.
abbrev pub IsLeastOutside : Point → Cube → List Cube → Type 0
IsLeastOutside p cube others =
    IsOutside p cube others × ((q : Point) → IsOutside q cube others → NotAfter p q)

-- What is found in the cube outside the list: its least point there, or none where the list covers the cube.
abbrev pub IsFound : Cube → List Cube → Option Point → Type 0
IsFound cube others None = Covers others cube
IsFound cube others (Some p) = IsLeastOutside p cube others
