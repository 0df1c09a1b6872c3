-- meaning: points, and cubes as sets of points.
use Rattle.std.specs.Prelude.{◌≡◌, ◌<◌, ◌≤◌, ◌^◌, ◌⊎◌, List}
use Rattle.std.specs.List.{Any}
use Rattle.sl_cube.specs.Bits.{Agrees}
use Rattle.sl_cube.specs.declared.Cube.{Cube}
use Rattle.sl_cube.specs.declared.Point.{Point}

-- The point's numbers have at most 128 and 64 bits.
abbrev pub InRange : Point → Type 0
InRange p = (p.bytes < 2 ^ 128) × (p.context < 2 ^ 64)

-- The point has each bit that the cube fixes.
abbrev pub IsIn : Point → Cube → Type 0
IsIn p c = Agrees c.mask c.value p.bytes × Agrees c.ctx_mask c.ctx_value p.context

-- Points are ordered by their bytes, and where those are equal by their context.
abbrev pub NotAfter : Point → Point → Type 0
NotAfter p q = (p.bytes < q.bytes) ⊎ ((p.bytes ≡ q.bytes) × (p.context ≤ q.context))

-- Some cube of the list has the point.
abbrev pub IsInSome : List Cube → Point → Type 0
IsInSome others p = Any (λ other. IsIn p other) others
