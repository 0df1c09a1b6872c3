-- meaning: the bytes that a pattern looks at.
use Rattle.std.specs.Prelude.{◌≡◌, ℕ, ◌<◌, ◌+◌, ◌-◌, ◌/◌, ◌⊎◌, ◌==◌, Bool, true, false}
use Rattle.std.specs.Prelude.{Option, Some, None, if◌then◌else◌}
use Rattle.std.specs.Int.{bit_at}
use Rattle.sl_ast.specs.Trees.{Name, Pattern, bare, constraint, group, ellipsis, joined}
use Rattle.sl_shape_constraints.specs.Values.{Constraint}
use Rattle.sl_shape_constraints.specs.Windows.{Constrains, IsEnd}
use Rattle.sl_cube.specs.declared.Cube.{Cube}
use Rattle.sl_shape_patterns.specs.Patterns.{Reading, constraint_of, hull_named, is_open}
use Rattle.sl_shape_patterns.specs.Patterns.{right_place, told}

-- The hull, where there is one, fixes a bit of this byte; the first byte stands highest.
abbrev pub FixesByte : Option Cube → ℕ → Type 0
FixesByte None i = ⊥
FixesByte (Some hull) i =
    (bit : ℕ) × (bit < 128) × (bit_at hull.mask bit ≡ 1) × (i ≡ 15 - bit / 8)

abbrev pub IfFixesByte : Bool → Option Cube → ℕ → Type 0
IfFixesByte true hull i = ⊥
IfFixesByte false hull i = FixesByte hull i

-- A name by itself looks at the byte: a table where its hull fixes a bit of it.
abbrev pub NameConstrains : Reading → Name → ℕ → Type 0
NameConstrains r name i = IfFixesByte (is_open r.tables name) (hull_named r name) i

-- There is a constraint, and it looks at the byte of its token.
abbrev pub IfConstrains : Option Constraint → ℕ → Type 0
IfConstrains None i = ⊥
IfConstrains (Some c) i = Constrains c i

-- It holds of the index from the place on.
abbrev pub FromPlace : ℕ → (ℕ → Type 0) → ℕ → Type 0
FromPlace place P i = (j : ℕ) × P j × (i ≡ place + j)

module _ (r : Reading) where
  -- The pattern, read from the place on, looks at the byte.
  unfoldable pub PatternConstrains : Pattern → ℕ → ℕ → Type 0
  PatternConstrains (bare name) place i = FromPlace place (NameConstrains r name) i
  PatternConstrains (constraint name relation e) place i =
      FromPlace place (IfConstrains (constraint_of r.tables name relation e)) i
  PatternConstrains (group q) place i = PatternConstrains q place i
  PatternConstrains (ellipsis q) place i = PatternConstrains q place i
  PatternConstrains (joined op left right) place i = PatternConstrains left place i
      ⊎ PatternConstrains right (right_place op place (r.bytes left)) i

-- One past the last such byte, told up to 4,294,967,295; 0 where there is none.
abbrev pub IsWindow : (ℕ → Type 0) → ℕ → Type 0
IsWindow P shown = (n : ℕ) × IsEnd P n × (shown ≡ told n)

-- the end of what holds from a place on
abbrev pub end_from : ℕ → ℕ → ℕ
end_from place end = if end == 0 then 0 else place + end
