-- A pattern surely tells something: a first fault or none.
use Rattle.std.proofs.Common.{ℕ, ◌+◌, ◌<◌, ◌^◌, max, Bool, true, false, List, Option, Some, None, refl, inl, inr, arith}
use Rattle.std.proofs.lemmas.Bool.{cases_lt}
use Rattle.sl_ast.specs.Trees.{Constructor, Pattern, bare, constraint, group, ellipsis, joined}
use Rattle.sl_ast.specs.Unfolding.{Placed}
use Rattle.sl_ast.specs.declared.patterns.PatternOp.{PatternOp}
use Rattle.sl_ast.specs.declared.patterns.PatternOp.TheVariants.{And, Then, Or}
use Rattle.sl_shape_constraints.specs.Values.{Constraint}
use Rattle.sl_shape_constraints.specs.Windows.{IsEnd}
use Rattle.sl_shape_constraints.proofs.SomeCount.{bytes_in, constrains_within, some_end}
use Rattle.sl_base_surely.specs.Surely.{Surely}
use Rattle.sl_base_surely.proofs.SurelyLemmas.{surely, surely_each, surely_either, surely_map, surely_then}
use Rattle.sl_cube.specs.Points.{InRange}
use Rattle.sl_cube.specs.declared.Cube.{Cube}
use Rattle.sl_cube.specs.declared.Point.{Point}
use Rattle.sl_shape_patterns.specs.Counts.{HasPatternCount}
use Rattle.sl_shape_patterns.specs.Patterns.{Reading, constraint_of, hull_named, is_open, right_place, told}
use Rattle.sl_shape_patterns.specs.Windows.{FixesByte, FromPlace, IfConstrains, IfFixesByte, NameConstrains, PatternConstrains}
use Rattle.sl_shape_patterns.proofs.OneCount.{some_pattern_count}
use Rattle.sl_shape.specs.Faults.{BehindTells, CountTells, DifferTells, JoinTells, OrElse, PatternHoldsAt, PatternTells, PointTells, ShapeTells, WindowTells, most_cubes, most_window}
use Rattle.sl_shape.specs.PatternShapes.{Shapes, pattern_bytes, reading, shape_of}
use Rattle.sl_shape.specs.Tables.{CtorTells, IfTells, pattern_at}
use Rattle.sl_shape.specs.declared.faults.Fault.{Fault}
use Rattle.sl_shape.specs.declared.faults.Fault.TheVariants as fault
use Rattle.sl_shape_tokens.specs.Shapes.{Shape}
use Rattle.sl_spec.specs.FieldValues.{token_of}
use Rattle.sl_spec.specs.declared.tables.Tables.{Tables}

-- Something is told.
abbrev pub HasAnswer : (Option Fault → Type 0) → Type 0
HasAnswer F = (a : Option Fault) × F a

-- ---- all points

-- what is surely so of each point is surely so of all of them
surely_points : (P : Point → Type 0) → ((x : Point) → InRange x → Surely (P x)) → Surely ((x : Point) → InRange x → P x)
surely_points P each =
    let at : ℕ → ℕ → Point = λ b c. record { bytes = b; context = c } in
    surely_map {A = (b : ℕ) → b < 2 ^ 128 → (c : ℕ) → c < 2 ^ 64 → P (at b c)} {B = (x : Point) → InRange x → P x}
    (λ all x range. all x.bytes range.0 x.context range.1)
    (surely_each (λ b. (c : ℕ) → c < 2 ^ 64 → P (at b c)) (2 ^ 128) (λ b b_fits.
    surely_each (λ c. P (at b c)) (2 ^ 64) (λ c c_fits. each (at b c) (b_fits, c_fits))))

-- ---- one after another

or_else_answer : (F S : Option Fault → Type 0) (a b : Option Fault) → F a → S b → HasAnswer (OrElse F S)
or_else_answer F S None None x y = (None, (x, y))
or_else_answer F S None (Some g) x y = (Some g, inr (x, y))
or_else_answer F S (Some f) b x y = (Some f, inl x)

surely_or_else : (F S : Option Fault → Type 0) → Surely (HasAnswer F) → Surely (HasAnswer S) → Surely (HasAnswer (OrElse F S))
surely_or_else F S first second = surely_then {B = HasAnswer (OrElse F S)} first (λ a.
    surely_map {B = HasAnswer (OrElse F S)} (λ b. or_else_answer F S a.0 b.0 a.1 b.1) second)

some_count_tells : (t : Tables) (p : Pattern) → Surely (HasAnswer (CountTells t p))
some_count_tells t p = surely_map {B = HasAnswer (CountTells t p)} (λ (count : (n : ℕ) × HasPatternCount t p n). elim (cases_lt most_cubes count.0) [
  | inl many ↦ (Some (fault.TooManyCubes (told count.0)), (count.0, count.1, many, refl))
  | inr few ↦ (None, (count.0, count.1, few))
]) (some_pattern_count t p)

some_differ : (o : Option Shape) → HasAnswer (DifferTells o)
some_differ None = (Some fault.TokensDiffer, refl)
some_differ (Some s) = (None, refl)

-- ---- the bytes that a pattern looks at are bounded

-- The numbers for which it holds lie below a bound.
abbrev pub IsBounded : (ℕ → Type 0) → Type 0
IsBounded P = (bound : ℕ) × ((i : ℕ) → P i → i < bound)

from_place : (place : ℕ) (P : ℕ → Type 0) → IsBounded P → IsBounded (FromPlace place P)
from_place place P b = (place + b.0, λ i h. let less = b.1 h.0 h.1 in omega (arith, less, h.2))

hull_bounded : (hull : Option Cube) → IsBounded (FixesByte hull)
hull_bounded None = (0, λ i h. absurd h)
hull_bounded (Some hull) = (16, λ i h. omega (arith, h.3))

name_bounded : (is : Bool) (hull : Option Cube) → IsBounded (IfFixesByte is hull)
name_bounded true hull = (0, λ i h. absurd h)
name_bounded false hull = hull_bounded hull

constraint_bounded : (c : Option Constraint) → IsBounded (IfConstrains c)
constraint_bounded None = (0, λ i h. absurd h)
constraint_bounded (Some c) = (bytes_in (token_of c.tokens c.field), constrains_within c)

module _ (r : Reading) where
  pattern_bounded : (p : Pattern) (place : ℕ) → IsBounded (PatternConstrains r p place)
  unfolding PatternConstrains
  pattern_bounded (bare name) place = from_place place (NameConstrains r name) (name_bounded (is_open r.tables name) (hull_named r name))
  pattern_bounded (constraint name relation e) place =
      from_place place (IfConstrains (constraint_of r.tables name relation e)) (constraint_bounded (constraint_of r.tables name relation e))
  pattern_bounded (group p) place = pattern_bounded p place
  pattern_bounded (ellipsis p) place = pattern_bounded p place
  pattern_bounded (joined op p q) place =
      let left = pattern_bounded p place in
      let right = pattern_bounded q (right_place op place (r.bytes p)) in (
        max left.0 right.0,
        λ i h. elim h [
          | inl x ↦ let less = left.1 i x in omega (arith, less)
          | inr y ↦ let less = right.1 i y in omega (arith, less)
        ],
      )

-- ---- a pattern

module _ (t : Tables) (s : Shapes) (h : List (Option Cube)) where
  -- It doesn't hold at this point.
  abbrev FailsSomewhere : Pattern → Type 0
  FailsSomewhere q = (x : Point) × InRange x × (PatternHoldsAt t s h q x → ⊥)

  some_behind : (o : Option ℕ) (q : Pattern) → Surely (HasAnswer (BehindTells t s h o q))
  some_behind (Some bytes) q = surely (None, refl)
  some_behind None q = surely_then {B = HasAnswer (BehindTells t s h None q)} (surely_either (FailsSomewhere q)) (λ found. elim found [
    | inl fails ↦ surely (Some fault.InteriorEllipsis, (refl, fails))
    | inr never ↦ surely_map {B = HasAnswer (BehindTells t s h None q)} (λ all. (None, all))
        (surely_points (PatternHoldsAt t s h q) (λ x range. λ fails. never (x, range, fails)))
  ])

  some_join : (op : PatternOp) (p q : Pattern) → Surely (HasAnswer (JoinTells t s h op p q))
  some_join And p q = surely (some_differ (shape_of t s (joined And p q)))
  some_join Then p q = some_behind (pattern_bytes t s p) q
  some_join Or p q = surely (some_differ (shape_of t s (joined Or p q)))

  some_shape_tells : (p : Pattern) → Surely (HasAnswer (ShapeTells t s h p))
  unfolding ShapeTells
  some_shape_tells (bare name) = surely (None, refl)
  some_shape_tells (constraint name relation e) = surely (None, refl)
  some_shape_tells (group p) = some_shape_tells p
  some_shape_tells (ellipsis p) = some_shape_tells p
  some_shape_tells (joined op p q) = surely_or_else (ShapeTells t s h p) (OrElse (ShapeTells t s h q) (JoinTells t s h op p q))
      (some_shape_tells p) (surely_or_else (ShapeTells t s h q) (JoinTells t s h op p q) (some_shape_tells q) (some_join op p q))

  some_window : (p : Pattern) → Surely (HasAnswer (WindowTells t s h p))
  some_window p =
      let bounded = pattern_bounded (reading t s h) p 0 in
      surely_map {B = HasAnswer (WindowTells t s h p)} (λ (found : (n : ℕ) × IsEnd (PatternConstrains (reading t s h) p 0) n). elim (cases_lt most_window found.0) [
        | inl long ↦ (Some (fault.WindowTooLong (told found.0)), (found.0, found.1, long, refl))
        | inr short ↦ (None, (found.0, found.1, short))
      ]) (some_end (PatternConstrains (reading t s h) p 0) bounded.0 bounded.1)

  some_point_tells : (p : Pattern) → Surely (HasAnswer (PointTells t s h p))
  some_point_tells p = surely_map {B = HasAnswer (PointTells t s h p)} (λ found. elim found [
    | inl point ↦ (None, point)
    | inr none ↦ (Some fault.Impossible, (refl, λ x range holds. none (x, range, holds)))
  ]) (surely_either ((x : Point) × InRange x × PatternHoldsAt t s h p x))

  pub some_tells : (p : Pattern) → Surely (HasAnswer (PatternTells t s h p))
  some_tells p = surely_or_else (CountTells t p) (OrElse (ShapeTells t s h p) (OrElse (WindowTells t s h p) (PointTells t s h p)))
      (some_count_tells t p)
      (surely_or_else (ShapeTells t s h p) (OrElse (WindowTells t s h p) (PointTells t s h p)) (some_shape_tells p)
      (surely_or_else (WindowTells t s h p) (PointTells t s h p) (some_window p) (some_point_tells p)))

  module _ (cs : List (Placed Constructor)) where
    some_if_tells : (o : Option Pattern) → Surely (HasAnswer (IfTells t cs s h o))
    some_if_tells None = surely (None, refl)
    some_if_tells (Some p) = some_tells p

    pub some_ctor_tells : (i : ℕ) → Surely (HasAnswer (CtorTells t cs s h i))
    some_ctor_tells i = some_if_tells (pattern_at cs i)
