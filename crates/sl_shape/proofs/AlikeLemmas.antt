-- Readings that answer alike what a pattern asks of them.
use Rattle.std.proofs.Common.{◌≡◌, ℕ, ◌-◌, ◌⊎◌, inl, inr, Bool, true, false, List, Option, Some, sym, ap, ◌∙◌, subst}
use Rattle.std.specs.Prelude.{◌↔◌, option_and_then}
use Rattle.sl_ast.specs.Trees.{Pattern, bare, constraint, group, ellipsis, joined}
use Rattle.sl_ast.specs.declared.patterns.PatternOp.{PatternOp}
use Rattle.sl_ast.specs.declared.patterns.PatternOp.TheVariants.{And, Then, Or}
use Rattle.sl_cube.specs.Points.{InRange}
use Rattle.sl_cube.specs.declared.Cube.{Cube}
use Rattle.sl_cube.specs.declared.Point.{Point}
use Rattle.sl_shape_constraints.specs.Places.{seen}
use Rattle.sl_shape_constraints.specs.Windows.{IsEnd}
use Rattle.sl_shape_constraints.proofs.ShiftLemmas.{seen_range}
use Rattle.sl_shape_patterns.specs.Patterns.{JoinedHolds, OpenOrIn, PatternHolds, Reading, hull_named, is_open, right_place}
use Rattle.sl_shape_patterns.specs.Windows.{IfFixesByte, PatternConstrains}
use Rattle.sl_shape_patterns.proofs.OneHull.{AreHullsAlike, alike_itself}
use Rattle.sl_shape.specs.Extents.{extent_bytes, extent_of}
use Rattle.sl_shape.specs.PatternShapes.{fixed_bytes, pattern_bytes, shape_of}
use Rattle.sl_shape.proofs.ExtentOfShapeLemmas.{extent_shaped, inner_of, sides_of}
use Rattle.sl_shape_tokens.specs.Shapes.{Shape}
use Rattle.sl_spec.specs.declared.tables.Tables.{Tables}

pub end_same : (P Q : ℕ → Type 0) → ((i : ℕ) → P i ↔ Q i) → (n : ℕ) → IsEnd P n → IsEnd Q n
end_same P Q same n e = record { all = λ i h. e.all i ((same i).1 h); last = λ some. (same (n - 1)).0 (e.last some) }

either_same : (A B C D : Type 0) → (A ↔ C) → (B ↔ D) → (A ⊎ B) ↔ (C ⊎ D)
either_same A B C D f g = (
  λ x. elim x [ inl a ↦ inl (f.0 a) | inr b ↦ inr (g.0 b) ],
  λ x. elim x [ inl a ↦ inl (f.1 a) | inr b ↦ inr (g.1 b) ],
)

joined_same : (op : PatternOp) (A B C D : Type 0) → (A ↔ C) → (B ↔ D) → JoinedHolds op A B ↔ JoinedHolds op C D
joined_same And A B C D f g = (λ x. (f.0 x.0, g.0 x.1), λ x. (f.1 x.0, g.1 x.1))
joined_same Then A B C D f g = (λ x. (f.0 x.0, g.0 x.1), λ x. (f.1 x.0, g.1 x.1))
joined_same Or A B C D f g = either_same A B C D f g

open_same : (is : Bool) (a b : Option Cube) → AreHullsAlike a b → (x : Point) → InRange x → OpenOrIn is a x ↔ OpenOrIn is b x
open_same true a b same x range = (λ w. w, λ w. w)
open_same false a b same x range = same.has x range

byte_same : (is : Bool) (a b : Option Cube) → AreHullsAlike a b → (i : ℕ) → IfFixesByte is a i ↔ IfFixesByte is b i
byte_same true a b same i = (λ w. w, λ w. w)
byte_same false a b same i = same.fixes i

module _ (t : Tables) (b c : Pattern → Option ℕ) (h k : List (Option Cube)) where
  abbrev one : Reading
  one = record { tables = t; bytes = b; hulls = h }

  abbrev two : Reading
  two = record { tables = t; bytes = c; hulls = k }

  -- They have hulls that are alike, and the same bytes of what stands in the pattern.
  unfoldable pub AreAlike : Pattern → Type 0
  AreAlike (bare name) = AreHullsAlike (hull_named one name) (hull_named two name)
  AreAlike (constraint name relation e) = Unit {0}
  AreAlike (group p) = AreAlike p
  AreAlike (ellipsis p) = AreAlike p
  AreAlike (joined op p q) = (b p ≡ c p) × AreAlike p × AreAlike q

  pub holds_alike : (p : Pattern) → AreAlike p → (place : ℕ) (x : Point) → InRange x → PatternHolds one p place x ↔ PatternHolds two p place x
  unfolding PatternHolds AreAlike
  holds_alike (bare name) a place x range =
      open_same (is_open t name) (hull_named one name) (hull_named two name) a (seen place x) (seen_range place x range)
  holds_alike (constraint name relation e) a place x range = (λ w. w, λ w. w)
  holds_alike (group p) a place x range = holds_alike p a place x range
  holds_alike (ellipsis p) a place x range = holds_alike p a place x range
  holds_alike (joined op p q) a place x range =
      let same = ap (right_place op place) a.0 in
      let right = holds_alike q a.2 (right_place op place (c p)) x range in
      joined_same op (PatternHolds one p place x) (PatternHolds one q (right_place op place (b p)) x)
      (PatternHolds two p place x) (PatternHolds two q (right_place op place (c p)) x) (holds_alike p a.1 place x range) (
        λ w. right.0 (subst (λ (n : ℕ). PatternHolds one q n x) same w),
        λ w. subst (λ (n : ℕ). PatternHolds one q n x) (sym same) (right.1 w),
      )

  pub constrains_alike : (p : Pattern) → AreAlike p → (place i : ℕ) → PatternConstrains one p place i ↔ PatternConstrains two p place i
  unfolding PatternConstrains AreAlike
  constrains_alike (bare name) a place i =
      let same = byte_same (is_open t name) (hull_named one name) (hull_named two name) a in
      (λ w. (w.0, (same w.0).0 w.1, w.2), λ w. (w.0, (same w.0).1 w.1, w.2))
  constrains_alike (constraint name relation e) a place i = (λ w. w, λ w. w)
  constrains_alike (group p) a place i = constrains_alike p a place i
  constrains_alike (ellipsis p) a place i = constrains_alike p a place i
  constrains_alike (joined op p q) a place i =
      let same = ap (right_place op place) a.0 in
      let right = constrains_alike q a.2 (right_place op place (c p)) i in
      either_same (PatternConstrains one p place i) (PatternConstrains one q (right_place op place (b p)) i)
      (PatternConstrains two p place i) (PatternConstrains two q (right_place op place (c p)) i) (constrains_alike p a.1 place i) (
        λ w. right.0 (subst (λ (n : ℕ). PatternConstrains one q n i) same w),
        λ w. subst (λ (n : ℕ). PatternConstrains one q n i) (sym same) (right.1 w),
      )

-- ---- by extents and by shapes

module _ (t : Tables) (shapes : List Shape) (hulls : List (Option Cube)) where
  abbrev by_extents : Pattern → Option ℕ
  by_extents p = extent_bytes (extent_of t shapes p)

  same_bytes : (p : Pattern) (s : Shape) → shape_of t shapes p ≡ Some s → by_extents p ≡ pattern_bytes t shapes p
  same_bytes p s e =
      ap extent_bytes (extent_shaped t shapes p s e) ∙ sym (ap (λ (o : Option Shape). option_and_then (fixed_bytes t) o) e)

  pub alike_shaped : (p : Pattern) (s : Shape) → shape_of t shapes p ≡ Some s → AreAlike t by_extents (pattern_bytes t shapes) hulls hulls p
  unfolding shape_of AreAlike
  alike_shaped (bare name) s e = alike_itself (hull_named (record { tables = t; bytes = by_extents; hulls = hulls }) name)
  alike_shaped (constraint name relation x) s e = tt
  alike_shaped (group p) s e = alike_shaped p s e
  alike_shaped (ellipsis p) s e = let i = inner_of (shape_of t shapes p) s e in alike_shaped p i.inner i.inner_is
  alike_shaped (joined op p q) s e =
      let i = sides_of op (shape_of t shapes p) (shape_of t shapes q) s e in
      (same_bytes p i.left i.left_is, alike_shaped p i.left i.left_is, alike_shaped q i.right i.right_is)
