-- A pattern is read alike where its tables and its left sides are.
use Rattle.std.proofs.Common.{◌↔◌, ℕ, List, Option, sym, subst}
use Rattle.sl_ast.specs.Trees as t
use Rattle.sl_ast.specs.declared.patterns.PatternOp.TheVariants.{Or}
use Rattle.sl_shape_constraints.specs.Places.{seen}
use Rattle.sl_cube.specs.declared.Cube.{Cube}
use Rattle.sl_cube.specs.declared.Point.{Point}
use Rattle.sl_shape_patterns.specs.Laws.{AreAlike, IsReadAlike, reading}
use Rattle.sl_shape_patterns.specs.Patterns.{OpenOrIn, PatternHolds, Reading, is_open, right_place}
use Rattle.sl_shape_patterns.specs.Windows.{FromPlace, IfFixesByte, PatternConstrains}
use Rattle.sl_shape_patterns.proofs.UnionLemmas.{joined_same}
use Rattle.sl_spec.specs.declared.tables.Tables.{Tables}

module _ (tables : Tables) (bytes others : t.Pattern → Option ℕ) (hulls more : List (Option Cube)) where
  abbrev a : Reading
  a = reading tables bytes hulls

  abbrev b : Reading
  b = reading tables others more

  holds_alike : (x : t.Pattern) (place : ℕ) (p : Point) → AreAlike a b x → PatternHolds a x place p ↔ PatternHolds b x place p
  unfolding PatternHolds AreAlike
  holds_alike (t.bare name) place p e = (
    λ h. subst (λ (o : Option Cube). OpenOrIn (is_open tables name) o (seen place p)) e h,
    λ h. subst (λ (o : Option Cube). OpenOrIn (is_open tables name) o (seen place p)) (sym e) h,
  )
  holds_alike (t.constraint name r x) place p e = (λ h. h, λ h. h)
  holds_alike (t.group x) place p e = holds_alike x place p e
  holds_alike (t.ellipsis x) place p e = holds_alike x place p e
  holds_alike (t.joined op x y) place p e =
      joined_same op (PatternHolds a x place p) (PatternHolds a y (right_place op place (bytes x)) p)
      (PatternHolds b x place p) (PatternHolds b y (right_place op place (others x)) p) (holds_alike x place p e.0)
      (subst (λ (n : Option ℕ). PatternHolds a y (right_place op place (bytes x)) p ↔ PatternHolds b y (right_place op place n) p) e.2
      (holds_alike y (right_place op place (bytes x)) p e.1))

  looks_alike : (x : t.Pattern) (place i : ℕ) → AreAlike a b x → PatternConstrains a x place i ↔ PatternConstrains b x place i
  unfolding PatternConstrains AreAlike
  looks_alike (t.bare name) place i e = (
    λ h. subst (λ (o : Option Cube). FromPlace place (λ j. IfFixesByte (is_open tables name) o j) i) e h,
    λ h. subst (λ (o : Option Cube). FromPlace place (λ j. IfFixesByte (is_open tables name) o j) i) (sym e) h,
  )
  looks_alike (t.constraint name r x) place i e = (λ h. h, λ h. h)
  looks_alike (t.group x) place i e = looks_alike x place i e
  looks_alike (t.ellipsis x) place i e = looks_alike x place i e
  looks_alike (t.joined op x y) place i e =
      joined_same Or (PatternConstrains a x place i) (PatternConstrains a y (right_place op place (bytes x)) i)
      (PatternConstrains b x place i) (PatternConstrains b y (right_place op place (others x)) i) (looks_alike x place i e.0)
      (subst (λ (n : Option ℕ). PatternConstrains a y (right_place op place (bytes x)) i ↔ PatternConstrains b y (right_place op place n) i) e.2
      (looks_alike y (right_place op place (bytes x)) i e.1))

  pub read_alike : (x : t.Pattern) (place : ℕ) → AreAlike a b x → IsReadAlike a b x place
  read_alike x place e = (λ p. holds_alike x place p e, λ i. looks_alike x place i e)
