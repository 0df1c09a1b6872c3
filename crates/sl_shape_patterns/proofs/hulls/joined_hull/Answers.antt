use Rattle.std.proofs.Common.{Option, Some, None, sym, subst, inl, inr, ◌⊎◌}
use Rattle.sl_cube.specs.Points.{IsIn}
use Rattle.sl_cube.specs.declared.Cube.{Cube}
use Rattle.sl_shape_patterns.specs.Hulls.{IsHullOrNone}
use Rattle.sl_shape_patterns.specs.Patterns.{InHull}
use Rattle.sl_shape_patterns.proofs.HullLemmas.{found_same}
use Rattle.sl_shape_patterns.proofs.hulls.joined_hull.Goals as goal

pub returns-in_default : goal.returns-in_default
returns-in_default c =
    subst (λ (o : Option Cube). IsHullOrNone (λ p. InHull o p ⊎ InHull c.args.second p) (Some c.hull2.result)) (sym c.in_default.is)
    (subst (λ (o : Option Cube). IsHullOrNone (λ p. InHull None p ⊎ InHull o p) (Some c.hull2.result)) (sym c.in_ok-other.was)
    (found_same (λ p. IsIn p c.in_ok-other.other ⊎ IsIn p c.in_ok-other.other) (λ p. InHull None p ⊎ InHull (Some c.in_ok-other.other) p) (Some c.hull2.result)
    (λ p range side. inr (elim side [ inl x ↦ x | inr x ↦ x ])) (λ p range side. elim side [ inl x ↦ absurd x | inr x ↦ inl x ]) c.hull2.ensures))

pub returns-in_default-second : goal.returns-in_default-second
returns-in_default-second c =
    subst (λ (o : Option Cube). IsHullOrNone (λ p. InHull o p ⊎ InHull c.args.second p) (Some c.hull2-in_default-second.result)) (sym c.in-Some.is)
    (subst (λ (o : Option Cube). IsHullOrNone (λ p. InHull (Some c.in-Some.one) p ⊎ InHull o p) (Some c.hull2-in_default-second.result)) (sym c.in_default-second.is)
    (found_same (λ p. IsIn p c.in-Some.one ⊎ IsIn p c.in-Some.one) (λ p. InHull (Some c.in-Some.one) p ⊎ InHull None p) (Some c.hull2-in_default-second.result)
    (λ p range side. inl (elim side [ inl x ↦ x | inr x ↦ x ])) (λ p range side. elim side [ inl x ↦ inl x | inr x ↦ absurd x ]) c.hull2-in_default-second.ensures))

pub returns : goal.returns
returns c =
    subst (λ (o : Option Cube). IsHullOrNone (λ p. InHull o p ⊎ InHull c.args.second p) (Some c.hull2-2.result)) (sym c.in-Some.is)
    (subst (λ (o : Option Cube). IsHullOrNone (λ p. InHull (Some c.in-Some.one) p ⊎ InHull o p) (Some c.hull2-2.result)) (sym c.in-Some-second.is) c.hull2-2.ensures)
