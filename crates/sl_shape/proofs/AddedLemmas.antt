-- The sets of constructors as they are put.
use Rattle.std.proofs.Common.{◌≡◌, ℕ, ◌<◌, ◌≤◌, inl, inr, length, arith, List, set, Option, Some, None, refl, sym, ap, ◌∙◌, subst}
use Rattle.std.proofs.lemmas.Bool.{cases_eq}
use Rattle.std.specs.Prelude.{option_and_then, slice_get, unwrap_or}
use Rattle.sl_ast.specs.Trees.{Constructor, Pattern}
use Rattle.sl_ast.specs.Unfolding.{Placed}
use Rattle.sl_shape_constraints.specs.Sets.{IsUnionOf}
use Rattle.sl_cube_sets.specs.declared.CubeSet.{CubeSet}
use Rattle.sl_shape.specs.Adding.{IsAdded, IsStop}
use Rattle.sl_shape.specs.Below.{Shows}
use Rattle.sl_shape.specs.Made.{IsMade}
use Rattle.sl_shape.specs.PatternShapes.{Shapes, shape_of}
use Rattle.sl_shape.specs.Stops.{Stops}
use Rattle.sl_shape.specs.Tables.{CtorTells, IfHolds, IfTells, IsError, IsSetAt, ctor_shape, pattern_at}
use Rattle.sl_shape.specs.declared.below.Below.{Below}
use Rattle.sl_shape.specs.declared.below.TokenLists.{TokenLists}
use Rattle.sl_shape.specs.declared.errors.ShapeError.{ShapeError}
use Rattle.sl_shape.specs.declared.errors.ShapeError.TheVariants as error
use Rattle.sl_shape.specs.declared.faults.Fault.{Fault}
use Rattle.sl_shape.specs.declared.stop.Stop.{Stop}
use Rattle.sl_shape.specs.declared.stop.Stop.TheVariants as stop
use Rattle.sl_shape.proofs.BelowLemmas.{gets_same}
use Rattle.sl_shape.proofs.OrderLemmas.{set_here, set_other}
use Rattle.sl_shape_tokens.specs.Lists.{IsThere, seen}
use Rattle.sl_shape_tokens.specs.Shapes.{of_nothing}
use Rattle.sl_shape_tokens.specs.declared.shapes.Shape as code

module _ (b : Below) (cs : List (Placed Constructor)) (shapes : Shapes) (i : ℕ) where
  shape_by : (o : Option Pattern) → pattern_at cs i ≡ o → ctor_shape b.tables.now cs shapes i ≡ unwrap_or (option_and_then (shape_of b.tables.now shapes) o) of_nothing
  shape_by o e = ap (λ o. unwrap_or (option_and_then (shape_of b.tables.now shapes) o) of_nothing) e

  -- there is no such constructor
  pub none_added : (l : TokenLists) (sets : List CubeSet) (s : code.Shape) → pattern_at cs i ≡ None → length cs ≤ i → IsThere l.all s → seen l.all s ≡ of_nothing
      → Shows b l shapes → IsAdded b cs shapes l l sets sets i s
  none_added l sets s e past there is shows = record {
    gets = gets_same b l shapes (ctor_shape b.tables.now cs shapes i) s there (is ∙ sym (shape_by None e)) shows;
    sound = subst (λ (o : Option Pattern). IfTells b.tables.now cs shapes b.hulls.now o None) (sym e) refl;
    set = λ below. absurd (omega (arith, below, past));
    keeps = λ j h. h;
  }

  module _ (p : Pattern) (e : pattern_at cs i ≡ Some p) where
    pub told_at : (x : Stop) → Stops (IfTells b.tables.now cs shapes b.hulls.now (Some p)) x → Stops (CtorTells b.tables.now cs shapes b.hulls.now i) x
    told_at (stop.Fault f) h = subst (λ (o : Option Pattern). IfTells b.tables.now cs shapes b.hulls.now o (Some f)) (sym e) h
    told_at stop.NoMemory h = tt

    pub made_added : (old new : TokenLists) (before after : List CubeSet) (s : code.Shape) (one : CubeSet) → IsMade b shapes old new p s one
        → i < length before → after ≡ set before i one → IsAdded b cs shapes old new before after i s
    made_added old new before after s one made below put =
        let here : slice_get after i ≡ Some one = ap (λ (l : List CubeSet). slice_get l i) put ∙ set_here before i one below in
        let at : IsSetAt b.tables.now cs shapes b.hulls.now after i = record {
          set = one;
          set_is = here;
          union = subst (λ (o : Option Pattern). IsUnionOf (IfHolds b.tables.now cs shapes b.hulls.now o) one.cubes.items) (sym e) made.union;
          few = made.few;
        } in
        record {
          gets = record {
            shows = made.gets.shows;
            keeps = made.gets.keeps;
            there = made.gets.there;
            is = made.gets.is ∙ sym (shape_by (Some p) e ∙ ap (λ o. unwrap_or o of_nothing) made.shape);
          };
          sound = subst (λ (o : Option Pattern). IfTells b.tables.now cs shapes b.hulls.now o None) (sym e) made.sound;
          set = λ low. at;
          keeps = λ j h. elim (cases_eq j i) [
            | inl same ↦ subst (λ (k : ℕ). IsSetAt b.tables.now cs shapes b.hulls.now after k) (sym same) at
            | inr apart ↦ record {
              set = h.set;
              set_is = ap (λ (l : List CubeSet). slice_get l j) put ∙ set_other before i j one apart ∙ h.set_is;
              union = h.union;
              few = h.few;
            }
          ];
        }

  -- the error at a stop
  pub error_at : (x : Stop) (y : ShapeError) → IsStop i x y → Stops (CtorTells b.tables.now cs shapes b.hulls.now i) x
      → IsError (λ j f. (j ≡ i) × CtorTells b.tables.now cs shapes b.hulls.now i (Some f)) y
  error_at (stop.NoMemory) y e h = subst (IsError (λ j f. (j ≡ i) × CtorTells b.tables.now cs shapes b.hulls.now i (Some f))) (sym e) tt
  error_at (stop.Fault f) (error.InteriorEllipsis c) e h = (e.0, subst (λ (g : Fault). CtorTells b.tables.now cs shapes b.hulls.now i (Some g)) (sym e.1) h)
  error_at (stop.Fault f) (error.TokensDiffer c) e h = (e.0, subst (λ (g : Fault). CtorTells b.tables.now cs shapes b.hulls.now i (Some g)) (sym e.1) h)
  error_at (stop.Fault f) (error.Impossible c) e h = (e.0, subst (λ (g : Fault). CtorTells b.tables.now cs shapes b.hulls.now i (Some g)) (sym e.1) h)
  error_at (stop.Fault f) (error.TooManyCubes c n) e h = (e.0, subst (λ (g : Fault). CtorTells b.tables.now cs shapes b.hulls.now i (Some g)) (sym e.1) h)
  error_at (stop.Fault f) (error.WindowTooLong c n) e h = (e.0, subst (λ (g : Fault). CtorTells b.tables.now cs shapes b.hulls.now i (Some g)) (sym e.1) h)
  error_at (stop.Fault f) error.NoMemory e h = tt
