-- step: sets of constructors as they are put.
use Rattle.std.specs.Prelude.{◌≡◌, ℕ, List, ◌∷◌, ◌++◌, Some, None, map}
use Rattle.std.specs.List.{AllByRecursion}
use Rattle.sl_ast.specs.Trees.{Constructor}
use Rattle.sl_ast.specs.Unfolding.{Placed}
use Rattle.sl_cube_sets.specs.declared.CubeSet.{CubeSet}
use Rattle.sl_shape.specs.Below.{Gets, Shows}
use Rattle.sl_shape.specs.PatternShapes.{Shapes}
use Rattle.sl_shape.specs.Tables.{CtorTells, IfSetAt, IsError, IsSetAt, ctor_shape}
use Rattle.sl_shape.specs.declared.below.Below.{Below}
use Rattle.sl_shape.specs.declared.below.TokenLists.{TokenLists}
use Rattle.sl_shape.specs.declared.errors.ShapeError.{ShapeError}
use Rattle.sl_shape.specs.declared.errors.ShapeError.TheVariants as error
use Rattle.sl_shape.specs.declared.faults.Fault.{Fault}
use Rattle.sl_shape.specs.declared.stop.Stop.{Stop}
use Rattle.sl_shape.specs.declared.stop.Stop.TheVariants as stop
use Rattle.sl_shape_tokens.specs.Lists.{IsThere, Keeps, seen}
use Rattle.sl_shape_tokens.specs.declared.shapes.Shape as code

-- The error tells the stop at this constructor.
abbrev pub IsStop : ℕ → Stop → ShapeError → Type 0
IsStop ctor (stop.Fault f) e = IsError (λ i g. (i ≡ ctor) × (g ≡ f)) e
IsStop ctor stop.NoMemory e = e ≡ error.NoMemory

module _ (b : Below) (cs : List (Placed Constructor)) (shapes : Shapes) where
  -- A set that is there as a constructor's stays one.
  abbrev pub KeepSets : List CubeSet → List CubeSet → Type 0
  KeepSets old new = (i : ℕ) → IsSetAt b.tables.now cs shapes b.hulls.now old i → IsSetAt b.tables.now cs shapes b.hulls.now new i

  -- The constructor has no fault, and its set is there.
  pub record IsAdded (old new : TokenLists) (before after : List CubeSet) (i : ℕ) (s : code.Shape) : Type 0 where
    pub gets : Gets b shapes old new (ctor_shape b.tables.now cs shapes i) s
    pub sound : CtorTells b.tables.now cs shapes b.hulls.now i None
    pub set : IfSetAt b.tables.now cs shapes b.hulls.now after i
    pub keeps : KeepSets before after

  -- None of the constructors has a fault, and their sets are there.
  pub record AreAdded (old new : TokenLists) (before after : List CubeSet) (is : List ℕ) (found : List code.Shape) : Type 0 where
    pub shows : Shows b new shapes
    pub lists : Keeps old.all new.all
    pub there : AllByRecursion (IsThere new.all) found
    pub found_are : map (seen new.all) found ≡ map (ctor_shape b.tables.now cs shapes) is
    pub sound : AllByRecursion (λ i. CtorTells b.tables.now cs shapes b.hulls.now i None) is
    pub have_sets : AllByRecursion (IfSetAt b.tables.now cs shapes b.hulls.now after) is
    pub keeps : KeepSets before after

  -- It is the first of the constructors with a fault.
  pub record IsFirstIn (is : List ℕ) (ctor : ℕ) (f : Fault) : Type 0 where
    pub earlier : List ℕ
    pub later : List ℕ
    pub numbers_are : is ≡ earlier ++ ctor ∷ later
    pub sound : AllByRecursion (λ i. CtorTells b.tables.now cs shapes b.hulls.now i None) earlier
    pub tells : CtorTells b.tables.now cs shapes b.hulls.now ctor (Some f)
