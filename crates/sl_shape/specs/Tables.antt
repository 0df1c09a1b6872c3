-- meaning: the shapes, the sets and the hulls of tables, and the first constructor with a fault.
use Rattle.std.specs.Prelude.{◌≡◌, ℕ, suc, ◌<◌, ◌≤◌, ◌==◌, Bool, false, if◌then◌else◌}
use Rattle.std.specs.Prelude.{List, [], ◌∷◌, ◌++◌, get_or, map, length}
use Rattle.std.specs.Prelude.{Option, Some, None, option_and_then, option_map, slice_get, unwrap_or}
use Rattle.std.specs.List.{AllByRecursion, Any}
use Rattle.sl_ast.specs.Trees.{Constructor, Pattern, bare, constraint, group, ellipsis, joined}
use Rattle.sl_ast.specs.Unfolding.{Placed}
use Rattle.sl_shape_constraints.specs.Sets.{IsUnionOf}
use Rattle.sl_cube.specs.declared.Cube.{Cube}
use Rattle.sl_cube.specs.declared.Point.{Point}
use Rattle.sl_base_graphs.specs.Heights.{AreHeights, by_height}
use Rattle.sl_base_graphs.specs.Reaching.{Graph}
use Rattle.sl_shape_patterns.specs.Hulls.{IsHullOrNone}
use Rattle.sl_shape_patterns.specs.Patterns.{hull_at}
use Rattle.sl_spec_rules.specs.Gathered.{gathered}
use Rattle.sl_cube_sets.specs.declared.CubeSet.{CubeSet}
use Rattle.sl_shape.specs.Faults.{PatternHoldsAt, PatternTells, most_cubes}
use Rattle.sl_shape.specs.PatternShapes.{Shapes, shape_of}
use Rattle.sl_shape.specs.declared.errors.ShapeError.{ShapeError}
use Rattle.sl_shape.specs.declared.errors.ShapeError.TheVariants as error
use Rattle.sl_shape.specs.declared.faults.Fault.{Fault}
use Rattle.sl_shape.specs.declared.faults.Fault.TheVariants as fault
use Rattle.sl_shape_tokens.specs.Shapes.{Shape, of_nothing, of_table}
use Rattle.sl_spec.specs.Named.{index_named}
use Rattle.sl_spec.specs.Tables.{Ctor, Table}
use Rattle.sl_spec.specs.declared.tables.Tables.{Tables}

-- ---- what tables name

abbrev pub numbers : Option Table → List ℕ
numbers None = []
numbers (Some b) = b.constructors

-- the constructors of a table, by their numbers
abbrev pub constructors_of : Tables → ℕ → List ℕ
constructors_of t table = numbers (slice_get t.tables table)

-- the pattern of a constructor
abbrev pub pattern_at : List (Placed Constructor) → ℕ → Option Pattern
pattern_at cs i = option_map (λ c. c.1.pattern) (slice_get cs i)

abbrev pub one_or_none : Option ℕ → List ℕ
one_or_none None = []
one_or_none (Some table) = table ∷ []

-- the tables that a pattern names
unfoldable pub tables_named : Tables → Pattern → List ℕ
tables_named t (bare name) = one_or_none (index_named (λ b. b.name) name t.tables)
tables_named t (constraint name relation e) = []
tables_named t (group p) = tables_named t p
tables_named t (ellipsis p) = tables_named t p
tables_named t (joined op p q) = tables_named t p ++ tables_named t q

abbrev pub named_by : Tables → Option Pattern → List ℕ
named_by t None = []
named_by t (Some p) = tables_named t p

-- for each table the tables that the patterns of its constructors name
abbrev pub table_graph : Tables → List (Placed Constructor) → Graph
table_graph t cs = map (λ b. gathered (λ i. named_by t (pattern_at cs i)) b.constructors) t.tables

-- ---- the order of tables

abbrev pub begins : List ℕ → ℕ → Bool
begins [] n = false
begins (i ∷ is) n = i == n

-- the tables of the constructors from number n on, each at its first constructor
abbrev pub appearing_from : Tables → ℕ → List Ctor → List ℕ
appearing_from t n [] = []
appearing_from t n (c ∷ cs) = if begins (constructors_of t c.table) n
    then c.table ∷ appearing_from t (suc n) cs
    else appearing_from t (suc n) cs

-- the tables in the order of the text: each appears with its first constructor
abbrev pub appearing : Tables → List ℕ
appearing t = appearing_from t 0 t.constructors

-- the tables by their heights, and those of one height in the order of the text
abbrev pub order_by : Tables → List ℕ → List ℕ
order_by t heights = by_height (λ v. get_or heights v 0) (appearing t)

-- ---- tables

-- the shape of a constructor
abbrev pub ctor_shape : Tables → List (Placed Constructor) → Shapes → ℕ → Shape
ctor_shape t cs shapes i =
    unwrap_or (option_and_then (shape_of t shapes) (pattern_at cs i)) of_nothing

module _ (t : Tables) (cs : List (Placed Constructor)) (shapes : Shapes)
    (hulls : List (Option Cube)) where
  abbrev pub IfTells : Option Pattern → Option Fault → Type 0
  IfTells None found = found ≡ None
  IfTells (Some p) found = PatternTells t shapes hulls p found

  -- the first fault of a constructor
  abbrev pub CtorTells : ℕ → Option Fault → Type 0
  CtorTells i found = IfTells (pattern_at cs i) found

  abbrev pub IfHolds : Option Pattern → Point → Type 0
  IfHolds None x = ⊥
  IfHolds (Some p) x = PatternHoldsAt t shapes hulls p x

  -- A constructor has the point.
  abbrev pub CtorHolds : ℕ → Point → Type 0
  CtorHolds i x = IfHolds (pattern_at cs i) x

  -- The shape and the hull of the table are known, and its constructors have no fault.
  pub record IsTable (table : ℕ) : Type 0 where
    pub shape : get_or shapes table of_nothing
        ≡ of_table (map (ctor_shape t cs shapes) (constructors_of t table))
    pub hull : IsHullOrNone (λ x. Any (λ i. CtorHolds i x) (constructors_of t table))
        (hull_at hulls table)
    pub sound : AllByRecursion (λ i. CtorTells i None) (constructors_of t table)

  -- The set of the constructor is the points at which its pattern holds, as at most 1,024 cubes.
  pub record IsSetAt (sets : List CubeSet) (i : ℕ) : Type 0 where
    pub set : CubeSet
    pub set_is : slice_get sets i ≡ Some set
    pub union : IsUnionOf (CtorHolds i) set.cubes.items
    pub few : length set.cubes.items ≤ most_cubes

  -- If there is such a constructor, its set is there.
  abbrev pub IfSetAt : List CubeSet → ℕ → Type 0
  IfSetAt sets i = i < length cs → IsSetAt sets i

  -- Each constructor of the table has its set.
  abbrev pub HasSets : List CubeSet → ℕ → Type 0
  HasSets sets table = AllByRecursion (IfSetAt sets) (constructors_of t table)

-- ---- the whole

-- The constructors' sets and the tables' hulls, where none has a fault.
pub record AreShaped (t : Tables) (cs : List (Placed Constructor)) (sets : List CubeSet)
    (hulls : List (Option Cube)) : Type 0 where
  pub heights : List ℕ
  pub are_heights : AreHeights (table_graph t cs) heights
  pub shapes : Shapes
  pub tables : AllByRecursion (IsTable t cs shapes hulls) (order_by t heights)
  pub have_sets : AllByRecursion (HasSets t cs shapes hulls sets) (order_by t heights)

-- The first constructor with a fault, where tables are taken in this order: those of the tables
-- before its own have none, nor have those before it in its table.
pub record IsFirstAmong (t : Tables) (cs : List (Placed Constructor)) (order : List ℕ)
    (ctor : ℕ) (f : Fault) : Type 0 where
  pub before : List ℕ
  pub table : ℕ
  pub after : List ℕ
  pub order_is : order ≡ before ++ table ∷ after
  pub shapes : Shapes
  pub hulls : List (Option Cube)
  pub tables : AllByRecursion (IsTable t cs shapes hulls) before
  pub earlier : List ℕ
  pub later : List ℕ
  pub numbers_are : constructors_of t table ≡ earlier ++ ctor ∷ later
  pub sound : AllByRecursion (λ i. CtorTells t cs shapes hulls i None) earlier
  pub tells : CtorTells t cs shapes hulls ctor (Some f)

-- The first constructor with a fault, tables being taken by their heights.
pub record IsFirstFault (t : Tables) (cs : List (Placed Constructor))
    (ctor : ℕ) (f : Fault) : Type 0 where
  pub heights : List ℕ
  pub are_heights : AreHeights (table_graph t cs) heights
  pub first : IsFirstAmong t cs (order_by t heights) ctor f

-- what an error tells; want of memory is free
abbrev pub IsError : (ℕ → Fault → Type 0) → ShapeError → Type 0
IsError Told (error.InteriorEllipsis ctor) = Told ctor fault.InteriorEllipsis
IsError Told (error.TokensDiffer ctor) = Told ctor fault.TokensDiffer
IsError Told (error.Impossible ctor) = Told ctor fault.Impossible
IsError Told (error.TooManyCubes ctor n) = Told ctor (fault.TooManyCubes n)
IsError Told (error.WindowTooLong ctor n) = Told ctor (fault.WindowTooLong n)
IsError Told error.NoMemory = Unit {0}
