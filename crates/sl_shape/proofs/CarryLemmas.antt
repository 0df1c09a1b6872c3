-- What is told by the shapes and hulls of the tables below is told by others that agree on them.
use Rattle.std.proofs.Common.{◌≡◌, ℕ, zero, suc, ◌<◌, length, arith, cond, List, [], ◌∷◌, ◌++◌, get_or, map, Option, Some, None, refl, sym, ap, ◌∙◌, subst}
use Rattle.std.specs.List.{AllByRecursion, Any}
use Rattle.std.specs.Prelude.{option_and_then, option_map, unwrap_or, ◌↔◌}
use Rattle.sl_ast.specs.Trees.{Constructor, Name, Pattern, bare, constraint, group, ellipsis, joined}
use Rattle.sl_ast.specs.Unfolding.{Placed}
use Rattle.sl_ast.specs.declared.patterns.PatternOp.{PatternOp}
use Rattle.sl_ast.specs.declared.patterns.PatternOp.TheVariants.{And, Then, Or}
use Rattle.sl_spec_constructors.specs.Operands.{is_epsilon}
use Rattle.sl_cube.specs.Points.{InRange}
use Rattle.sl_cube.specs.declared.Cube.{Cube}
use Rattle.sl_cube.specs.declared.Point.{Point}
use Rattle.sl_shape_patterns.specs.Hulls.{IsHullOrNone}
use Rattle.sl_shape_patterns.specs.Patterns.{hull_at}
use Rattle.sl_shape_patterns.specs.Windows.{PatternConstrains}
use Rattle.sl_shape_patterns.proofs.HullLemmas.{found_same}
use Rattle.sl_shape_patterns.proofs.OneHull.{AreHullsAlike, alike_itself}
use Rattle.sl_cube_sets.specs.declared.CubeSet.{CubeSet}
use Rattle.sl_shape.specs.Extents.{extended_extent, extent, extent_bytes, extent_of, joined_extents}
use Rattle.sl_shape.specs.Faults.{BehindTells, DifferTells, JoinTells, PatternHoldsAt, PatternTells, ShapeTells}
use Rattle.sl_shape.specs.PatternShapes.{Shapes, fixed_bytes, joined_shape, name_shape, pattern_bytes, reading, shape_by, shape_of, table_shape}
use Rattle.sl_shape.specs.Tables.{CtorHolds, CtorTells, IfHolds, IfSetAt, IfTells, IsSetAt, IsTable, constructors_of, ctor_shape, named_by, one_or_none, pattern_at, tables_named}
use Rattle.sl_shape.proofs.AlikeLemmas.{AreAlike, constrains_alike, end_same, holds_alike}
use Rattle.sl_shape_tokens.specs.Shapes.{Shape, extended, of_nothing, of_table}
use Rattle.sl_spec.specs.Named.{index_named, named}
use Rattle.sl_spec.specs.Tables.{Field}
use Rattle.sl_spec.specs.declared.tables.Tables.{Tables}

pub all_left : {X : Type 0} (P : X → Type 0) (xs ys : List X) → AllByRecursion P (xs ++ ys) → AllByRecursion P xs
all_left P [] ys all = tt
all_left P (x ∷ xs) ys all = (all.0, all_left P xs ys all.1)

pub all_right : {X : Type 0} (P : X → Type 0) (xs ys : List X) → AllByRecursion P (xs ++ ys) → AllByRecursion P ys
all_right P [] ys all = all
all_right P (x ∷ xs) ys all = all_right P xs ys all.1

pub all_each : {X : Type 0} (P Q : X → Type 0) → ((x : X) → P x → Q x) → (xs : List X) → AllByRecursion P xs → AllByRecursion Q xs
all_each P Q f [] all = tt
all_each P Q f (x ∷ xs) all = (f x all.0, all_each P Q f xs all.1)

all_at : {X : Type 0} (P : X → Type 0) (xs : List X) → AllByRecursion P xs → (i : ℕ) (x : X) → i < length xs → get_or xs i x ≡ x → P x
all_at P [] all i x below e = absurd (omega arith)
all_at P (y ∷ ys) all zero x below e = subst P e all.0
all_at P (y ∷ ys) all (suc i) x below e = all_at P ys all.1 i x (omega arith) e

pub any_each : {X : Type 0} (P Q : X → Type 0) (xs : List X) → AllByRecursion (λ x. P x → Q x) xs → Any P xs → Any Q xs
any_each P Q xs all w = (w.0, w.1, w.2, w.3, all_at (λ x. P x → Q x) xs all w.0 w.1 w.2 w.3 w.4)

module _ (t : Tables) (s r : Shapes) (h k : List (Option Cube)) where
  -- They agree on a table.
  pub record Agree (table : ℕ) : Type 0 where
    pub shape : get_or s table of_nothing ≡ get_or r table of_nothing
    pub hull : AreHullsAlike (hull_at h table) (hull_at k table)

  same_table : (o : Option ℕ) → AllByRecursion Agree (one_or_none o) → table_shape s o ≡ table_shape r o
  same_table None all = refl
  same_table (Some i) all = all.0.shape

  same_hull : (o : Option ℕ) → AllByRecursion Agree (one_or_none o) → AreHullsAlike (option_and_then (hull_at h) o) (option_and_then (hull_at k) o)
  same_hull None all = alike_itself None
  same_hull (Some i) all = all.0.hull

  same_by : (f : Option Field) (o : Option ℕ) → table_shape s o ≡ table_shape r o → shape_by s f o ≡ shape_by r f o
  same_by None o e = e
  same_by (Some f) o e = refl

  same_name : (name : Name) → AllByRecursion Agree (one_or_none (index_named (λ b. b.name) name t.tables)) → name_shape t s name ≡ name_shape t r name
  same_name name all =
      let o = index_named (λ b. b.name) name t.tables in
      let f = named (λ f. f.name) name t.fields in
      ap (λ x. cond (is_epsilon name) of_nothing x) (same_by f o (same_table o all))

  pub shape_same : (p : Pattern) → AllByRecursion Agree (tables_named t p) → shape_of t s p ≡ shape_of t r p
  unfolding shape_of tables_named
  shape_same (bare name) all = ap (λ x. Some x) (same_name name all)
  shape_same (constraint name relation e) all = ap (λ x. Some x) (same_by (named (λ f. f.name) name t.fields) None refl)
  shape_same (group p) all = shape_same p all
  shape_same (ellipsis p) all = ap (option_map extended) (shape_same p all)
  shape_same (joined op p q) all = λ i. joined_shape op
      (shape_same p (all_left Agree (tables_named t p) (tables_named t q) all) i)
      (shape_same q (all_right Agree (tables_named t p) (tables_named t q) all) i)

  pub bytes_same : (p : Pattern) → AllByRecursion Agree (tables_named t p) → pattern_bytes t s p ≡ pattern_bytes t r p
  bytes_same p all = ap (option_and_then (fixed_bytes t)) (shape_same p all)

  extent_same : (p : Pattern) → AllByRecursion Agree (tables_named t p) → extent_of t s p ≡ extent_of t r p
  unfolding extent_of tables_named
  extent_same (bare name) all = ap (extent t) (same_name name all)
  extent_same (constraint name relation e) all = ap (extent t) (same_by (named (λ f. f.name) name t.fields) None refl)
  extent_same (group p) all = extent_same p all
  extent_same (ellipsis p) all = ap extended_extent (extent_same p all)
  extent_same (joined op p q) all = λ i. joined_extents op
      (extent_same p (all_left Agree (tables_named t p) (tables_named t q) all) i)
      (extent_same q (all_right Agree (tables_named t p) (tables_named t q) all) i)

  -- by any numbers of bytes that are the same where they agree
  module _ (b c : Pattern → Option ℕ) (same : (p : Pattern) → AllByRecursion Agree (tables_named t p) → b p ≡ c p) where
    alike_by : (p : Pattern) → AllByRecursion Agree (tables_named t p) → AreAlike t b c h k p
    unfolding AreAlike tables_named
    alike_by (bare name) all = same_hull (index_named (λ b. b.name) name t.tables) all
    alike_by (constraint name relation e) all = tt
    alike_by (group p) all = alike_by p all
    alike_by (ellipsis p) all = alike_by p all
    alike_by (joined op p q) all =
        let left = all_left Agree (tables_named t p) (tables_named t q) all in
        let right = all_right Agree (tables_named t p) (tables_named t q) all in
        (same p left, alike_by p left, alike_by q right)

  pub alike_same : (p : Pattern) → AllByRecursion Agree (tables_named t p) → AreAlike t (pattern_bytes t s) (pattern_bytes t r) h k p
  alike_same p all = alike_by (pattern_bytes t s) (pattern_bytes t r) bytes_same p all

  pub alike_extents : (p : Pattern) → AllByRecursion Agree (tables_named t p) → AreAlike t (λ q. extent_bytes (extent_of t s q)) (λ q. extent_bytes (extent_of t r q)) h k p
  alike_extents p all = alike_by (λ q. extent_bytes (extent_of t s q)) (λ q. extent_bytes (extent_of t r q)) (λ q named. ap extent_bytes (extent_same q named)) p all

  pub holds_same : (p : Pattern) → AllByRecursion Agree (tables_named t p) → (x : Point) → InRange x → PatternHoldsAt t s h p x ↔ PatternHoldsAt t r k p x
  holds_same p all x range = holds_alike t (pattern_bytes t s) (pattern_bytes t r) h k p (alike_same p all) 0 x range

  behind_same : (o : Option ℕ) (q : Pattern) → AllByRecursion Agree (tables_named t q) → BehindTells t s h o q None → BehindTells t r k o q None
  behind_same (Some n) q all b = b
  behind_same None q all b = λ x range. (holds_same q all x range).0 (b x range)

  pub sound_same : (p : Pattern) → AllByRecursion Agree (tables_named t p) → ShapeTells t s h p None → ShapeTells t r k p None
  unfolding ShapeTells tables_named
  sound_same (bare name) all e = e
  sound_same (constraint name relation x) all e = e
  sound_same (group p) all e = sound_same p all e
  sound_same (ellipsis p) all e = sound_same p all e
  sound_same (joined op p q) all e =
      let left = all_left Agree (tables_named t p) (tables_named t q) all in
      let right = all_right Agree (tables_named t p) (tables_named t q) all in
      (sound_same p left e.0, (sound_same q right e.1.0, join_same op p q (shape_same (joined op p q) all) (bytes_same p left) right e.1.1))
    where
      join_same : (op : PatternOp) (p q : Pattern) → shape_of t s (joined op p q) ≡ shape_of t r (joined op p q) → pattern_bytes t s p ≡ pattern_bytes t r p
          → AllByRecursion Agree (tables_named t q) → JoinTells t s h op p q None → JoinTells t r k op p q None
      join_same And p q shape bytes all j = subst (λ (o : Option Shape). DifferTells o None) shape j
      join_same Or p q shape bytes all j = subst (λ (o : Option Shape). DifferTells o None) shape j
      join_same Then p q shape bytes all j = subst (λ (o : Option ℕ). BehindTells t r k o q None) bytes (behind_same (pattern_bytes t s p) q all j)

  pub tells_same : (p : Pattern) → AllByRecursion Agree (tables_named t p) → PatternTells t s h p None → PatternTells t r k p None
  tells_same p all e =
      let w = e.1.1.0 in
      let x = e.1.1.1 in
      let same = constrains_alike t (pattern_bytes t s) (pattern_bytes t r) h k p (alike_same p all) 0 in (
        e.0,
        (
          sound_same p all e.1.0,
          (
            (w.0, end_same (PatternConstrains (reading t s h) p 0) (PatternConstrains (reading t r k) p 0) same w.0 w.1, w.2),
            (x.0, x.1, (holds_same p all x.0 x.1).0 x.2),
          ),
        ),
      )

  -- ---- constructors and tables

  module _ (cs : List (Placed Constructor)) where
    if_tells : (o : Option Pattern) → AllByRecursion Agree (named_by t o) → IfTells t cs s h o None → IfTells t cs r k o None
    if_tells None all e = e
    if_tells (Some p) all e = tells_same p all e

    pub if_holds : (o : Option Pattern) → AllByRecursion Agree (named_by t o) → (x : Point) → InRange x → IfHolds t cs s h o x ↔ IfHolds t cs r k o x
    if_holds None all x range = (λ w. w, λ w. w)
    if_holds (Some p) all x range = holds_same p all x range

    if_shape : (o : Option Pattern) → AllByRecursion Agree (named_by t o) → unwrap_or (option_and_then (shape_of t s) o) of_nothing ≡ unwrap_or (option_and_then (shape_of t r) o) of_nothing
    if_shape None all = refl
    if_shape (Some p) all = ap (λ o. unwrap_or o of_nothing) (shape_same p all)

    -- They agree on the tables that a constructor names.
    abbrev pub AgreeAt : ℕ → Type 0
    AgreeAt i = AllByRecursion Agree (named_by t (pattern_at cs i))

    pub set_same : (sets : List CubeSet) (i : ℕ) → AgreeAt i → IsSetAt t cs s h sets i → IsSetAt t cs r k sets i
    set_same sets i agree e = record {
      set = e.set;
      set_is = e.set_is;
      few = e.few;
      union = λ x range. (
        λ w. (if_holds (pattern_at cs i) agree x range).0 ((e.union x range).0 w),
        λ w. (e.union x range).1 ((if_holds (pattern_at cs i) agree x range).1 w),
      );
    }

    sets_same : (sets : List CubeSet) (is : List ℕ) → AllByRecursion AgreeAt is → AllByRecursion (IfSetAt t cs s h sets) is → AllByRecursion (IfSetAt t cs r k sets) is
    sets_same sets [] agree all = tt
    sets_same sets (i ∷ is) agree all = (λ below. set_same sets i agree.0 (all.0 below), sets_same sets is agree.1 all.1)

    pub shapes_same : (is : List ℕ) → AllByRecursion AgreeAt is → map (ctor_shape t cs s) is ≡ map (ctor_shape t cs r) is
    shapes_same [] agree = refl
    shapes_same (i ∷ is) agree = λ n. if_shape (pattern_at cs i) agree.0 n ∷ shapes_same is agree.1 n

    pub all_tell : (is : List ℕ) → AllByRecursion AgreeAt is → AllByRecursion (λ i. CtorTells t cs s h i None) is → AllByRecursion (λ i. CtorTells t cs r k i None) is
    all_tell [] agree all = tt
    all_tell (i ∷ is) agree all = (if_tells (pattern_at cs i) agree.0 all.0, all_tell is agree.1 all.1)

    holds_each : (x : Point) → InRange x → (is : List ℕ) → AllByRecursion AgreeAt is
        → AllByRecursion (λ i. CtorHolds t cs s h i x → CtorHolds t cs r k i x) is × AllByRecursion (λ i. CtorHolds t cs r k i x → CtorHolds t cs s h i x) is
    holds_each x range [] agree = (tt, tt)
    holds_each x range (i ∷ is) agree =
        let here = if_holds (pattern_at cs i) agree.0 x range in
        let rest = holds_each x range is agree.1 in
        ((here.0, rest.0), (here.1, rest.1))

    abbrev Has : ℕ → Point → Type 0
    Has table x = Any (λ i. CtorHolds t cs s h i x) (constructors_of t table)

    abbrev Had : ℕ → Point → Type 0
    Had table x = Any (λ i. CtorHolds t cs r k i x) (constructors_of t table)

    pub hull_same : (table : ℕ) → AllByRecursion AgreeAt (constructors_of t table) → (found : Option Cube) → IsHullOrNone (Has table) found → IsHullOrNone (Had table) found
    hull_same table agree found is = found_same (Has table) (Had table) found
        (λ x range w. any_each (λ i. CtorHolds t cs s h i x) (λ i. CtorHolds t cs r k i x) (constructors_of t table) (holds_each x range (constructors_of t table) agree).0 w)
        (λ x range w. any_each (λ i. CtorHolds t cs r k i x) (λ i. CtorHolds t cs s h i x) (constructors_of t table) (holds_each x range (constructors_of t table) agree).1 w) is

    pub table_carried : (table : ℕ) → AllByRecursion AgreeAt (constructors_of t table) → get_or s table of_nothing ≡ get_or r table of_nothing
        → hull_at h table ≡ hull_at k table → IsTable t cs s h table → IsTable t cs r k table
    table_carried table agree shape hull is = record {
      shape = sym shape ∙ is.shape ∙ ap of_table (shapes_same (constructors_of t table) agree);
      hull = subst (λ (o : Option Cube). IsHullOrNone (Had table) o) hull (hull_same table agree (hull_at h table) is.hull);
      sound = all_tell (constructors_of t table) agree is.sound;
    }

    pub sets_carried : (sets : List CubeSet) (table : ℕ) → AllByRecursion AgreeAt (constructors_of t table)
        → AllByRecursion (IfSetAt t cs s h sets) (constructors_of t table) → AllByRecursion (IfSetAt t cs r k sets) (constructors_of t table)
    sets_carried sets table agree all = sets_same sets (constructors_of t table) agree all
