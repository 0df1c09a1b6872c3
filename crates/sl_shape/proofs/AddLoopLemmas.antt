-- The sets of several constructors, one after another.
use Rattle.std.proofs.Common.{◌≡◌, ℕ, ◌+◌, ◌<◌, ◌≤◌, length, List, [], ◌∷◌, ◌++◌, get_or, map, take, drop, Some, None, sym, ap, ◌∙◌, subst}
use Rattle.std.proofs.lemmas.List.{drop_more, map_push, take-append-drop, take_all, take_more}
use Rattle.std.specs.List.{AllByRecursion}
use Rattle.sl_ast.specs.Trees.{Constructor}
use Rattle.sl_ast.specs.Unfolding.{Placed}
use Rattle.sl_cube_sets.specs.declared.CubeSet.{CubeSet}
use Rattle.sl_shape.specs.Adding.{AreAdded, IsAdded, IsFirstIn}
use Rattle.sl_shape.specs.PatternShapes.{Shapes}
use Rattle.sl_shape.specs.Tables.{CtorTells, IfSetAt, IsError, ctor_shape}
use Rattle.sl_shape.specs.declared.below.Below.{Below}
use Rattle.sl_shape.specs.declared.below.TokenLists.{TokenLists}
use Rattle.sl_shape.specs.declared.errors.ShapeError.{ShapeError}
use Rattle.sl_shape.specs.declared.errors.ShapeError.TheVariants as error
use Rattle.sl_shape.specs.declared.faults.Fault.{Fault}
use Rattle.sl_shape.proofs.BelowLemmas.{all_seen, all_there}
use Rattle.sl_shape.proofs.CarryLemmas.{all_each}
use Rattle.sl_shape_tokens.proofs.ListLemmas.{keeps_more}
use Rattle.sl_shape_tokens.specs.Lists.{IsThere, seen}
use Rattle.sl_shape_tokens.specs.declared.shapes.Shape as code
use Rattle.sl_spec.proofs.KeyedLemmas.{all_push}

pub error_map : (P Q : ℕ → Fault → Type 0) → ((i : ℕ) (f : Fault) → P i f → Q i f) → (e : ShapeError) → IsError P e → IsError Q e
error_map P Q to (error.InteriorEllipsis i) h = to i _ h
error_map P Q to (error.TokensDiffer i) h = to i _ h
error_map P Q to (error.Impossible i) h = to i _ h
error_map P Q to (error.TooManyCubes i n) h = to i _ h
error_map P Q to (error.WindowTooLong i n) h = to i _ h
error_map P Q to error.NoMemory h = tt

module _ (b : Below) (cs : List (Placed Constructor)) (shapes : Shapes) where
  abbrev Sound : ℕ → Type 0
  Sound i = CtorTells b.tables.now cs shapes b.hulls.now i None

  module _ (start mid : TokenLists) (first before : List CubeSet) (is : List ℕ) (i ctor : ℕ) (found : List code.Shape)
      (below : i < length is) (at : ctor ≡ get_or is i ctor) (added : AreAdded b cs shapes start mid first before (take i is) found) where
    more : take (i + 1) is ≡ take i is ++ ctor ∷ []
    more = take_more is i ctor below ∙ ap (λ n. take i is ++ n ∷ []) (sym at)

    pub added_more : (new : TokenLists) (after : List CubeSet) (s : code.Shape) → IsAdded b cs shapes mid new before after ctor s
        → AreAdded b cs shapes start new first after (take (i + 1) is) (found ++ s ∷ [])
    added_more new after s one = record {
      shows = one.gets.shows;
      lists = keeps_more start.all mid.all new.all added.lists one.gets.keeps;
      there = all_push (IsThere new.all) found s (all_there mid.all new.all one.gets.keeps found added.there) one.gets.there;
      found_are =
          map_push (seen new.all) found s
          ∙ (λ k. (all_seen mid.all new.all one.gets.keeps found added.there ∙ added.found_are) k ++ one.gets.is k ∷ [])
          ∙ sym (ap (map (ctor_shape b.tables.now cs shapes)) more ∙ map_push (ctor_shape b.tables.now cs shapes) (take i is) ctor);
      sound = subst (λ (l : List ℕ). AllByRecursion Sound l) (sym more) (all_push Sound (take i is) ctor added.sound one.sound);
      have_sets = subst (λ (l : List ℕ). AllByRecursion (IfSetAt b.tables.now cs shapes b.hulls.now after) l) (sym more)
          (all_push (IfSetAt b.tables.now cs shapes b.hulls.now after) (take i is) ctor
          (all_each (IfSetAt b.tables.now cs shapes b.hulls.now before) (IfSetAt b.tables.now cs shapes b.hulls.now after) (λ j h low. one.keeps j (h low)) (take i is) added.have_sets)
          one.set);
      keeps = λ j h. one.keeps j (added.keeps j h);
    }

    pub first_found : (e : ShapeError) → IsError (λ j f. (j ≡ ctor) × CtorTells b.tables.now cs shapes b.hulls.now ctor (Some f)) e → IsError (IsFirstIn b cs shapes is) e
    first_found e h = error_map (λ j f. (j ≡ ctor) × CtorTells b.tables.now cs shapes b.hulls.now ctor (Some f)) (IsFirstIn b cs shapes is) (λ j f t. record {
      earlier = take i is;
      later = drop (i + 1) is;
      numbers_are = sym (take-append-drop i is) ∙ ap (λ (l : List ℕ). take i is ++ l) (drop_more is i ctor below ∙ (λ k. (sym at ∙ sym t.0) k ∷ drop (i + 1) is));
      sound = added.sound;
      tells = subst (λ (n : ℕ). CtorTells b.tables.now cs shapes b.hulls.now n (Some f)) (sym t.0) t.1;
    }) e h

  pub all_added : (start new : TokenLists) (first after : List CubeSet) (is : List ℕ) (i : ℕ) (found : List code.Shape) → length is ≤ i
      → AreAdded b cs shapes start new first after (take i is) found → AreAdded b cs shapes start new first after is found
  all_added start new first after is i found end added = subst (λ (l : List ℕ). AreAdded b cs shapes start new first after l found) (take_all i is end) added
