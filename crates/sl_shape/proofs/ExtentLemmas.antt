-- Extents of the leaves of patterns, and of one level of a pattern.
use Rattle.std.proofs.Common.{◌≡◌, ◌≤◌, length, arith, ℕ, zero, suc, List, [], ◌∷◌, get_or, map, None, refl}
use Rattle.std.specs.Prelude.{slice_get}
use Rattle.sl_ast.specs.Trees as t
use Rattle.sl_ast.specs.declared.patterns.Relation.{Relation}
use Rattle.sl_ast.specs.declared.patterns.PatternOp.{PatternOp}
use Rattle.sl_shape.specs.Extents.{extended_extent, extent, extent_of, joined_extents, kept}
use Rattle.sl_shape.specs.PatternShapes.{name_shape, shape_by}
use Rattle.sl_shape.specs.declared.extent.Extent as code
use Rattle.sl_shape_tokens.specs.Shapes.{Shape}
use Rattle.sl_spec.specs.Named.{named}
use Rattle.sl_spec.specs.declared.tables.Tables.{Tables}

pub past_end : {A B : Type 0} (f : A → B) (xs : List A) (i : ℕ) (d : B) → slice_get xs i ≡ None → d ≡ get_or (map f xs) i d
past_end f [] i d e = refl
past_end f (x ∷ xs) zero d e = absurd cc
past_end f (x ∷ xs) (suc i) d e = past_end f xs i d e

pub past_all : {A B : Type 0} (f : A → B) (xs : List A) (i : ℕ) (d : B) → length xs ≤ i → d ≡ get_or (map f xs) i d
past_all f [] i d e = refl
past_all f (x ∷ xs) zero d e = absurd (omega arith)
past_all f (x ∷ xs) (suc i) d e = past_all f xs i d (omega arith)

module _ (d : Tables) (shapes : List Shape) where
  pub level_name : (name : t.Name) (e : code.Extent) → e ≡ kept (extent d (name_shape d shapes name))
      → e ≡ kept (extent_of d shapes (t.bare name))
  unfolding extent_of
  level_name name e is = is

  pub level_constraint : (name : t.Name) (r : Relation) (x : t.Expression) (e : code.Extent)
      → e ≡ kept (extent d (shape_by shapes (named (λ f. f.name) name d.fields) None)) → e ≡ kept (extent_of d shapes (t.constraint name r x))
  unfolding extent_of
  level_constraint name r x e is = is

  pub level_group : (p : t.Pattern) (e : code.Extent) → e ≡ kept (extent_of d shapes p) → e ≡ kept (extent_of d shapes (t.group p))
  unfolding extent_of
  level_group p e is = is

  pub level_ellipsis : (p : t.Pattern) (e : code.Extent) → e ≡ kept (extended_extent (extent_of d shapes p)) → e ≡ kept (extent_of d shapes (t.ellipsis p))
  unfolding extent_of
  level_ellipsis p e is = is

  pub level_joined : (op : PatternOp) (p q : t.Pattern) (e : code.Extent) → e ≡ kept (joined_extents op (extent_of d shapes p) (extent_of d shapes q))
      → e ≡ kept (extent_of d shapes (t.joined op p q))
  unfolding extent_of
  level_joined op p q e is = is
