-- The count of a pattern from those of its parts.
use Rattle.std.proofs.Common.{◌≡◌, ℕ, ◌*◌, ◌≤◌, List, length, refl, arith}
use Rattle.std.proofs.Math.Nat.{le_trans, mul-le-mul_left, mul-le-mul_right}
use Rattle.sl_ast.specs.Trees as t
use Rattle.sl_ast.specs.declared.patterns.Relation.{Relation}
use Rattle.sl_ast.specs.declared.patterns.PatternOp.{PatternOp}
use Rattle.sl_ast.specs.declared.patterns.PatternOp.TheVariants.{And, Then, Or}
use Rattle.sl_cube.specs.declared.Cube.{Cube}
use Rattle.sl_shape_patterns.specs.Counts.{FitCount, HasPatternCount, IfCount, IsTold, joined_count}
use Rattle.sl_shape_patterns.specs.Patterns.{constraint_of, told}
use Rattle.sl_spec.specs.declared.tables.Tables.{Tables}

one_product : (a b : ℕ) → 1 ≤ a → 1 ≤ b → 1 ≤ a * b
one_product a b x y = grind arith

-- a number below a product, below the product of what is no less
pub few_product : (n l r a b : ℕ) → n ≤ l * r → l ≤ a → r ≤ b → n ≤ a * b
few_product n l r a b few u v = le_trans few (le_trans (mul-le-mul_right r u) (mul-le-mul_left a v))

one_joined : (op : PatternOp) (a b : ℕ) → 1 ≤ a → 1 ≤ b → 1 ≤ joined_count op a b
one_joined And a b x y = one_product a b x y
one_joined Then a b x y = one_product a b x y
one_joined Or a b x y = omega arith

module _ (tables : Tables) where
  pub count_name : (name : t.Name) → IsTold (HasPatternCount tables (t.bare name)) 1
  unfolding HasPatternCount
  count_name name = (1, refl, omega arith, refl)

  pub count_constraint : (name : t.Name) (r : Relation) (e : t.Expression) (n : ℕ) → IsTold (IfCount (constraint_of tables name r e)) n
      → IsTold (HasPatternCount tables (t.constraint name r e)) n
  unfolding HasPatternCount
  count_constraint name r e n h = h

  pub count_group : (x : t.Pattern) (n : ℕ) → IsTold (HasPatternCount tables x) n → IsTold (HasPatternCount tables (t.group x)) n
  unfolding HasPatternCount
  count_group x n h = h

  pub count_ellipsis : (x : t.Pattern) (n : ℕ) → IsTold (HasPatternCount tables x) n → IsTold (HasPatternCount tables (t.ellipsis x)) n
  unfolding HasPatternCount
  count_ellipsis x n h = h

  pub count_joined : (op : PatternOp) (x y : t.Pattern) (m k n : ℕ) → IsTold (HasPatternCount tables x) m → IsTold (HasPatternCount tables y) k
      → ((a b : ℕ) → 1 ≤ a → 1 ≤ b → m ≡ told a → k ≡ told b → n ≡ told (joined_count op a b)) → IsTold (HasPatternCount tables (t.joined op x y)) n
  unfolding HasPatternCount
  count_joined op x y m k n u v h =
      (joined_count op u.0 v.0, (u.0, v.0, u.1, v.1, refl), one_joined op u.0 v.0 u.2 v.2, h u.0 v.0 u.2 v.2 u.3 v.3)

  pub count_in_block : (x y : t.Pattern) (m k n : ℕ) → IsTold (HasPatternCount tables x) m → IsTold (HasPatternCount tables y) k
      → ((a b : ℕ) → 1 ≤ a → 1 ≤ b → m ≡ told a → k ≡ told b → n ≡ told (joined_count And a b))
      → IsTold (HasPatternCount tables (t.joined And (t.group x) (t.group y))) n
  count_in_block x y m k n u v h = count_joined And (t.group x) (t.group y) m k n (count_group x m u) (count_group y k v) h

  -- ---- cubes that are no more than the count

  pub few_name : (name : t.Name) (cubes : List Cube) → length cubes ≤ 1 → FitCount tables (t.bare name) cubes
  unfolding HasPatternCount
  few_name name cubes few n is = omega (arith, few, is)

  pub few_constraint : (name : t.Name) (r : Relation) (e : t.Expression) (cubes : List Cube)
      → ((n : ℕ) → IfCount (constraint_of tables name r e) n → length cubes ≤ n) → FitCount tables (t.constraint name r e) cubes
  unfolding HasPatternCount
  few_constraint name r e cubes few = few

  pub few_group : (x : t.Pattern) (cubes : List Cube) → FitCount tables x cubes → FitCount tables (t.group x) cubes
  unfolding HasPatternCount
  few_group x cubes few = few

  pub few_ellipsis : (x : t.Pattern) (cubes : List Cube) → FitCount tables x cubes → FitCount tables (t.ellipsis x) cubes
  unfolding HasPatternCount
  few_ellipsis x cubes few = few

  pub few_joined : (op : PatternOp) (x y : t.Pattern) (cubes left right : List Cube) → FitCount tables x left → FitCount tables y right
      → ((a b : ℕ) → length left ≤ a → length right ≤ b → length cubes ≤ joined_count op a b) → FitCount tables (t.joined op x y) cubes
  unfolding HasPatternCount
  few_joined op x y cubes left right u v few n h =
      let most = few h.0 h.1 (u h.0 h.2) (v h.1 h.3) in
      omega (arith, most, h.4)

  pub few_in_block : (x y : t.Pattern) (cubes left right : List Cube) → FitCount tables x left → FitCount tables y right
      → length cubes ≤ length left * length right → FitCount tables (t.joined And (t.group x) (t.group y)) cubes
  few_in_block x y cubes left right u v few = few_joined And (t.group x) (t.group y) cubes left right (few_group x left u) (few_group y right v)
      (λ a b l r. few_product (length cubes) (length left) (length right) a b few l r)
