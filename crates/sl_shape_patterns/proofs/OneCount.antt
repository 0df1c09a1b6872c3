-- The count of a pattern is one, and there surely is one.
use Rattle.std.proofs.Common.{◌≡◌, ℕ, Option, Some, None, refl, sym, ◌∙◌}
use Rattle.sl_ast.specs.Trees as t
use Rattle.sl_shape_constraints.specs.Values.{Constraint}
use Rattle.sl_shape_constraints.proofs.OneCount.{count_one}
use Rattle.sl_shape_constraints.proofs.SomeCount.{some_count}
use Rattle.sl_base_surely.specs.Surely.{Surely}
use Rattle.sl_base_surely.proofs.SurelyLemmas.{surely, surely_map, surely_then}
use Rattle.sl_shape_patterns.specs.Counts.{HasPatternCount, IfCount, joined_count}
use Rattle.sl_shape_patterns.specs.Patterns.{constraint_of}
use Rattle.sl_spec.specs.declared.tables.Tables.{Tables}

if_count_one : (c : Option Constraint) (m n : ℕ) → IfCount c m → IfCount c n → m ≡ n
if_count_one None m n a b = a ∙ sym b
if_count_one (Some c) m n a b = count_one c m n a b

some_if_count : (c : Option Constraint) → Surely ((n : ℕ) × IfCount c n)
some_if_count None = surely (1, refl)
some_if_count (Some c) = some_count c

module _ (tables : Tables) where
  pub pattern_count_one : (p : t.Pattern) (m n : ℕ) → HasPatternCount tables p m → HasPatternCount tables p n → m ≡ n
  unfolding HasPatternCount
  pattern_count_one (t.bare name) m n a b = a ∙ sym b
  pattern_count_one (t.constraint name relation e) m n a b = if_count_one (constraint_of tables name relation e) m n a b
  pattern_count_one (t.group p) m n a b = pattern_count_one p m n a b
  pattern_count_one (t.ellipsis p) m n a b = pattern_count_one p m n a b
  pattern_count_one (t.joined op p q) m n a b =
      let left = pattern_count_one p a.0 b.0 a.2 b.2 in
      let right = pattern_count_one q a.1 b.1 a.3 b.3 in
      a.4 ∙ (λ i. joined_count op (left i) (right i)) ∙ sym b.4

  -- The pattern has a count.
  abbrev HasSome : t.Pattern → Type 0
  HasSome p = (n : ℕ) × HasPatternCount tables p n

  pub some_pattern_count : (p : t.Pattern) → Surely (HasSome p)
  unfolding HasPatternCount
  some_pattern_count (t.bare name) = surely (1, refl)
  some_pattern_count (t.constraint name relation e) = some_if_count (constraint_of tables name relation e)
  some_pattern_count (t.group p) = some_pattern_count p
  some_pattern_count (t.ellipsis p) = some_pattern_count p
  some_pattern_count (t.joined op p q) = surely_then {B = HasSome (t.joined op p q)} (some_pattern_count p) (λ left.
      surely_map {B = HasSome (t.joined op p q)} (λ right. (joined_count op left.0 right.0, (left.0, right.0, left.1, right.1, refl))) (some_pattern_count q))
