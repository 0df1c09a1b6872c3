-- The bytes that are told of a pattern, by its shape.
use Rattle.std.proofs.Common.{◌≡◌, ℕ, min, List, ap, sym, ◌∙◌, Box}
use Rattle.std.specs.declared.alloc.Global.{Global}
use denote.Ref.{Bor}
use Rattle.sl_ast.specs.Trees.{Pattern}
use Rattle.sl_ast.specs.Views.{pattern_of, pattern_step}
use Rattle.sl_ast.specs.declared.expressions.Expr.{Expr}
use Rattle.sl_ast.specs.declared.patterns.Pattern as p
use Rattle.sl_ast.specs.declared.patterns.Pattern.TheFolds.{fold-roll-Pattern}
use Rattle.sl_ast.specs.declared.patterns.Pattern.TheOpen.{Pattern-F}
use Rattle.sl_ast.specs.declared.patterns.Pattern.TheVariants.{rolls-Name, rolls-Constraint, rolls-Paren, rolls-Ellipsis, rolls-Joined}
use Rattle.sl_ast.specs.declared.patterns.PatternOp.{PatternOp}
use Rattle.sl_ast.specs.declared.patterns.Relation.{Relation}
use Rattle.sl_spec.specs.Named.{named}
use Rattle.sl_spec.specs.Tables.{Operand}
use Rattle.sl_spec.specs.declared.tables.Tables.{Tables}
use Rattle.sl_spec_tables.specs.BlockLengths.{length_bytes, length_step}
use Rattle.sl_spec_tables.specs.Lengths.{field_bytes, joined_bytes, operand_bytes, pattern_bytes}
use Rattle.sl_spec_tables.specs.declared.block_lengths.Length as l
use Rattle.sl_spec_tables.specs.declared.block_lengths.Length.TheFolds.{fold-roll-Length}
use Rattle.sl_spec_tables.specs.declared.block_lengths.Length.TheOpen.{Length-F}
use Rattle.sl_spec_tables.specs.declared.block_lengths.Length.TheVariants.{rolls-Bytes, rolls-Name as rolls-name}

module _ (t : Tables) (f : ℕ → ℕ) (os : List Operand) where
  pub number_bytes : (n : ℕ) → length_bytes t f os (l.Bytes n) ≡ n
  number_bytes n = ap (λ y. length_bytes t f os y) (sym (rolls-Bytes n)) ∙ fold-roll-Length ℕ (length_step t f os) (Length-F.Bytes n)

  name_bytes : (w : Bor (List ℕ)) → length_bytes t f os (l.Name w) ≡ operand_bytes t f (named (λ o. o.name) w.now os)
  name_bytes w = ap (λ y. length_bytes t f os y) (sym (rolls-name w)) ∙ fold-roll-Length ℕ (length_step t f os) (Length-F.Name w)

  pub of_name : (x : p.Pattern) (w : Bor (List ℕ)) → x ≡ p.Name w → min (length_bytes t f os (l.Name w)) 1025 ≡ min (pattern_bytes t f os (pattern_of x)) 1025
  unfolding pattern_bytes
  of_name x w e =
      ap (λ n. min n 1025) (name_bytes w ∙ sym (
      ap (λ y. pattern_bytes t f os (pattern_of y)) e ∙ ap (λ y. pattern_bytes t f os (pattern_of y)) (sym (rolls-Name w))
      ∙ ap (λ (y : Pattern). pattern_bytes t f os y) (fold-roll-Pattern Pattern pattern_step (Pattern-F.Name w))
      ))

  pub of_constraint : (x : p.Pattern) (w : Bor (List ℕ)) (r : Relation) (v : Expr) (k : ℕ) → x ≡ p.Constraint w r v
      → k ≡ field_bytes t (named (λ d. d.name) w.now t.fields) → min (length_bytes t f os (l.Bytes k)) 1025 ≡ min (pattern_bytes t f os (pattern_of x)) 1025
  unfolding pattern_bytes
  of_constraint x w r v k e is =
      ap (λ n. min n 1025) (number_bytes k ∙ is ∙ sym (
      ap (λ y. pattern_bytes t f os (pattern_of y)) e ∙ ap (λ y. pattern_bytes t f os (pattern_of y)) (sym (rolls-Constraint w r v))
      ∙ ap (λ (y : Pattern). pattern_bytes t f os y) (fold-roll-Pattern Pattern pattern_step (Pattern-F.Constraint w r v))
      ))

  pub of_paren : (x inner : p.Pattern) (b : Box p.Pattern Global) → x ≡ p.Paren b → inner ≡ b.value → min (pattern_bytes t f os (pattern_of inner)) 1025 ≡ min (pattern_bytes t f os (pattern_of x)) 1025
  unfolding pattern_bytes
  of_paren x inner b e is =
      ap (λ y. min (pattern_bytes t f os (pattern_of y)) 1025) is ∙ ap (λ n. min n 1025) (sym (
      ap (λ y. pattern_bytes t f os (pattern_of y)) e ∙ ap (λ y. pattern_bytes t f os (pattern_of y)) (sym (rolls-Paren b))
      ∙ ap (λ (y : Pattern). pattern_bytes t f os y) (fold-roll-Pattern Pattern pattern_step (Pattern-F.Paren b))
      ))

  pub of_ellipsis : (x inner : p.Pattern) (b : Box p.Pattern Global) → x ≡ p.Ellipsis b → inner ≡ b.value → min (pattern_bytes t f os (pattern_of inner)) 1025 ≡ min (pattern_bytes t f os (pattern_of x)) 1025
  unfolding pattern_bytes
  of_ellipsis x inner b e is =
      ap (λ y. min (pattern_bytes t f os (pattern_of y)) 1025) is ∙ ap (λ n. min n 1025) (sym (
      ap (λ y. pattern_bytes t f os (pattern_of y)) e ∙ ap (λ y. pattern_bytes t f os (pattern_of y)) (sym (rolls-Ellipsis b))
      ∙ ap (λ (y : Pattern). pattern_bytes t f os y) (fold-roll-Pattern Pattern pattern_step (Pattern-F.Ellipsis b))
      ))

  pub of_joined : (x left right : p.Pattern) (op : PatternOp) (a b : Box p.Pattern Global) → x ≡ p.Joined op a b → left ≡ a.value → right ≡ b.value
      → min (joined_bytes op (pattern_bytes t f os (pattern_of left)) (pattern_bytes t f os (pattern_of right))) 1025 ≡ min (pattern_bytes t f os (pattern_of x)) 1025
  unfolding pattern_bytes
  of_joined x left right op a b e is_left is_right =
      ap (λ y. min (joined_bytes op (pattern_bytes t f os (pattern_of y)) (pattern_bytes t f os (pattern_of right))) 1025) is_left
      ∙ ap (λ y. min (joined_bytes op (pattern_bytes t f os (pattern_of a.value)) (pattern_bytes t f os (pattern_of y))) 1025) is_right
      ∙ ap (λ n. min n 1025) (sym (
      ap (λ y. pattern_bytes t f os (pattern_of y)) e ∙ ap (λ y. pattern_bytes t f os (pattern_of y)) (sym (rolls-Joined op a b))
      ∙ ap (λ (y : Pattern). pattern_bytes t f os y) (fold-roll-Pattern Pattern pattern_step (Pattern-F.Joined op a b))
      ))
