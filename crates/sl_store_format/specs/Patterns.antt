-- law: the reader of bit patterns.
use Rattle.std.specs.Prelude.{◌≤◌, ℕ, zero, suc, ◌-◌, Bool, true, false, ◌&&◌, nat_le, []}
use Rattle.sl_ast.specs.Operators.{in_constraint, pattern_rank, pattern_right_rank, pattern_loosest, loosest}
use Rattle.sl_ast.specs.Trees.{Pattern, bare, constraint, group, ellipsis, joined}
use Rattle.sl_ast.specs.Validity.{PatternBinds, pattern_weight, heaviest}
use Rattle.sl_ast.specs.declared.patterns.PatternOp.{PatternOp}
use Rattle.sl_ast.specs.declared.patterns.PatternOp.TheVariants as j
use Rattle.sl_store_format.specs.Expressions.{expression}
use Rattle.sl_store_format.specs.Forms.{pattern_forms}
use Rattle.sl_store_format.specs.PatternBytes.{PatternLeaves}
use Rattle.sl_store_format.specs.declared.forms.PatternForm.{PatternForm}
use Rattle.sl_store_format.specs.declared.forms.PatternForm.TheVariants as x
use Rattle.sl_store_bytes.specs.Orders.{relations}
use Rattle.sl_store_bytes.specs.Reader.{Reader, ◌>>=◌, pure}
use Rattle.sl_store_bytes.specs.Tables.{coded, coded_if}
use Rattle.sl_store_bytes.specs.Words.{name}

-- ---- the reader of a pattern of a rank, with room for so many operators and brackets

abbrev pub pattern_fits : ℕ → ℕ → PatternForm → Bool
pattern_fits room n x.Name = true
pattern_fits room n x.And = nat_le 1 room && nat_le 1 n
pattern_fits room n x.Then = nat_le 1 room && nat_le 2 n
pattern_fits room n x.Or = nat_le 1 room && nat_le 3 n
pattern_fits room n form = nat_le 1 room

-- what `...` may follow
abbrev pub ellipsis_fits : ℕ → PatternForm → Bool
ellipsis_fits room x.Name = true
ellipsis_fits room x.Constraint = nat_le 1 room
ellipsis_fits room x.Paren = nat_le 1 room
ellipsis_fits room form = false

module _ (depth : ℕ) (inner : ℕ → ℕ → Reader Pattern) where
  unfoldable pub constrained : ℕ → Reader Pattern
  constrained room = name >>= (λ w. coded relations >>= (λ rel. expression in_constraint depth (room - 1) loosest >>= (λ e. pure (constraint w rel e))))

  unfoldable pub grouped : ℕ → Reader Pattern
  grouped room = inner (room - 1) pattern_loosest >>= (λ p. pure (group p))

  abbrev pub simple_pattern : ℕ → PatternForm → Reader Pattern
  simple_pattern room x.Name = name >>= (λ w. pure (bare w))
  simple_pattern room x.Constraint = constrained room
  simple_pattern room form = grouped room

  unfoldable pub before_ellipsis : ℕ → Reader Pattern
  before_ellipsis room = coded_if (ellipsis_fits room) pattern_forms >>= (λ form. simple_pattern room form)

  unfoldable pub with_ellipsis : ℕ → Reader Pattern
  with_ellipsis room = before_ellipsis (room - 1) >>= (λ p. pure (ellipsis p))

  unfoldable pub both_patterns : PatternOp → ℕ → Reader Pattern
  both_patterns op room =
      inner (room - 1) (suc (pattern_right_rank op)) >>= (λ p. inner (room - 1 - pattern_weight p) (pattern_right_rank op) >>= (λ q. pure (joined op p q)))

  abbrev pub pattern_by : ℕ → PatternForm → Reader Pattern
  pattern_by room x.Ellipsis = with_ellipsis room
  pattern_by room x.And = both_patterns j.And room
  pattern_by room x.Then = both_patterns j.Then room
  pattern_by room x.Or = both_patterns j.Or room
  pattern_by room form = simple_pattern room form

-- a pattern with patterns inside one another fewer than `depth` times
unfoldable pub pattern : ℕ → ℕ → ℕ → Reader Pattern
pattern zero room n = coded_if (λ form. false) pattern_forms >>= (λ form. pure (bare []))
pattern (suc depth) room n = coded_if (pattern_fits room n) pattern_forms >>= (λ form. pattern_by depth (pattern depth) room form)

-- a pattern of a rank that has its room
pub record PatternFits (room n : ℕ) (p : Pattern) : Type 0 where
  pub binds : PatternBinds p
  pub leaves : PatternLeaves p
  pub low : pattern_rank p ≤ n
  pub few : pattern_weight p ≤ room

-- a whole pattern
abbrev pub whole_pattern : Reader Pattern
whole_pattern = pattern (suc heaviest) heaviest pattern_loosest
