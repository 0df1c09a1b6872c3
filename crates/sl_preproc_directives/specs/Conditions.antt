-- meaning: conditions: how they are read, and what they say of the definitions in force. That a condition is malformed depends on
-- its bytes alone; what it says is put together from what its parts say.
use Rattle.std.specs.Prelude.{ℕ, zero, suc, Bool, true, false, not, List, length, Option, Some, None, is_some, option_map, codes, if◌then◌else◌}
use Rattle.std.specs.Str.{bytes_eq}
use Rattle.sl_preproc_directives.specs.Parts.{◌>>=◌, skip_blanks, name_at, quoted_at, mark_at, is_ended}
use Rattle.sl_preproc_directives.specs.Definitions.{Values}
use Rattle.sl_preproc_directives.specs.declared.condition.Operator.{Operator}
use Rattle.sl_preproc_directives.specs.declared.condition.Operator.TheVariants.{And, Xor, Or}

-- ---- what conditions say

-- None where a name that isn't defined must be compared
abbrev pub Verdict : Type 0
Verdict = Option Bool

-- a value to compare: that of a name, or a quoted text
abbrev pub Value : Type 0
Value = Option (List ℕ)

-- whether two values are the same
abbrev pub same : Value → Value → Verdict
same a b = a >>= λ x. b >>= λ y. Some (bytes_eq x y)

abbrev pub turned : Verdict → Verdict
turned v = option_map not v

-- the right side counts only where the left side doesn't decide
abbrev pub joined : Operator → Verdict → Verdict → Verdict
joined And v w = v >>= λ x. if x then w else Some false
joined Or v w = v >>= λ x. if x then Some true else w
joined Xor v w = v >>= λ x. w >>= λ y. Some (if x then not y else y)

-- ---- how they are read: each reader gives what a part says and what stands behind it

abbrev pub Reader : Type 0 → Type 0
Reader X = List ℕ → Option (X × List ℕ)

abbrev pub or_else : {X : Type 0} → Option X → Option X → Option X
or_else (Some x) other = Some x
or_else None other = other

abbrev pub named_or_quoted : Values → Option (List ℕ × List ℕ) → Option (List ℕ × List ℕ) → Option (Value × List ℕ)
named_or_quoted defs (Some n) q = Some (defs n.0, n.1)
named_or_quoted defs None q = option_map (λ t. (Some t.0, t.1)) q

-- a name or a quoted text
unfoldable pub value_at : Values → Reader Value
value_at defs s = named_or_quoted defs (name_at (skip_blanks s)) (quoted_at (skip_blanks s))

abbrev pub equal_or_not : Option (List ℕ) → Option (List ℕ) → Option (Bool × List ℕ)
equal_or_not (Some rest) differ = Some (true, rest)
equal_or_not None differ = option_map (λ rest. (false, rest)) differ

-- `==`, or `!=`
unfoldable pub comparison_at : Reader Bool
comparison_at s = equal_or_not (mark_at (codes "==") s) (mark_at (codes "!=") s)

unfoldable pub compared_at : Values → Reader Verdict
compared_at defs s = do
  left ← value_at defs s
  equal ← comparison_at left.1
  right ← value_at defs equal.1
  Some (if equal.0 then same left.0 right.0 else turned (same left.0 right.0), right.1)

-- what stands behind `defined(`
unfoldable pub behind_defined : List ℕ → Option (List ℕ)
behind_defined s = do
  name ← name_at (skip_blanks s)
  if bytes_eq name.0 (codes "defined") then mark_at (codes "(") name.1 else None

-- the name and the closing parenthesis behind `defined(`
unfoldable pub defined_at : Values → Reader Verdict
defined_at defs s = do
  name ← name_at (skip_blanks s)
  rest ← mark_at (codes ")") name.1
  Some (Some (is_some (defs name.0)), rest)

abbrev pub defined_or_compared : Values → List ℕ → Option (List ℕ) → Option (Verdict × List ℕ)
defined_or_compared defs s (Some inside) = defined_at defs inside
defined_or_compared defs s None = compared_at defs s

-- `defined(NAME)` or a comparison
unfoldable pub simple_at : Values → Reader Verdict
simple_at defs s = defined_or_compared defs s (behind_defined s)

-- a condition and the closing parenthesis
unfoldable pub closed_at : Reader Verdict → Reader Verdict
closed_at inner s = do
  v ← inner s
  rest ← mark_at (codes ")") v.1
  Some (v.0, rest)

abbrev pub closed_or_simple : Values → Reader Verdict → List ℕ → Option (List ℕ) → Option (Verdict × List ℕ)
closed_or_simple defs inner s (Some inside) = closed_at inner inside
closed_or_simple defs inner s None = simple_at defs s

-- a condition in parentheses, or a simple one
unfoldable pub grouped_at : Values → Reader Verdict → Reader Verdict
grouped_at defs inner s = closed_or_simple defs inner s (mark_at (codes "(") s)

abbrev pub under_not : Option (Verdict × List ℕ) → Option (Verdict × List ℕ)
under_not read = option_map (λ v. (turned v.0, v.1)) read

abbrev pub not_or_plain : Reader Verdict → Reader Verdict → List ℕ → Option (List ℕ) → Option (Verdict × List ℕ)
not_or_plain again plain s (Some operand) = under_not (again operand)
not_or_plain again plain s None = plain s

abbrev pub and_or_xor : Option (List ℕ) → Option (List ℕ) → Option (Operator × List ℕ)
and_or_xor (Some rest) xor = Some (And, rest)
and_or_xor None xor = option_map (λ rest. (Xor, rest)) xor

-- `&&` or `^^`
unfoldable pub tight_at : Reader Operator
tight_at s = and_or_xor (mark_at (codes "&&") s) (mark_at (codes "^^") s)

-- `||`
unfoldable pub loose_at : Reader Operator
loose_at s = option_map (λ rest. (Or, rest)) (mark_at (codes "||") s)

abbrev pub unless_joined : Verdict → List ℕ → (Operator × List ℕ → Option (Verdict × List ℕ)) → Option (Operator × List ℕ) → Option (Verdict × List ℕ)
unless_joined left s more None = Some (left, s)
unless_joined left s more (Some j) = more j

-- parts that are joined from the left behind a first one, at most so many
unfoldable pub chain_at : Reader Operator → Reader Verdict → ℕ → Verdict → Reader Verdict
chain_at joint part zero left s = None
chain_at joint part (suc most) left s = unless_joined left s (λ j. part j.1 >>= λ right. chain_at joint part most (joined j.0 left right.0) right.1) (joint s)

-- conditions of a level that are joined from the left
unfoldable pub level_at : Reader Operator → Reader Verdict → ℕ → Reader Verdict
level_at joint part most s = part s >>= λ first. chain_at joint part most first.0 first.1

-- `&&` and `^^` bind alike from the left, tighter than `||`
unfoldable pub both_levels : Reader Verdict → ℕ → Reader Verdict
both_levels unary most s = level_at loose_at (level_at tight_at unary most) most s

-- A condition in parentheses or a simple one, with `!` in front of it. At most so many parts stand round one another, and in
-- a row.
unfoldable pub unary_at : Values → ℕ → Reader Verdict
unary_at defs zero s = None
unary_at defs (suc most) s = not_or_plain (unary_at defs most) (grouped_at defs (both_levels (unary_at defs most) most)) s (mark_at (codes "!") s)

abbrev pub condition_at : Values → ℕ → Reader Verdict
condition_at defs most = both_levels (unary_at defs most) most

-- What the condition of these bytes says, if they are one: it has fewer parts than bytes and one more.
unfoldable pub condition : Values → List ℕ → Option Verdict
condition defs s = do
  v ← condition_at defs (suc (length s)) s
  if is_ended v.1 then Some v.0 else None
