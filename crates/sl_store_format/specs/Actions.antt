-- meaning: actions as bytes, the conditions on their leaves, and their readers.
use Rattle.std.specs.Prelude.{◌≤◌, ℕ, List, ◌∷◌, ◌++◌}
use Rattle.sl_ast.specs.Operators.{in_action}
use Rattle.sl_ast.specs.Trees.{Operand, by_name, by_integer, Action, set, global_set}
use Rattle.sl_store_format.specs.Expressions.{write_expression, Leaves, whole_expression}
use Rattle.sl_store_bytes.specs.Lexemes.{write_bytes}
use Rattle.sl_store_bytes.specs.Lists.{either}
use Rattle.sl_store_bytes.specs.Numbers.{write_number, number, greatest}
use Rattle.sl_store_bytes.specs.Reader.{Reader, ◌>>=◌, pure}
use Rattle.sl_store_bytes.specs.Words.{name, IsName}

abbrev pub write_operand : Operand → List ℕ
write_operand (by_name w) = 0 ∷ write_bytes w
write_operand (by_integer n) = 1 ∷ write_number n

abbrev pub OperandLeaves : Operand → Type 0
OperandLeaves (by_name w) = IsName w
OperandLeaves (by_integer n) = n ≤ greatest

unfoldable pub operand_here : Reader Operand
operand_here = either (name >>= (λ w. pure (by_name w))) (number 0 greatest >>= (λ n. pure (by_integer n)))

abbrev pub write_action : Action → List ℕ
write_action (set w e) = 0 ∷ (write_bytes w ++ write_expression e)
write_action (global_set at w) = 1 ∷ (write_operand at ++ write_bytes w)

abbrev pub ActionLeaves : Action → Type 0
ActionLeaves (set w e) = IsName w × Leaves e
ActionLeaves (global_set at w) = OperandLeaves at × IsName w

unfoldable pub action : Reader Action
action =
    either (name >>= (λ w. whole_expression in_action >>= (λ e. pure (set w e))))
    (operand_here >>= (λ at. name >>= (λ w. pure (global_set at w))))
