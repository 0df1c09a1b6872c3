-- Constraints, displays, operands and tables on small rows.
use Rattle.std.proofs.Common.{◌≡◌, ℕ, true, false, List, [], ◌∷◌, pos, negsuc, Option, Some, None, refl}
use Rattle.std.specs.Prelude.{codes}
use Rattle.std.specs.Int.{int_wrap}
use Rattle.sl_ast.specs.Symbols.{plain}
use Rattle.sl_ast.specs.Trees.{Constructor, integer, prefix, binary, Piece, piece_word, piece_blank, piece_caret, bare, unimplemented}
use Rattle.sl_ast.specs.declared.expressions.BinaryOp.TheVariants as op
use Rattle.sl_ast.specs.declared.expressions.PrefixOp.TheVariants as before
use Rattle.sl_spec_actions.specs.Parts.{Part}
use Rattle.sl_spec_constructors.specs.ConstraintValues.{constraint_value}
use Rattle.sl_spec_constructors.specs.ConstructorRules.{is_allowed_there}
use Rattle.sl_spec_constructors.specs.Displays.{shown}
use Rattle.sl_spec_constructors.specs.Operands.{bare_names}
use Rattle.sl_spec_constructors.specs.WholeText.{all_tables, bare_table}

-- ---- rule 20

literal_is_wrapped : constraint_value (integer 18446744073709551615) ≡ Some (negsuc 0)
unfolding constraint_value int_wrap
literal_is_wrapped = refl

quotient_goes_to_zero : constraint_value (binary op.Divide (prefix before.Negate (integer 7)) (integer 2)) ≡ Some (negsuc 2)
unfolding constraint_value int_wrap
quotient_goes_to_zero = refl

by_zero : constraint_value (binary op.Divide (integer 7) (binary op.Subtract (integer 2) (integer 2))) ≡ None
unfolding constraint_value int_wrap
by_zero = refl

least_by_minus_1 : constraint_value (binary op.Divide (integer 9223372036854775808) (prefix before.Negate (integer 1))) ≡ Some (negsuc 9223372036854775807)
unfolding constraint_value int_wrap
least_by_minus_1 = refl

up_64 : constraint_value (binary op.ShiftLeft (integer 1) (integer 64)) ≡ Some (pos 0)
unfolding constraint_value int_wrap
up_64 = refl

up_63 : constraint_value (binary op.ShiftLeft (integer 3) (integer 63)) ≡ Some (negsuc 9223372036854775807)
unfolding constraint_value int_wrap
up_63 = refl

down_keeps_the_sign : constraint_value (binary op.ShiftRight (prefix before.Negate (integer 5)) (integer 1)) ≡ Some (negsuc 2)
unfolding constraint_value int_wrap
down_keeps_the_sign = refl

down_by_a_negative_amount : constraint_value (binary op.ShiftRight (prefix before.Negate (integer 5)) (prefix before.Negate (integer 1))) ≡ Some (negsuc 0)
unfolding constraint_value int_wrap
down_by_a_negative_amount = refl

complement : constraint_value (prefix before.Complement (integer 0)) ≡ Some (negsuc 0)
unfolding constraint_value int_wrap
complement = refl

-- ---- rule 16

abbrev add : Piece
add = piece_word (plain (codes "add"))

abbrev rd : Piece
rd = piece_word (plain (codes "rd"))

abbrev gap : Piece
gap = piece_blank (codes " ")

abbrev caret : Piece
caret = piece_caret (codes "^")

mnemonic_ends_at_a_blank : shown true (gap ∷ add ∷ gap ∷ rd ∷ []) ≡ gap ∷ rd ∷ []
mnemonic_ends_at_a_blank = refl

mnemonic_ends_at_a_caret : shown true (add ∷ caret ∷ rd ∷ []) ≡ caret ∷ rd ∷ []
mnemonic_ends_at_a_caret = refl

no_mnemonic_before_a_caret : shown true (gap ∷ caret ∷ add ∷ []) ≡ caret ∷ add ∷ []
no_mnemonic_before_a_caret = refl

no_mnemonic_elsewhere : shown false (add ∷ gap ∷ rd ∷ []) ≡ add ∷ gap ∷ rd ∷ []
no_mnemonic_elsewhere = refl

-- ---- rules 18 and 19

abbrev part : List ℕ → Part
part name = record { name = name; bare = true; in_choice = true; behind_table = false }

epsilon_is_no_operand : bare_names (part (codes "epsilon") ∷ part (codes "rd") ∷ []) ≡ codes "rd" ∷ []
epsilon_is_no_operand = refl

epsilon_in_a_choice : is_allowed_there (part (codes "epsilon")) ≡ true
epsilon_in_a_choice = refl

bare_in_a_choice : is_allowed_there (part (codes "rd")) ≡ false
bare_in_a_choice = refl

-- ---- tables

abbrev of_table : Option (List ℕ) → Constructor
of_table table = record { table = table; display = []; pattern = bare (codes "rd"); actions = None; section = unimplemented }

tables_in_order : all_tables ((1, of_table (Some (codes "b"))) ∷ (2, of_table None) ∷ (3, of_table (Some (codes "a"))) ∷ (4, of_table (Some (codes "b"))) ∷ [])
    ≡ bare_table (codes "instruction") ∷ bare_table (codes "b") ∷ bare_table (codes "a") ∷ []
tables_in_order = refl
