-- What is made of expressions that were read.
use Rattle.std.proofs.Common.{◌≡◌, ◌-◌, ◌+◌, ℕ, List, IfOk, Result, Ok, Err, ap, sym, ◌∙◌, arith}
use Rattle.sl_ast.specs.Trees.{Expression}
use Rattle.sl_ast.specs.Validity.{weight}
use Rattle.sl_ast.specs.Views.{expression_of}
use Rattle.sl_ast.specs.declared.expressions.Expr.{Expr}
use Rattle.sl_store_format.specs.declared.forms.ExpressionForm.{ExpressionForm}
use Rattle.sl_store_format.specs.declared.forms.ExpressionForm.TheVariants as x
use Rattle.sl_store_bytes.specs.Reader.{Outcome}
use Rattle.sl_store_bytes.specs.Reads.{Reads}
use Rattle.sl_store_bytes.specs.declared.bytes.Stop.{Stop}
use Rattle.sl_store_bytes.specs.declared.bytes.Stop.TheVariants as sv
use Rattle.sl_store_phrases.specs.Within.{Makes, Spends, operand_room, operand_weight}

pub made_reads : (o : Outcome Expression) (tree : Expression) (left : List ℕ) (r : Result Expr Stop) → Makes tree r → o ≡ Ok (tree, left) → Reads expression_of o r left
made_reads o tree left (Ok e) made same = same ∙ ap (λ t. Ok (t, left)) (sym made)
made_reads o tree left (Err sv.NoMemory) made same = tt
made_reads o tree left (Err sv.Cut) made same = absurd made
made_reads o tree left (Err (sv.Damaged n)) made same = absurd made

pub made_spends : (before after : ℕ) (tree : Expression) (r : Result Expr Stop) → Makes tree r → after ≡ before - weight tree → Spends before after r
made_spends before after tree (Ok e) made same = same ∙ ap (λ t. before - weight t) (sym made)
made_spends before after tree (Err sv.NoMemory) made same = tt
made_spends before after tree (Err sv.Cut) made same = absurd made
made_spends before after tree (Err (sv.Damaged n)) made same = absurd made

-- no room is taken
pub light_spends : (room : ℕ) (r : Result Expr Stop) → IfOk r (λ e. weight (expression_of e) ≡ 0) → Spends room room r
light_spends room (Ok e) light = omega arith
light_spends room (Err e) light = tt

operand_left : (form : ExpressionForm) (room w : ℕ) → operand_room form room - w ≡ room - (w + operand_weight form)
operand_left x.Integer room w = omega arith
operand_left x.Name room w = omega arith
operand_left x.Paren room w = omega arith
operand_left x.Call room w = omega arith
operand_left x.Sized room w = omega arith
operand_left x.Dropped room w = omega arith
operand_left x.Bits room w = omega arith
operand_left x.Prefix room w = omega arith
operand_left x.Star room w = omega arith
operand_left x.Binary room w = omega arith

pub operand_spends : (form : ExpressionForm) (room after w : ℕ) (r : Result Expr Stop) → IfOk r (λ e. weight (expression_of e) ≡ w + operand_weight form)
    → after ≡ operand_room form room - w → Spends room after r
operand_spends form room after w (Ok e) heavy same = same ∙ operand_left form room w ∙ ap (λ m. room - m) (sym heavy)
operand_spends form room after w (Err e) heavy same = tt
