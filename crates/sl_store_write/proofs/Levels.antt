-- One level of an expression or a pattern, as the definitions see it.
use Rattle.std.proofs.Common.{◌≡◌, ℕ, List, Option, option_map, ap, sym, ◌∙◌, Vec}
use denote.Ref.{Bor}
use Rattle.std.specs.declared.alloc.Global.{Global}
use Rattle.std.specs.declared.boxed.Box.{Box}
use Rattle.sl_ast.specs.Trees as t
use Rattle.sl_ast.specs.Trees.{Expression, integer, named, paren, call, sized, dropped, bits, prefix, star, binary, bare, constraint, group, ellipsis, joined}
use Rattle.sl_ast.specs.Views.{expression_of, expressions_of, expression_step, arguments, bytes, pattern_of, pattern_step}
use Rattle.sl_ast.specs.declared.expressions.BinaryOp.{BinaryOp}
use Rattle.sl_ast.specs.declared.expressions.PrefixOp.{PrefixOp}
use Rattle.sl_ast.specs.declared.expressions.Expr.{Expr}
use Rattle.sl_ast.specs.declared.expressions.Expr.TheFolds.{fold-roll-Expr}
use Rattle.sl_ast.specs.declared.expressions.Expr.TheOpen.{Expr-F}
use Rattle.sl_ast.specs.declared.expressions.Expr.TheVariants as v
use Rattle.sl_ast.specs.declared.patterns.Pattern.{Pattern}
use Rattle.sl_ast.specs.declared.patterns.Pattern.TheFolds.{fold-roll-Pattern}
use Rattle.sl_ast.specs.declared.patterns.Pattern.TheOpen.{Pattern-F}
use Rattle.sl_ast.specs.declared.patterns.Pattern.TheVariants as q
use Rattle.sl_ast.specs.declared.patterns.PatternOp.{PatternOp}
use Rattle.sl_ast.specs.declared.patterns.Relation.{Relation}

pub level_integer : (n : ℕ) → expression_of (v.Integer n) ≡ integer n
level_integer n = ap expression_of (sym (v.rolls-Integer n)) ∙ fold-roll-Expr Expression expression_step (Expr-F.Integer n)

pub level_name : (w : Bor (List ℕ)) → expression_of (v.Name w) ≡ named w.now
level_name w = ap expression_of (sym (v.rolls-Name w)) ∙ fold-roll-Expr Expression expression_step (Expr-F.Name w)

pub level_paren : (e : Box Expr Global) → expression_of (v.Paren e) ≡ paren (expression_of e.value)
level_paren e = ap expression_of (sym (v.rolls-Paren e)) ∙ fold-roll-Expr Expression expression_step (Expr-F.Paren e)

pub level_call : (w : Bor (List ℕ)) (es : Vec Expr Global) → expression_of (v.Call w es) ≡ call w.now (arguments (expressions_of es.items))
level_call w es = ap expression_of (sym (v.rolls-Call w es)) ∙ fold-roll-Expr Expression expression_step (Expr-F.Call w es)

pub level_sized : (e : Box Expr Global) (n : ℕ) → expression_of (v.Sized e n) ≡ sized (expression_of e.value) n
level_sized e n = ap expression_of (sym (v.rolls-Sized e n)) ∙ fold-roll-Expr Expression expression_step (Expr-F.Sized e n)

pub level_dropped : (e : Box Expr Global) (n : ℕ) → expression_of (v.Dropped e n) ≡ dropped (expression_of e.value) n
level_dropped e n = ap expression_of (sym (v.rolls-Dropped e n)) ∙ fold-roll-Expr Expression expression_step (Expr-F.Dropped e n)

pub level_bits : (e : Box Expr Global) (l n : ℕ) → expression_of (v.Bits e l n) ≡ bits (expression_of e.value) l n
level_bits e l n = ap expression_of (sym (v.rolls-Bits e l n)) ∙ fold-roll-Expr Expression expression_step (Expr-F.Bits e l n)

pub level_prefix : (op : PrefixOp) (e : Box Expr Global) → expression_of (v.Prefix op e) ≡ prefix op (expression_of e.value)
level_prefix op e = ap expression_of (sym (v.rolls-Prefix op e)) ∙ fold-roll-Expr Expression expression_step (Expr-F.Prefix op e)

pub level_binary : (op : BinaryOp) (l r : Box Expr Global) → expression_of (v.Binary op l r) ≡ binary op (expression_of l.value) (expression_of r.value)
level_binary op l r = ap expression_of (sym (v.rolls-Binary op l r)) ∙ fold-roll-Expr Expression expression_step (Expr-F.Binary op l r)

pub level_star : (p : Option (Bor (List ℕ))) (n : Option ℕ) (e : Box Expr Global) → expression_of (v.Star p n e) ≡ star (option_map bytes p) n (expression_of e.value)
level_star p n e = ap expression_of (sym (v.rolls-Star p n e)) ∙ fold-roll-Expr Expression expression_step (Expr-F.Star p n e)

-- ---- patterns

pub level_bare : (w : Bor (List ℕ)) → pattern_of (q.Name w) ≡ bare w.now
level_bare w = ap pattern_of (sym (q.rolls-Name w)) ∙ fold-roll-Pattern t.Pattern pattern_step (Pattern-F.Name w)

pub level_constraint : (w : Bor (List ℕ)) (r : Relation) (e : Expr) → pattern_of (q.Constraint w r e) ≡ constraint w.now r (expression_of e)
level_constraint w r e = ap pattern_of (sym (q.rolls-Constraint w r e)) ∙ fold-roll-Pattern t.Pattern pattern_step (Pattern-F.Constraint w r e)

pub level_group : (p : Box Pattern Global) → pattern_of (q.Paren p) ≡ group (pattern_of p.value)
level_group p = ap pattern_of (sym (q.rolls-Paren p)) ∙ fold-roll-Pattern t.Pattern pattern_step (Pattern-F.Paren p)

pub level_ellipsis : (p : Box Pattern Global) → pattern_of (q.Ellipsis p) ≡ ellipsis (pattern_of p.value)
level_ellipsis p = ap pattern_of (sym (q.rolls-Ellipsis p)) ∙ fold-roll-Pattern t.Pattern pattern_step (Pattern-F.Ellipsis p)

pub level_joined : (op : PatternOp) (l r : Box Pattern Global) → pattern_of (q.Joined op l r) ≡ joined op (pattern_of l.value) (pattern_of r.value)
level_joined op l r = ap pattern_of (sym (q.rolls-Joined op l r)) ∙ fold-roll-Pattern t.Pattern pattern_step (Pattern-F.Joined op l r)
