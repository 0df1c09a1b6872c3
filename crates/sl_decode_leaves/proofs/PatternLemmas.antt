-- The leaves of patterns: what a pattern is seen as, by its shape, and two that are joined.
use Rattle.std.proofs.Common.{◌≡◌, ℕ, List, ◌∷◌, ◌++◌, Option, Some, ap, sym, ◌∙◌, append_assoc, Box}
use Rattle.std.specs.declared.alloc.Global.{Global}
use denote.Ref.{Bor}
use Rattle.sl_ast.specs.Trees as t
use Rattle.sl_ast.specs.Unfolding as u
use Rattle.sl_ast.specs.Views.{expression_of, pattern_of, pattern_step}
use Rattle.sl_ast.specs.declared.expressions.Expr.{Expr}
use Rattle.sl_ast.specs.declared.patterns.Pattern as p
use Rattle.sl_ast.specs.declared.patterns.Pattern.TheFolds.{fold-roll-Pattern}
use Rattle.sl_ast.specs.declared.patterns.Pattern.TheOpen.{Pattern-F}
use Rattle.sl_ast.specs.declared.patterns.Pattern.TheVariants.{rolls-Constraint, rolls-Joined}
use Rattle.sl_ast.specs.declared.patterns.PatternOp.{PatternOp}
use Rattle.sl_ast.specs.declared.patterns.PatternOp.TheVariants.{And}
use Rattle.sl_ast.specs.declared.patterns.Relation.{Relation}
use Rattle.sl_decode_meaning.specs.Places.{Leaf, leaves, length_in, place_beside}
use Rattle.sl_spec.specs.Tables.{Name, Operand}
use Rattle.sl_spec.specs.Unfolded.{under}
use Rattle.sl_spec.specs.declared.tables.Tables.{Tables}

pub seen_constraint : (x : p.Pattern) (w : Bor (List ℕ)) (r : Relation) (v : Expr)
    → x ≡ p.Constraint w r v → pattern_of x ≡ t.constraint w.now r (expression_of v)
seen_constraint x w r v e =
    ap (λ y. pattern_of y) e ∙ ap (λ y. pattern_of y) (sym (rolls-Constraint w r v))
    ∙ fold-roll-Pattern t.Pattern pattern_step (Pattern-F.Constraint w r v)

pub seen_joined : (x left right : p.Pattern) (op : PatternOp) (l r : Box p.Pattern Global)
    → x ≡ p.Joined op l r → left ≡ l.value → right ≡ r.value
    → pattern_of x ≡ t.joined op (pattern_of left) (pattern_of right)
seen_joined x left right op l r e f g =
    ap (λ y. pattern_of y) e ∙ ap (λ y. pattern_of y) (sym (rolls-Joined op l r))
    ∙ fold-roll-Pattern t.Pattern pattern_step (Pattern-F.Joined op l r)
    ∙ ap (λ y. t.joined op (pattern_of y) (pattern_of r.value)) (sym f)
    ∙ ap (λ y. t.joined op (pattern_of left) (pattern_of y)) (sym g)

pub in_one_more : (hs inner : List t.Head) (h : t.Head) (c : t.Constructor) (around : t.Pattern)
    → hs ≡ h ∷ inner → h.pattern ≡ Some around
    → (under hs c).pattern ≡ t.joined And (t.group around) (t.group (under inner c).pattern)
in_one_more hs inner h c around e f =
    ap (λ (x : List t.Head). (under x c).pattern) e
    ∙ ap (λ (o : Option t.Pattern). u.under o (under inner c).pattern) f

pub joined_added : (ts : Tables) (os : List Operand) (len : Name → ℕ) (op : PatternOp)
    (x p q : t.Pattern) (at next first : ℕ) (none some all : List Leaf)
    → some ≡ none ++ leaves ts os len at p → first ≡ length_in ts os len p
    → next ≡ place_beside op at first → all ≡ some ++ leaves ts os len next q → x ≡ t.joined op p q
    → all ≡ none ++ leaves ts os len at x
unfolding leaves
joined_added ts os len op x p q at next first none some all a b c d e =
    d ∙ ap (λ l. l ++ leaves ts os len next q) a
    ∙ append_assoc none (leaves ts os len at p) (leaves ts os len next q)
    ∙ ap (λ n. none ++ (leaves ts os len at p ++ leaves ts os len n q)) (c ∙ ap (place_beside op at) b)
    ∙ sym (ap (λ y. none ++ leaves ts os len at y) e)
