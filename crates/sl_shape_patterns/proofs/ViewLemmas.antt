-- What a pattern is seen as, by its shape; and the pattern of a constructor in blocks.
use Rattle.std.proofs.Common.{◌≡◌, ℕ, List, [], ◌∷◌, Option, Some, length, arith, refl, ap, sym, ◌∙◌, Box}
use Rattle.std.specs.declared.alloc.Global.{Global}
use denote.Ref.{Bor}
use Rattle.sl_ast.specs.Trees as t
use Rattle.sl_ast.specs.Unfolding as u
use Rattle.sl_ast.specs.Views.{pattern_of, pattern_step, expression_of}
use Rattle.sl_ast.specs.declared.expressions.Expr.{Expr}
use Rattle.sl_ast.specs.declared.patterns.Relation.{Relation}
use Rattle.sl_ast.specs.declared.patterns.PatternOp.{PatternOp}
use Rattle.sl_ast.specs.declared.patterns.PatternOp.TheVariants.{And}
use Rattle.sl_ast.specs.declared.patterns.Pattern as p
use Rattle.sl_ast.specs.declared.patterns.Pattern.TheFolds.{fold-roll-Pattern}
use Rattle.sl_ast.specs.declared.patterns.Pattern.TheOpen.{Pattern-F}
use Rattle.sl_ast.specs.declared.patterns.Pattern.TheVariants.{rolls-Name, rolls-Constraint, rolls-Paren, rolls-Ellipsis, rolls-Joined}
use Rattle.sl_spec.specs.Unfolded.{heads_of, under}
use Rattle.sl_spec.specs.declared.unfolded.Around.{Around}

pub seen_name : (x : p.Pattern) (w : Bor (List ℕ)) → x ≡ p.Name w → pattern_of x ≡ t.bare w.now
seen_name x w e =
    ap (λ y. pattern_of y) e ∙ ap (λ y. pattern_of y) (sym (rolls-Name w))
    ∙ fold-roll-Pattern t.Pattern pattern_step (Pattern-F.Name w)

pub seen_constraint : (x : p.Pattern) (w : Bor (List ℕ)) (r : Relation) (v : Expr) → x ≡ p.Constraint w r v
    → pattern_of x ≡ t.constraint w.now r (expression_of v)
seen_constraint x w r v e =
    ap (λ y. pattern_of y) e ∙ ap (λ y. pattern_of y) (sym (rolls-Constraint w r v))
    ∙ fold-roll-Pattern t.Pattern pattern_step (Pattern-F.Constraint w r v)

pub seen_paren : (x inner : p.Pattern) (b : Box p.Pattern Global) → x ≡ p.Paren b → inner ≡ b.value
    → pattern_of x ≡ t.group (pattern_of inner)
seen_paren x inner b e f =
    ap (λ y. pattern_of y) e ∙ ap (λ y. pattern_of y) (sym (rolls-Paren b))
    ∙ fold-roll-Pattern t.Pattern pattern_step (Pattern-F.Paren b) ∙ ap (λ y. t.group (pattern_of y)) (sym f)

pub seen_ellipsis : (x inner : p.Pattern) (b : Box p.Pattern Global) → x ≡ p.Ellipsis b → inner ≡ b.value
    → pattern_of x ≡ t.ellipsis (pattern_of inner)
seen_ellipsis x inner b e f =
    ap (λ y. pattern_of y) e ∙ ap (λ y. pattern_of y) (sym (rolls-Ellipsis b))
    ∙ fold-roll-Pattern t.Pattern pattern_step (Pattern-F.Ellipsis b) ∙ ap (λ y. t.ellipsis (pattern_of y)) (sym f)

pub seen_joined : (x left right : p.Pattern) (op : PatternOp) (l r : Box p.Pattern Global) → x ≡ p.Joined op l r
    → left ≡ l.value → right ≡ r.value → pattern_of x ≡ t.joined op (pattern_of left) (pattern_of right)
seen_joined x left right op l r e f g =
    ap (λ y. pattern_of y) e ∙ ap (λ y. pattern_of y) (sym (rolls-Joined op l r))
    ∙ fold-roll-Pattern t.Pattern pattern_step (Pattern-F.Joined op l r)
    ∙ ap (λ y. t.joined op (pattern_of y) (pattern_of r.value)) (sym f)
    ∙ ap (λ y. t.joined op (pattern_of left) (pattern_of y)) (sym g)

-- ---- blocks

pub in_one_more : (hs inner : List t.Head) (h : t.Head) (c : t.Constructor) (around : t.Pattern) → hs ≡ h ∷ inner → h.pattern ≡ Some around
    → (under hs c).pattern ≡ t.joined And (t.group around) (t.group (under inner c).pattern)
in_one_more hs inner h c around e f =
    ap (λ (x : List t.Head). (under x c).pattern) e ∙ ap (λ (o : Option t.Pattern). u.under o (under inner c).pattern) f

pub in_none : (around : List Around) (c : t.Constructor) → length around ≡ 0 → (under (heads_of around) c).pattern ≡ c.pattern
in_none [] c e = refl
in_none (h ∷ hs) c e = absurd (omega (arith, e))
