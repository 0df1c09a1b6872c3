-- The first fault of a pattern is one, by any two readings that agree on the tables that it names.
use Rattle.std.proofs.Common.{◌≡◌, ℕ, List, Option, Some, None, refl, sym, ap, ◌∙◌, subst, inl, inr, arith}
use Rattle.std.specs.List.{AllByRecursion}
use Rattle.sl_ast.specs.Trees.{Constructor, Pattern, bare, constraint, group, ellipsis, joined}
use Rattle.sl_ast.specs.Unfolding.{Placed}
use Rattle.sl_ast.specs.declared.patterns.PatternOp.{PatternOp}
use Rattle.sl_ast.specs.declared.patterns.PatternOp.TheVariants.{And, Then, Or}
use Rattle.sl_shape_constraints.specs.Windows.{IsEnd}
use Rattle.sl_shape_constraints.proofs.OneCount.{end_one}
use Rattle.sl_cube.specs.declared.Cube.{Cube}
use Rattle.sl_shape_patterns.specs.Patterns.{told}
use Rattle.sl_shape_patterns.specs.Windows.{PatternConstrains}
use Rattle.sl_shape_patterns.proofs.OneCount.{pattern_count_one}
use Rattle.sl_shape.specs.Faults.{BehindTells, CountTells, DifferTells, JoinTells, OrElse, PatternTells, PointTells, ShapeTells, WindowTells}
use Rattle.sl_shape.specs.PatternShapes.{Shapes, pattern_bytes, reading, shape_of}
use Rattle.sl_shape.specs.Tables.{CtorTells, IfTells, named_by, pattern_at, tables_named}
use Rattle.sl_shape.specs.declared.faults.Fault.{Fault}
use Rattle.sl_shape.specs.declared.faults.Fault.TheVariants as fault
use Rattle.sl_shape.proofs.AlikeLemmas.{constrains_alike}
use Rattle.sl_shape.proofs.CarryLemmas.{Agree, AgreeAt, alike_same, all_left, all_right, bytes_same, holds_same, shape_same}
use Rattle.sl_shape_tokens.specs.Shapes.{Shape}
use Rattle.sl_spec.specs.declared.tables.Tables.{Tables}

-- What the one tells and what the other tells is the same.
abbrev pub TellAlike : (Option Fault → Type 0) → (Option Fault → Type 0) → Type 0
TellAlike F G = (a b : Option Fault) → F a → G b → a ≡ b

pub some_none : (f : Fault) → Some f ≡ None → ⊥
some_none f e = cc

or_else_one : (F G S T : Option Fault → Type 0) → TellAlike F G → TellAlike S T → TellAlike (OrElse F S) (OrElse G T)
or_else_one F G S T first second None None x y = refl
or_else_one F G S T first second None (Some g) x y = elim y [
  | inl v ↦ first None (Some g) x.0 v
  | inr v ↦ second None (Some g) x.1 v.1
]
or_else_one F G S T first second (Some f) None x y = elim x [
  | inl u ↦ first (Some f) None u y.0
  | inr u ↦ second (Some f) None u.1 y.1
]
or_else_one F G S T first second (Some f) (Some g) (inl u) (inl v) = first (Some f) (Some g) u v
or_else_one F G S T first second (Some f) (Some g) (inl u) (inr v) = absurd (some_none f (first (Some f) None u v.0))
or_else_one F G S T first second (Some f) (Some g) (inr u) (inl v) = absurd (some_none g (sym (first None (Some g) u.0 v)))
or_else_one F G S T first second (Some f) (Some g) (inr u) (inr v) = second (Some f) (Some g) u.1 v.1

count_tells_one : (t : Tables) (p : Pattern) → TellAlike (CountTells t p) (CountTells t p)
count_tells_one t p None None x y = refl
count_tells_one t p None (Some g) x y = let e = pattern_count_one t p x.0 y.0 x.1 y.1 in absurd (omega (arith, e, x.2, y.2))
count_tells_one t p (Some f) None x y = let e = pattern_count_one t p x.0 y.0 x.1 y.1 in absurd (omega (arith, e, x.2, y.2))
count_tells_one t p (Some f) (Some g) x y =
    let e = pattern_count_one t p x.0 y.0 x.1 y.1 in
    ap (λ (f : Fault). Some f) (x.3 ∙ ap (λ (n : ℕ). fault.TooManyCubes (told n)) e ∙ sym y.3)

differ_one : (o : Option Shape) → TellAlike (DifferTells o) (DifferTells o)
differ_one None a b x y = x ∙ sym y
differ_one (Some s) a b x y = x ∙ sym y

module _ (t : Tables) (s r : Shapes) (h k : List (Option Cube)) where
  abbrev Agreed : Pattern → Type 0
  Agreed p = AllByRecursion (Agree t s r h k) (tables_named t p)

  behind_one : (o : Option ℕ) (q : Pattern) → Agreed q → TellAlike (BehindTells t s h o q) (BehindTells t r k o q)
  behind_one (Some bytes) q all a b x y = x ∙ sym y
  behind_one None q all None None x y = refl
  behind_one None q all None (Some g) x y =
      let at = y.1 in
      absurd (at.2 ((holds_same t s r h k q all at.0 at.1).0 (x at.0 at.1)))
  behind_one None q all (Some f) None x y =
      let at = x.1 in
      absurd (at.2 ((holds_same t s r h k q all at.0 at.1).1 (y at.0 at.1)))
  behind_one None q all (Some f) (Some g) x y = ap (λ (f : Fault). Some f) (x.0 ∙ sym y.0)

  join_one : (op : PatternOp) (p q : Pattern) → shape_of t s (joined op p q) ≡ shape_of t r (joined op p q) → pattern_bytes t s p ≡ pattern_bytes t r p
      → Agreed q → TellAlike (JoinTells t s h op p q) (JoinTells t r k op p q)
  join_one And p q shape bytes all a b x y = differ_one (shape_of t s (joined And p q)) a b x (subst (λ (o : Option Shape). DifferTells o b) (sym shape) y)
  join_one Or p q shape bytes all a b x y = differ_one (shape_of t s (joined Or p q)) a b x (subst (λ (o : Option Shape). DifferTells o b) (sym shape) y)
  join_one Then p q shape bytes all a b x y =
      behind_one (pattern_bytes t s p) q all a b x (subst (λ (o : Option ℕ). BehindTells t r k o q b) (sym bytes) y)

  shape_tells_one : (p : Pattern) → Agreed p → TellAlike (ShapeTells t s h p) (ShapeTells t r k p)
  unfolding ShapeTells tables_named
  shape_tells_one (bare name) all a b x y = x ∙ sym y
  shape_tells_one (constraint name relation e) all a b x y = x ∙ sym y
  shape_tells_one (group p) all a b x y = shape_tells_one p all a b x y
  shape_tells_one (ellipsis p) all a b x y = shape_tells_one p all a b x y
  shape_tells_one (joined op p q) all a b x y =
      let left = all_left (Agree t s r h k) (tables_named t p) (tables_named t q) all in
      let right = all_right (Agree t s r h k) (tables_named t p) (tables_named t q) all in
      or_else_one (ShapeTells t s h p) (ShapeTells t r k p)
      (OrElse (ShapeTells t s h q) (JoinTells t s h op p q)) (OrElse (ShapeTells t r k q) (JoinTells t r k op p q))
      (shape_tells_one p left)
      (or_else_one (ShapeTells t s h q) (ShapeTells t r k q) (JoinTells t s h op p q) (JoinTells t r k op p q) (shape_tells_one q right)
      (join_one op p q (shape_same t s r h k (joined op p q) all) (bytes_same t s r h k p left) right)) a b x y

  window_end_one : (p : Pattern) → Agreed p → (m n : ℕ) → IsEnd (PatternConstrains (reading t s h) p 0) m → IsEnd (PatternConstrains (reading t r k) p 0) n → m ≡ n
  window_end_one p all m n x y =
      let same = constrains_alike t (pattern_bytes t s) (pattern_bytes t r) h k p (alike_same t s r h k p all) 0 in
      end_one (PatternConstrains (reading t s h) p 0) (PatternConstrains (reading t r k) p 0) (λ i. (same i).0) (λ i. (same i).1) m n x y

  window_one : (p : Pattern) → Agreed p → TellAlike (WindowTells t s h p) (WindowTells t r k p)
  window_one p all None None x y = refl
  window_one p all None (Some g) x y = let e = window_end_one p all x.0 y.0 x.1 y.1 in absurd (omega (arith, e, x.2, y.2))
  window_one p all (Some f) None x y = let e = window_end_one p all x.0 y.0 x.1 y.1 in absurd (omega (arith, e, x.2, y.2))
  window_one p all (Some f) (Some g) x y =
      let e = window_end_one p all x.0 y.0 x.1 y.1 in
      ap (λ (f : Fault). Some f) (x.3 ∙ ap (λ (n : ℕ). fault.WindowTooLong (told n)) e ∙ sym y.3)

  point_one : (p : Pattern) → Agreed p → TellAlike (PointTells t s h p) (PointTells t r k p)
  point_one p all None None x y = refl
  point_one p all None (Some g) x y = absurd (y.1 x.0 x.1 ((holds_same t s r h k p all x.0 x.1).0 x.2))
  point_one p all (Some f) None x y = absurd (x.1 y.0 y.1 ((holds_same t s r h k p all y.0 y.1).1 y.2))
  point_one p all (Some f) (Some g) x y = ap (λ (f : Fault). Some f) (x.0 ∙ sym y.0)

  pub tells_one : (p : Pattern) → Agreed p → TellAlike (PatternTells t s h p) (PatternTells t r k p)
  tells_one p all = or_else_one (CountTells t p) (CountTells t p)
      (OrElse (ShapeTells t s h p) (OrElse (WindowTells t s h p) (PointTells t s h p)))
      (OrElse (ShapeTells t r k p) (OrElse (WindowTells t r k p) (PointTells t r k p)))
      (count_tells_one t p)
      (or_else_one (ShapeTells t s h p) (ShapeTells t r k p)
      (OrElse (WindowTells t s h p) (PointTells t s h p)) (OrElse (WindowTells t r k p) (PointTells t r k p))
      (shape_tells_one p all)
      (or_else_one (WindowTells t s h p) (WindowTells t r k p) (PointTells t s h p) (PointTells t r k p) (window_one p all) (point_one p all)))

  module _ (cs : List (Placed Constructor)) where
    if_tells_one : (o : Option Pattern) → AllByRecursion (Agree t s r h k) (named_by t o) → TellAlike (IfTells t cs s h o) (IfTells t cs r k o)
    if_tells_one None all a b x y = x ∙ sym y
    if_tells_one (Some p) all a b x y = tells_one p all a b x y

    pub ctor_tells_one : (i : ℕ) → AgreeAt t s r h k cs i → TellAlike (CtorTells t cs s h i) (CtorTells t cs r k i)
    ctor_tells_one i agree = if_tells_one (pattern_at cs i) agree
