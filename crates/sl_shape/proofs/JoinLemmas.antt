-- What is told of any two sides is told of the right one at hand.
use Rattle.std.proofs.Common.{◌≡◌, List, ◌∷◌, Option, Result, Ok, Err, None, sym, ap, ◌∙◌, subst}
use Rattle.std.specs.Prelude.{IfErr, IfOk}
use Rattle.sl_ast.specs.Trees.{Pattern, group, joined}
use Rattle.sl_ast.specs.Trees as t
use Rattle.sl_ast.specs.Unfolding as u
use Rattle.sl_ast.specs.declared.patterns.PatternOp.{PatternOp}
use Rattle.sl_shape.specs.Below.{IsJoined, IsShaped, IsSide, Shows}
use Rattle.sl_shape.specs.Faults.{JoinTells, ShapeTells}
use Rattle.sl_shape.specs.PatternShapes.{Shapes}
use Rattle.sl_shape.specs.Stops.{Stops}
use Rattle.sl_shape.specs.declared.below.Below.{Below}
use Rattle.sl_shape.specs.declared.below.TokenLists.{TokenLists}
use Rattle.sl_shape.specs.declared.stop.Stop.{Stop}
use Rattle.sl_spec.specs.Unfolded.{under}
use Rattle.sl_shape.proofs.BelowLemmas.{shaped_group, shaped_joined, shaped_side, side_more, told_both, told_group}
use Rattle.sl_shape_tokens.specs.declared.shapes.Shape.{Shape}

pub for_right : (b : Below) (old new : TokenLists) (first second : Shape) (op to : PatternOp) → op ≡ to → (q : Pattern) (r : Result Shape Stop)
    → IfOk r (λ s. (shapes : Shapes) (p q : Pattern) → Shows b old shapes → IsSide b old shapes p first → IsSide b old shapes q second → IsJoined b shapes old new op p q s)
    → IfOk r (λ s. (shapes : Shapes) (p : Pattern) → Shows b old shapes → IsSide b old shapes p first → IsSide b old shapes q second → IsJoined b shapes old new to p q s)
for_right b old new first second op to e q (Ok s) h = λ shapes p shows left right. subst (λ (o : PatternOp). IsJoined b shapes old new o p q s) e (h shapes p q shows left right)
for_right b old new first second op to e q (Err x) h = h

module _ (b : Below) (old new : TokenLists) (p x : Pattern) (is : x ≡ group p) where
  pub paren_goes : (r : Result Shape Stop) → IfOk r (λ s. (shapes : Shapes) → Shows b old shapes → IsShaped b shapes old new p s)
      → IfOk r (λ s. (shapes : Shapes) → Shows b old shapes → IsShaped b shapes old new x s)
  paren_goes (Ok s) h = λ shapes shows. subst (λ (y : Pattern). IsShaped b shapes old new y s) (sym is) (shaped_group b shapes old new s p (h shapes shows))
  paren_goes (Err e) h = h

module _ (b : Below) (old : TokenLists) (p x : Pattern) (is : x ≡ group p) where
  pub paren_stops : (r : Result Shape Stop) → IfErr r (λ e. (shapes : Shapes) → Shows b old shapes → Stops (ShapeTells b.tables.now shapes b.hulls.now p) e)
      → IfErr r (λ e. (shapes : Shapes) → Shows b old shapes → Stops (ShapeTells b.tables.now shapes b.hulls.now x) e)
  paren_stops (Ok s) h = h
  paren_stops (Err e) h = λ shapes shows. subst (λ (y : Pattern). Stops (ShapeTells b.tables.now shapes b.hulls.now y) e) (sym is) (told_group b shapes p e (h shapes shows))

module _ (b : Below) (old mid late new : TokenLists) (op : PatternOp) (p q last x : Pattern) (same : last ≡ q) (is : x ≡ joined op p q) (first second : Shape)
    (left : (shapes : Shapes) → Shows b old shapes → IsShaped b shapes old mid p first)
    (right : (shapes : Shapes) → Shows b mid shapes → IsShaped b shapes mid late q second) where
  pub joined_goes : (r : Result Shape Stop)
      → IfOk r (λ s. (shapes : Shapes) (p : Pattern) → Shows b late shapes → IsSide b late shapes p first → IsSide b late shapes last second → IsJoined b shapes late new op p last s)
      → IfOk r (λ s. (shapes : Shapes) → Shows b old shapes → IsShaped b shapes old new x s)
  joined_goes (Err e) h = h
  joined_goes (Ok s) h = λ shapes shows.
      let i = left shapes shows in
      let j = right shapes i.gets.shows in
      let k = h shapes p j.gets.shows (side_more b mid late shapes p first j.gets.keeps (shaped_side b old mid shapes p first i))
      (subst (λ (y : Pattern). IsSide b late shapes y second) (sym same) (shaped_side b mid late shapes q second j)) in
      subst (λ (y : Pattern). IsShaped b shapes old new y s) (sym is)
      (shaped_joined b shapes op p q old mid late new first second s i j (subst (λ (y : Pattern). IsJoined b shapes late new op p y s) same k))

  pub joined_stops : (r : Result Shape Stop)
      → IfErr r (λ e. (shapes : Shapes) (p : Pattern) → Shows b late shapes → IsSide b late shapes p first → IsSide b late shapes last second
      → Stops (JoinTells b.tables.now shapes b.hulls.now op p last) e)
      → IfErr r (λ e. (shapes : Shapes) → Shows b old shapes → Stops (ShapeTells b.tables.now shapes b.hulls.now x) e)
  joined_stops (Ok s) h = h
  joined_stops (Err e) h = λ shapes shows.
      let i = left shapes shows in
      let j = right shapes i.gets.shows in
      let k = h shapes p j.gets.shows (side_more b mid late shapes p first j.gets.keeps (shaped_side b old mid shapes p first i))
      (subst (λ (y : Pattern). IsSide b late shapes y second) (sym same) (shaped_side b mid late shapes q second j)) in
      subst (λ (y : Pattern). Stops (ShapeTells b.tables.now shapes b.hulls.now y) e) (sym is)
      (told_both b shapes op p q e i.sound j.sound (subst (λ (y : Pattern). Stops (JoinTells b.tables.now shapes b.hulls.now op p y) e) same k))

module _ (b : Below) (old new : TokenLists) (p x : Pattern) (is : x ≡ p) where
  pub same_goes : (r : Result Shape Stop) → IfOk r (λ s. (shapes : Shapes) → Shows b old shapes → IsShaped b shapes old new p s)
      → IfOk r (λ s. (shapes : Shapes) → Shows b old shapes → IsShaped b shapes old new x s)
  same_goes (Ok s) h = λ shapes shows. subst (λ (y : Pattern). IsShaped b shapes old new y s) (sym is) (h shapes shows)
  same_goes (Err e) h = h

pub for_right_stops : (b : Below) (old : TokenLists) (first second : Shape) (op : PatternOp) (q : Pattern) (r : Result Shape Stop)
    → IfErr r (λ e. (shapes : Shapes) (p q : Pattern) → Shows b old shapes → IsSide b old shapes p first → IsSide b old shapes q second
    → Stops (JoinTells b.tables.now shapes b.hulls.now op p q) e)
    → IfErr r (λ e. (shapes : Shapes) (p : Pattern) → Shows b old shapes → IsSide b old shapes p first → IsSide b old shapes q second
    → Stops (JoinTells b.tables.now shapes b.hulls.now op p q) e)
for_right_stops b old first second op q (Ok s) h = h
for_right_stops b old first second op q (Err x) h = λ shapes p shows left right. h shapes p q shows left right

-- a constructor in a block without a pattern
pub in_open : (hs inner : List t.Head) (h : t.Head) (c : t.Constructor) → hs ≡ h ∷ inner → h.pattern ≡ None → (under hs c).pattern ≡ (under inner c).pattern
in_open hs inner h c e f =
    ap (λ (x : List t.Head). (under x c).pattern) e ∙ ap (λ (o : Option Pattern). u.under o (under inner c).pattern) f
