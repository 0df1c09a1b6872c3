-- What is made of the patterns of blocks.
use Rattle.std.proofs.Common.{◌≡◌, ℕ, ◌<◌, Bool, cond, List, [], ◌∷◌, Option, Some, length, arith, sym, subst, ap, ◌∙◌}
use Rattle.std.specs.Global.{Vec}
use Rattle.std.specs.Prelude.{unwrap_or}
use Rattle.sl_ast.specs.Trees.{Head, Pattern}
use Rattle.sl_ast.specs.Views.{head_of}
use Rattle.sl_shape_constraints.specs.Sets.{IsUnionOf}
use Rattle.sl_cube.specs.declared.Cube.{Cube}
use Rattle.sl_shape_patterns.specs.Counts.{FitCount}
use Rattle.sl_shape_patterns.specs.Heads.{AreHeadCubes, IsElsewhere, KeepsOthers}
use Rattle.sl_shape_patterns.specs.Patterns.{PatternHolds, Reading}
use Rattle.sl_spec.proofs.MadeLemmas.{found_right}
use Rattle.sl_spec.specs.Numbers.{AreMadeFor, AreTold, KeepsMade, is_number, made_of}
use Rattle.sl_spec.specs.declared.unfolded.Around.{Around}

-- what holds of the head's only pattern
pub its_own : {V : Type 0} (P : Pattern → V → Type 0) (h : Head) (p : Pattern) (v : V) → h.pattern ≡ Some p → P p v
    → (q : Pattern) → h.pattern ≡ Some q → P q v
its_own P h p v its right q is =
    subst (λ (x : Pattern). P x v) (ap (λ (o : Option Pattern). unwrap_or o p) (sym its ∙ is)) right

module _ {V : Type 0} (IsRight : Head → V → Type 0) (blocks rest : List Around) (a : Around) (are : blocks ≡ a ∷ rest) where
  pub made_rest : (made : List (ℕ × V)) → AreMadeFor IsRight blocks made → AreMadeFor IsRight rest made
  made_rest made right =
      let told = subst (λ (bs : List Around). AreTold right.0 bs) are right.1 in
      (right.0, told.1, right.2)

  pub made_first : (old new : List (ℕ × V)) → AreMadeFor IsRight blocks old → KeepsMade IsRight rest old new → AreMadeFor IsRight (a ∷ []) new
  made_first old new right kept =
      let told = subst (λ (bs : List Around). AreTold right.0 bs) are right.1 in
      (right.0, (told.0, tt), kept right.0 told.1 right.2)

  pub kept_rest : (old new : List (ℕ × V)) → KeepsMade IsRight rest old new → KeepsMade IsRight blocks old new
  kept_rest old new kept head_at told right =
      let parts = subst (λ (bs : List Around). AreTold head_at bs) are told in
      kept head_at parts.1 right

  pub kept_both : (old mid new : List (ℕ × V)) → KeepsMade IsRight rest old mid → KeepsMade IsRight (a ∷ []) mid new → KeepsMade IsRight blocks old new
  kept_both old mid new inside first head_at told right =
      let parts = subst (λ (bs : List Around). AreTold head_at bs) are told in
      first head_at (parts.0, tt) (inside head_at parts.1 right)

pub rest_shorter : (blocks rest : List Around) (a : Around) → blocks ≡ a ∷ rest → length rest < length blocks
rest_shorter blocks rest a are =
    let e = ap (λ (bs : List Around). length bs) are in
    omega (arith, e)

-- what was made of a block's pattern
pub found_cubes : (r : Reading) (a : Around) (sets : List (ℕ × Vec Cube)) (p : Pattern) (cubes : Vec Cube) → (head_of a.head.now).pattern ≡ Some p
    → AreMadeFor (AreHeadCubes r) (a ∷ []) sets → made_of sets a.number ≡ Some cubes
    → IsUnionOf (PatternHolds r p 0) cubes.items × FitCount r.tables p cubes.items
found_cubes r a sets p cubes its made is = found_right (AreHeadCubes r) made.0 a made.1.0 sets cubes made.2 is p its

-- ---- what was made of other blocks

module _ {V : Type 0} where
  pub put_here : (a : Around) (old new : List (ℕ × V)) (v : V) → ((n : ℕ) → made_of new n ≡ cond (is_number a.number n) (Some v) (made_of old n))
      → KeepsOthers (a ∷ []) old new
  put_here a old new v put n apart = put n ∙ ap (λ (b : Bool). cond b (Some v) (made_of old n)) apart.0

  module _ (blocks rest : List Around) (a : Around) (are : blocks ≡ a ∷ rest) (old new : List (ℕ × V)) where
    pub others_first : KeepsOthers (a ∷ []) old new → KeepsOthers blocks old new
    others_first kept n apart =
        let parts = subst (λ (bs : List Around). IsElsewhere n bs) are apart in
        kept n (parts.0, tt)

    pub others_rest : KeepsOthers rest old new → KeepsOthers blocks old new
    others_rest kept n apart =
        let parts = subst (λ (bs : List Around). IsElsewhere n bs) are apart in
        kept n parts.1

  pub others_both : (blocks : List Around) (old mid new : List (ℕ × V)) → KeepsOthers blocks old mid → KeepsOthers blocks mid new → KeepsOthers blocks old new
  others_both blocks old mid new before after n apart = after n apart ∙ before n apart
