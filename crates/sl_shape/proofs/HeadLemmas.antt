-- What was made of the patterns of blocks stays right while lists are added.
use Rattle.std.proofs.Common.{◌≡◌, ℕ, zero, suc, ◌<◌, List, [], ◌∷◌, Result, Ok, Err, length, get_or, arith, refl, sym, ◌∙◌, subst}
use Rattle.std.specs.Global.{Vec}
use Rattle.std.specs.List.{AllByRecursion}
use Rattle.std.specs.Prelude.{IfOk}
use Rattle.sl_ast.specs.Trees.{Head, Pattern}
use Rattle.sl_cube.specs.declared.Cube.{Cube}
use Rattle.sl_shape_patterns.specs.Heads.{AreHeadCubes, IsHeadWindow, KeepsOthers}
use Rattle.sl_shape_patterns.proofs.HeadLemmas.{others_both, others_first, others_rest}
use Rattle.sl_shape.specs.Below.{IsShaped, Shows, shapes_in}
use Rattle.sl_shape.specs.HeadsMade.{AreRight, IsHeadShape, KeepsShapes, by_extents}
use Rattle.sl_shape.specs.PatternShapes.{Shapes}
use Rattle.sl_shape.specs.declared.below.Below.{Below}
use Rattle.sl_shape.specs.declared.below.HeadsMade.{HeadsMade}
use Rattle.sl_shape.specs.declared.below.TokenLists.{TokenLists}
use Rattle.sl_shape.specs.declared.stop.Stop.{Stop}
use Rattle.sl_shape.proofs.BelowLemmas.{all_seen, all_there, gets_same, keeps_same, keeps_there, seen_more, shows_more}
use Rattle.sl_shape_tokens.specs.Lists.{IsThere, Keeps}
use Rattle.sl_shape_tokens.specs.declared.shapes.Shape as code
use Rattle.sl_spec.specs.Numbers.{AreMade, AreMadeFor, AreTold, KeepsMade}
use Rattle.sl_spec.specs.declared.unfolded.Around.{Around}

-- what holds of all holds of one
pub all_at : {X : Type 0} (P : X → Type 0) (xs : List X) → AllByRecursion P xs → (i : ℕ) (x : X) → i < length xs → x ≡ get_or xs i x → P x
all_at P [] all i x below e = absurd (omega arith)
all_at P (y ∷ ys) all zero x below e = subst P (sym e) all.0
all_at P (y ∷ ys) all (suc i) x below e = all_at P ys all.1 i x (omega arith) e

module _ (b : Below) where
  pub shown : (l : TokenLists) → AllByRecursion (IsThere l.all) b.shapes.now → Shows b l (shapes_in b l)
  shown l there = record { there = there; are = refl }

  -- ---- lists are added

  module _ (old new : TokenLists) (there : AllByRecursion (IsThere old.all) b.shapes.now) (keeps : Keeps old.all new.all) where
    pub there_more : AllByRecursion (IsThere new.all) b.shapes.now
    there_more = all_there old.all new.all keeps b.shapes.now there

    pub shapes_same : shapes_in b old ≡ shapes_in b new
    shapes_same = sym (all_seen old.all new.all keeps b.shapes.now there)

    module _ (head_at : ℕ → Head) where
      pub shapes_more : (made : List (ℕ × code.Shape)) → AreMade (IsHeadShape b old) head_at made → AreMade (IsHeadShape b new) head_at made
      shapes_more made right n s found p is =
          let i = right n s found p is in
          let more : IsShaped b (shapes_in b old) new new p s = record {
            want = i.want;
            gets = gets_same b new (shapes_in b old) i.want s (keeps_there old.all new.all keeps s.tokens.0 i.gets.there)
                (seen_more old.all new.all keeps s i.gets.there ∙ i.gets.is) (shows_more b old new (shapes_in b old) keeps (shown old there));
            shape = i.shape;
            sound = i.sound;
          } in
          subst (λ (ss : Shapes). IsShaped b ss new new p s) shapes_same more

  module _ (old new : TokenLists) (there : AllByRecursion (IsThere old.all) b.shapes.now) (p : Pattern) (s : code.Shape)
      (shaped : (shapes : Shapes) → Shows b old shapes → IsShaped b shapes old new p s) where
    pub lists_kept : Keeps old.all new.all
    lists_kept = (shaped (shapes_in b old) (shown old there)).gets.keeps

    pub shaped_now : IsShaped b (shapes_in b new) new new p s
    shaped_now =
        let i = shaped (shapes_in b old) (shown old there) in
        let here : IsShaped b (shapes_in b old) new new p s = record {
          want = i.want;
          gets = gets_same b new (shapes_in b old) i.want s i.gets.there i.gets.is i.gets.shows;
          shape = i.shape;
          sound = i.sound;
        } in
        subst (λ (ss : Shapes). IsShaped b ss new new p s) (sym i.gets.shows.are) here

  -- ---- block by block

  pub own_kept : (old new : TokenLists) → AllByRecursion (IsThere old.all) b.shapes.now → (p : Pattern) (blocks : List Around) (made : List (ℕ × code.Shape))
      (r : Result code.Shape Stop) → IfOk r (λ s. (shapes : Shapes) → Shows b old shapes → IsShaped b shapes old new p s) → IfOk r (λ _. KeepsShapes b old new blocks made made)
  own_kept old new there p blocks made (Ok s) shaped = λ head_at told right. shapes_more old new there (lists_kept old new there p s shaped) head_at made right
  own_kept old new there p blocks made (Err e) shaped = shaped

  module _ (blocks rest : List Around) (a : Around) (are : blocks ≡ a ∷ rest) where
    pub rest_kept : (old new : TokenLists) (before after : List (ℕ × code.Shape)) (r : Result code.Shape Stop)
        → IfOk r (λ _. KeepsShapes b old new rest before after) → IfOk r (λ _. KeepsShapes b old new blocks before after)
    rest_kept old new before after (Ok s) kept = λ head_at told right.
        let parts = subst (λ (bs : List Around). AreTold head_at bs) are told in
        kept head_at parts.1 right
    rest_kept old new before after (Err e) kept = kept

    pub rest_made : (old mid : TokenLists) (before made : List (ℕ × code.Shape)) → AreMadeFor (IsHeadShape b old) blocks before → KeepsShapes b old mid (a ∷ []) before made
        → AreMadeFor (IsHeadShape b mid) rest made
    rest_made old mid before made right kept =
        let parts = subst (λ (bs : List Around). AreTold right.0 bs) are right.1 in
        (right.0, parts.1, kept right.0 (parts.0, tt) right.2)

    pub both_kept : (old mid late new : TokenLists) (before made after : List (ℕ × code.Shape)) → KeepsShapes b old mid (a ∷ []) before made → KeepsShapes b mid late rest made after
        → AllByRecursion (IsThere late.all) b.shapes.now → new.all ≡ late.all → (r : Result code.Shape Stop) → IfOk r (λ _. KeepsShapes b old new blocks before after)
    both_kept old mid late new before made after first inside there same (Ok s) = λ head_at told right.
        let parts = subst (λ (bs : List Around). AreTold head_at bs) are told in
        shapes_more late new there (subst (λ (l : List (List ℕ)). Keeps late.all l) (sym same) (keeps_same late.all)) head_at after
        (inside head_at parts.1 (first head_at (parts.0, tt) right))
    both_kept old mid late new before made after first inside there same (Err e) = tt

-- ---- the first of some blocks, and then the rest

module _ {V : Type 0} (IsRight : Head → V → Type 0) (blocks rest : List Around) (a : Around) (are : blocks ≡ a ∷ rest) where
  pub first_made : (made : List (ℕ × V)) → AreMadeFor IsRight blocks made → AreMadeFor IsRight (a ∷ []) made
  first_made made right =
      let parts = subst (λ (bs : List Around). AreTold right.0 bs) are right.1 in
      (right.0, (parts.0, tt), right.2)

  pub then_rest : (old mid : List (ℕ × V)) → AreMadeFor IsRight blocks old → KeepsMade IsRight (a ∷ []) old mid → AreMadeFor IsRight rest mid
  then_rest old mid right first =
      let parts = subst (λ (bs : List Around). AreTold right.0 bs) are right.1 in
      (right.0, parts.1, first right.0 (parts.0, tt) right.2)

  pub first_then : (old mid new : List (ℕ × V)) → KeepsMade IsRight (a ∷ []) old mid → KeepsMade IsRight rest mid new → KeepsMade IsRight blocks old new
  first_then old mid new first inside head_at told right =
      let parts = subst (λ (bs : List Around). AreTold head_at bs) are told in
      inside head_at parts.1 (first head_at (parts.0, tt) right)

-- ---- what was made of other blocks

module _ (blocks rest : List Around) (a : Around) (are : blocks ≡ a ∷ rest) where
  pub other_rest : (before after : List (ℕ × code.Shape)) (r : Result code.Shape Stop) → IfOk r (λ _. KeepsOthers rest before after) → IfOk r (λ _. KeepsOthers blocks before after)
  other_rest before after (Ok s) kept = others_rest blocks rest a are before after kept
  other_rest before after (Err e) kept = kept

  pub other_both : (before made after : List (ℕ × code.Shape)) → KeepsOthers (a ∷ []) before made → KeepsOthers rest made after
      → (r : Result code.Shape Stop) → IfOk r (λ _. KeepsOthers blocks before after)
  other_both before made after first inside (Ok s) =
      others_both blocks before made after (others_first blocks rest a are before made first) (others_rest blocks rest a are made after inside)
  other_both before made after first inside (Err e) = tt

-- ---- what is read by extents

module _ (b : Below) (found shapes : Shapes) (same : found ≡ shapes) (head_at : ℕ → Head) where
  pub windows_more : (made : List (ℕ × ℕ)) → AreMade (IsHeadWindow (by_extents b.tables.now found b.hulls.now)) head_at made
      → AreMade (IsHeadWindow (by_extents b.tables.now shapes b.hulls.now)) head_at made
  windows_more made right = subst (λ (ss : Shapes). AreMade (IsHeadWindow (by_extents b.tables.now ss b.hulls.now)) head_at made) same right

  pub sets_more : (made : List (ℕ × Vec Cube)) → AreMade (AreHeadCubes (by_extents b.tables.now found b.hulls.now)) head_at made
      → AreMade (AreHeadCubes (by_extents b.tables.now shapes b.hulls.now)) head_at made
  sets_more made right = subst (λ (ss : Shapes). AreMade (AreHeadCubes (by_extents b.tables.now ss b.hulls.now)) head_at made) same right

-- ---- all that was made

pub right_more : (b : Below) (old new : TokenLists) → Keeps old.all new.all → (head_at : ℕ → Head) (made : HeadsMade) → AreRight b old head_at made → AreRight b new head_at made
right_more b old new keeps head_at made right =
    let same = shapes_same b old new right.there keeps in
    record {
      there = there_more b old new right.there keeps;
      counts = right.counts;
      shapes = shapes_more b old new right.there keeps head_at made.shapes right.shapes;
      windows = windows_more b (shapes_in b old) (shapes_in b new) same head_at made.windows right.windows;
      sets = sets_more b (shapes_in b old) (shapes_in b new) same head_at made.sets right.sets;
      shapes_marked = right.shapes_marked;
      windows_marked = right.windows_marked;
      sets_marked = right.sets_marked;
    }
