-- view: the constructors of a part of a block, or of an item, added to those so far.
use Rattle.std.specs.Prelude.{◌≡◌, ℕ, ◌+◌, List, ◌∷◌, ◌++◌, map}
use Rattle.sl_ast.specs.Trees.{Constructor, Head, Inside, Item}
use Rattle.sl_ast.specs.Unfolding.{Placed, constructors_inside, count_inside, unfolded_from}
use Rattle.sl_ast.specs.Views.{inner_step}
use Rattle.sl_ast.specs.declared.constructors.Inner.{Inner, fold-Inner}
use Rattle.sl_spec.specs.Unfolded.{under, unfolded_one}
use Rattle.sl_spec.specs.ConstructorItems.{constructors_in}

-- a part of a block before what stands behind it
abbrev pub inner_before : Inner → Inside → Inside
inner_before = fold-Inner (Inside → Inside) inner_step

abbrev pub all_under : List Head → List (Placed Constructor) → List (Placed Constructor)
all_under heads cs = map (λ c. (c.0, under heads c.1)) cs

-- The constructors of a part were added to the old ones, and `next` is the number behind it,
-- whatever follows.
pub record Adds (heads : List Head) (number : ℕ) (part : Inside → Inside)
    (old : List (Placed Constructor)) (next : ℕ) (new : List (Placed Constructor)) : Type 0 where
  pub constructors : (rest : Inside)
      → new ++ all_under heads (constructors_inside next rest)
      ≡ old ++ all_under heads (constructors_inside number (part rest))
  pub numbers : (rest : Inside) → next + count_inside rest ≡ number + count_inside (part rest)

-- The constructors of an item were added to the old ones, and `next` is the number behind it.
pub record AddsItem (number : ℕ) (item : Item)
    (old : List (Placed Constructor)) (next : ℕ) (new : List (Placed Constructor)) : Type 0 where
  pub constructors : new ≡ old ++ constructors_in (unfolded_one number item)
  pub rest : (items : List Item)
      → unfolded_from number (item ∷ items) ≡ unfolded_one number item ++ unfolded_from next items
