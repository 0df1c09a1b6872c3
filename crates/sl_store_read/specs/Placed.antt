-- view: items that are read with their places, which are added to those before them, and with their numbers.
use Rattle.std.specs.Prelude.{◌≡◌, ℕ, List, [], ◌∷◌, ◌++◌, length, map, Result, Ok, Err, Vec}
use Rattle.std.specs.List.{range_with_len}
use Rattle.std.specs.declared.alloc.Global.{Global}
use Rattle.sl_ast.specs.Trees.{Inside, constructor_then, block_then}
use Rattle.sl_ast.specs.Views as view
use Rattle.sl_ast.specs.Views.{inner_step, inner_indexes, inner_indexes_step, item_indexes, joined_lists}
use Rattle.sl_ast.specs.declared.constructors.Inner as part
use Rattle.sl_ast.specs.declared.constructors.Inner.{fold-Inner}
use Rattle.sl_ast.specs.declared.items.Item as item
use Rattle.sl_store_format.specs.Items.{Inner, constructor_at, block_at, inners, Placed}
use Rattle.sl_store_format.specs.Packed.{inside_of, inner_places, item_of, item_places, all_places}
use Rattle.sl_store_bytes.specs.Reader.{Outcome}
use Rattle.sl_store_bytes.specs.Reads.{Stops}
use Rattle.sl_store_bytes.specs.declared.bytes.Stop.{Stop}
use Rattle.sl_preproc.specs.declared.places.Place.{Place}
use Rattle.sl_store_read.specs.declared.items.Placed as program

-- what a part of the program's tree is before the rest of its block
abbrev pub chain_of : part.Inner → Inside → Inside
chain_of = fold-Inner (Inside → Inside) inner_step

-- the indexes of first tokens that the part keeps
abbrev pub indexes_in : part.Inner → List ℕ
indexes_in = fold-Inner (List ℕ) inner_indexes_step

abbrev pub chain_in : Inner → Inside → Inside
chain_in (constructor_at p c) = constructor_then c
chain_in (block_at p h is) = block_then h (inside_of is)

abbrev pub places_in : Inner → List Place
places_in (constructor_at p c) = p ∷ []
places_in (block_at p h is) = p ∷ inner_places is

-- the numbers of the items whose places are added to those before them
abbrev pub numbered : (before added : List Place) → List ℕ
numbered before added = range_with_len (length before) (length added)

-- a part of a block
pub record IsInner (outcome : Outcome Inner) (before : List Place) (x : part.Inner) (after : List Place) (left : List ℕ) : Type 0 where
  pub inner : Inner
  pub reads : outcome ≡ Ok (inner, left)
  pub is : (rest : Inside) → chain_of x rest ≡ chain_in inner rest
  pub places : after ≡ before ++ places_in inner
  pub numbers : indexes_in x ≡ numbered before (places_in inner)

abbrev pub ReadsInner : Outcome Inner → List Place → Result part.Inner Stop → List Place → List ℕ → Type 0
ReadsInner outcome before (Ok x) after left = IsInner outcome before x after left
ReadsInner outcome before (Err e) after left = Stops outcome e

-- what is inside a block
pub record AreInside (outcome : Outcome (List Inner)) (before : List Place) (xs : List part.Inner) (after : List Place) (left : List ℕ) : Type 0 where
  pub members : List Inner
  pub reads : outcome ≡ Ok (members, left)
  pub are : view.inside_of xs ≡ inside_of (inners members)
  pub places : after ≡ before ++ inner_places (inners members)
  pub numbers : inner_indexes xs ≡ numbered before (inner_places (inners members))

abbrev pub ReadsInside : Outcome (List Inner) → List Place → Result (Vec part.Inner Global) Stop → List Place → List ℕ → Type 0
ReadsInside outcome before (Ok xs) after left = AreInside outcome before xs.items after left
ReadsInside outcome before (Err e) after left = Stops outcome e

-- an item
pub record IsItem (outcome : Outcome Placed) (before : List Place) (x : item.Item) (after : List Place) (left : List ℕ) : Type 0 where
  pub placed : Placed
  pub reads : outcome ≡ Ok (placed, left)
  pub is : view.item_of x ≡ item_of placed
  pub places : after ≡ before ++ item_places placed
  pub numbers : item_indexes x ≡ numbered before (item_places placed)

abbrev pub ReadsItem : Outcome Placed → List Place → Result item.Item Stop → List Place → List ℕ → Type 0
ReadsItem outcome before (Ok x) after left = IsItem outcome before x after left
ReadsItem outcome before (Err e) after left = Stops outcome e

-- all items, with all places
pub record AreItems (outcome : Outcome (List Placed)) (found : program.Placed) (left : List ℕ) : Type 0 where
  pub placed : List Placed
  pub reads : outcome ≡ Ok (placed, left)
  pub are : map view.item_of found.items.items ≡ map item_of placed
  pub places : found.places.items ≡ all_places placed
  pub numbers : joined_lists (map item_indexes found.items.items) ≡ numbered [] found.places.items

abbrev pub ReadsItems : Outcome (List Placed) → Result program.Placed Stop → List ℕ → Type 0
ReadsItems outcome (Ok found) left = AreItems outcome found left
ReadsItems outcome (Err e) left = Stops outcome e
