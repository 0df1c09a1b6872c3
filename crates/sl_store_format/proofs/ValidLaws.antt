-- Packable items have no fault, and packed files are apart.
use Rattle.std.proofs.Common.{◌≡◌, ℕ, zero, suc, List, [], ◌∷◌, ◌++◌, length, drop, map, refl, ap, sym, ◌∙◌, append_assoc}
use Rattle.sl_ast.specs.Trees.{Item}
use Rattle.sl_ast.specs.Validity.{heaviest, deepest, Each, IsInside, IsItem}
use Rattle.sl_store_format.specs.Items.{constructor_at, block_at, Inners, no_inner, with_inner, Placed, item_at, with_at, GoodInners, GoodPlaced}
use Rattle.sl_store_format.specs.Packed.{Written, mark, write_written, pack, IsPackable, inside_of, item_of}
use Rattle.sl_store_bytes.specs.Exact.{AreApart}
use Rattle.sl_store_bytes.specs.Verdicts.{Are, AreCut}
use Rattle.sl_store_bytes.proofs.Chains.{are_apart}
use Rattle.sl_store_format.proofs.PackedLaws.{exact_written}

inside_valid : (files n : ℕ) (is : Inners) → GoodInners files n is → IsInside heaviest n (inside_of is)
inside_valid files n no_inner good = tt
inside_valid files n (with_inner (constructor_at p c) is) good = (good.0.1.0, inside_valid files n is good.1)
inside_valid files zero (with_inner (block_at p h js) is) good = absurd good.0
inside_valid files (suc n) (with_inner (block_at p h js) is) good = (good.0.1.0, inside_valid files n js good.0.3, inside_valid files (suc n) is good.1)

item_valid : (files : ℕ) (i : Placed) → GoodPlaced files i → IsItem heaviest deepest (item_of i)
item_valid files (item_at p i) good = good.1
item_valid files (with_at p h is) good = (good.1.0, inside_valid files deepest is good.3)

pub items_valid : (files : ℕ) (is : List Placed) → Each (GoodPlaced files) is → Each (IsItem heaviest deepest) (map item_of is)
items_valid files [] good = tt
items_valid files (i ∷ is) good = (item_valid files i good.0, items_valid files is good.1)

pub packs_apart : AreApart pack IsPackable
packs_apart a b rest good_a good_b e =
    let after : write_written b ≡ write_written a ++ rest = ap (drop 8) (e ∙ append_assoc mark (write_written a) rest) in
    are_apart exact_written a b rest good_a good_b after

pub whole_not_cut : (bytes : List ℕ) (w : Written) → Are pack IsPackable bytes w → AreCut pack IsPackable bytes → ⊥
whole_not_cut bytes w are cut = cut.not_whole w are
