-- The places that a packable value has apart, put to its items again, give the value.
use Rattle.std.proofs.Common.{◌≡◌, ℕ, List, [], ◌∷◌, ◌++◌, length, map, refl, ap, sym, ◌∙◌, append_assoc}
use Rattle.sl_ast.specs.Trees.{define, attach_list, attach_one, macro, constructor, block}
use Rattle.sl_ast.specs.Validity.{Each}
use Rattle.sl_store_write.specs.Packs.{IsFileOf}
use Rattle.sl_store_write.specs.Placing.{after_inside, placed_inside, after_item, placed_item, placed_items}
use Rattle.sl_store_format.specs.Items.{constructor_at, block_at, Inners, no_inner, with_inner, Placed, item_at, with_at, GoodPlaced, write_placed}
use Rattle.sl_store_format.specs.Packed.{Written, Packed, IsPackable, IsPacked, inside_of, inner_places, item_of, item_places, all_places, apart, mark, pack}
use Rattle.sl_store_bytes.specs.Lexemes.{write_bytes}
use Rattle.sl_store_bytes.specs.Lists.{write_list}
use Rattle.sl_preproc.specs.declared.places.Place.{Place}
use Rattle.sl_store_format.proofs.ConditionLaws.{conditions_exact}

after_back : (is : Inners) (rest : List Place) → after_inside (inside_of is) (inner_places is ++ rest) ≡ rest
after_back no_inner rest = refl
after_back (with_inner (constructor_at p c) is) rest = after_back is rest
after_back (with_inner (block_at p h js) is) rest =
    ap (λ ps. after_inside (inside_of is) (after_inside (inside_of js) ps)) (append_assoc (inner_places js) (inner_places is) rest)
    ∙ ap (after_inside (inside_of is)) (after_back js (inner_places is ++ rest)) ∙ after_back is rest

placed_back : (is : Inners) (rest : List Place) → placed_inside (inside_of is) (inner_places is ++ rest) ≡ is
placed_back no_inner rest = refl
placed_back (with_inner (constructor_at p c) is) rest = ap (with_inner (constructor_at p c)) (placed_back is rest)
placed_back (with_inner (block_at p h js) is) rest =
    ap (λ ps. with_inner (block_at p h (placed_inside (inside_of js) ps)) (placed_inside (inside_of is) (after_inside (inside_of js) ps))) (append_assoc (inner_places js) (inner_places is) rest)
    ∙ ap (λ ks. with_inner (block_at p h ks) (placed_inside (inside_of is) (after_inside (inside_of js) (inner_places js ++ (inner_places is ++ rest))))) (placed_back js (inner_places is ++ rest))
    ∙ ap (λ ps. with_inner (block_at p h js) (placed_inside (inside_of is) ps)) (after_back js (inner_places is ++ rest))
    ∙ ap (with_inner (block_at p h js)) (placed_back is rest)

module _ (files : ℕ) where
  after_item_back : (i : Placed) (rest : List Place) → GoodPlaced files i → after_item (item_of i) (item_places i ++ rest) ≡ rest
  after_item_back (item_at p (define d)) rest good = refl
  after_item_back (item_at p (attach_list kind names members)) rest good = refl
  after_item_back (item_at p (attach_one kind names member)) rest good = refl
  after_item_back (item_at p (macro m)) rest good = refl
  after_item_back (item_at p (constructor c)) rest good = refl
  after_item_back (item_at p (block h inside)) rest good = absurd good.2
  after_item_back (with_at p h is) rest good = after_back is rest

  placed_item_back : (i : Placed) (rest : List Place) → GoodPlaced files i → placed_item (item_of i) (item_places i ++ rest) ≡ i
  placed_item_back (item_at p (define d)) rest good = refl
  placed_item_back (item_at p (attach_list kind names members)) rest good = refl
  placed_item_back (item_at p (attach_one kind names member)) rest good = refl
  placed_item_back (item_at p (macro m)) rest good = refl
  placed_item_back (item_at p (constructor c)) rest good = refl
  placed_item_back (item_at p (block h inside)) rest good = absurd good.2
  placed_item_back (with_at p h is) rest good = ap (with_at p h) (placed_back is rest)

  placed_items_back : (is : List Placed) → Each (GoodPlaced files) is → placed_items (map item_of is) (all_places is) ≡ is
  placed_items_back [] good = refl
  placed_items_back (i ∷ is) good =
      ap (λ j. j ∷ placed_items (map item_of is) (after_item (item_of i) (item_places i ++ all_places is))) (placed_item_back i (all_places is) good.0)
      ∙ ap (λ ps. i ∷ placed_items (map item_of is) ps) (after_item_back i (all_places is) good.0)
      ∙ ap (λ js. i ∷ js) (placed_items_back is good.1)

-- the bytes of the value, from its files, its places and its items
bytes_are : (w : Written) (p : Packed) → IsPackable w → apart w ≡ p
    → (mark ++ write_list write_bytes p.files) ++ write_list write_placed (placed_items p.items p.places) ≡ pack w
bytes_are w p good same =
    ap (λ (q : Packed). (mark ++ write_list write_bytes q.files) ++ write_list write_placed (placed_items q.items q.places)) (sym same)
    ∙ ap (λ is. (mark ++ write_list write_bytes w.files) ++ write_list write_placed is) (placed_items_back (length w.files) w.items good.items)
    ∙ append_assoc mark (write_list write_bytes w.files) (write_list write_placed w.items)

-- the file of what may be packed
pub file_of : (p : Packed) (bytes : List ℕ) → IsPacked p → bytes ≡ (mark ++ write_list write_bytes p.files) ++ write_list write_placed (placed_items p.items p.places) → IsFileOf p bytes
file_of p bytes good e =
    let may = conditions_exact.0 p good in
    record {
      written = may.written;
      is = may.is;
      are = record { good = may.packable; bytes = e ∙ bytes_are may.written p may.packable may.is };
    }
