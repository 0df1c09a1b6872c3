-- Whole files, and their values with the places apart.
use Rattle.std.proofs.Common.{◌≡◌, ℕ, zero, suc, ◌<◌, ◌≤◌, ◌==◌, Bool, true, false, if◌then◌else◌, List, [], ◌∷◌, ◌++◌, length, map, Ok, Err, refl, ap, sym, ◌∙◌, subst, arith, append_assoc, append-nil}
use Rattle.sl_ast.specs.Trees.{Inside, nothing, constructor_then, block_then, Item, define, attach_list, attach_one, macro, constructor, block}
use Rattle.sl_ast.specs.Validity.{Each}
use Rattle.sl_store_format.specs.FileNames.{file_name}
use Rattle.sl_store_format.specs.Items.{greatest_line, place_of, Inner, constructor_at, block_at, Inners, no_inner, with_inner, Placed, item_at, with_at, write_placed, IsPlace, GoodPlaced, most_items, placed_here, items_here}
use Rattle.sl_store_format.specs.Packed.{Written, written_of, write_written, IsFileName, IsPackable, files_here, written_here, Packed, inside_of, inner_places, item_of, item_places, all_places, apart}
use Rattle.sl_store_bytes.specs.Exact.{Exact}
use Rattle.sl_store_bytes.specs.Lexemes.{write_bytes}
use Rattle.sl_store_bytes.specs.Lists.{write_list, listed, same_state, AreGood, IsListed}
use Rattle.sl_store_bytes.specs.Numbers.{greatest, IsWithin}
use Rattle.sl_store_bytes.specs.Reader.{Reader, ◌>>=◌, pure}
use Rattle.sl_preproc.specs.declared.places.Place.{Place}
use Rattle.sl_store_bytes.proofs.Chains.{Behind, behind_then, exact_from, exact_for}
use Rattle.sl_store_bytes.proofs.PartLaws.{exact_listed, each_good, good_each}
use Rattle.sl_store_bytes.proofs.RuleLaws.{took_then, took1, rule1}
use Rattle.sl_store_format.proofs.FileNameLaws.{exact_file_name}
use Rattle.sl_store_format.proofs.ItemLaws.{exact_placed}

-- a list of at most so many good members
abbrev UpTo : {A : Type 0} → ℕ → (A → Type 0) → List A → Type 0
UpTo most Good xs = (length xs ≤ most) × Each Good xs

module _ {A : Type 0} {write : A → List ℕ} {Good : A → Type 0} {p : Reader A} (most : ℕ) (high : most ≤ greatest) (exact : 0 < most → Exact write Good p) where
  listed_up_to : (xs : List A) → IsListed 0 most (λ left u a. Good a) same_state tt xs → UpTo most Good xs
  listed_up_to xs listed = (listed.long.high, each_good Good (length xs) xs listed.good)

  up_to_listed : (xs : List A) → UpTo most Good xs → IsListed 0 most (λ left u a. Good a) same_state tt xs
  up_to_listed xs good = record { long = record { low = omega arith; high = good.0 }; good = good_each Good xs good.1 }

  exact_up_to : Exact (write_list write) (UpTo most Good) (listed 0 most (λ left u. p) same_state tt)
  exact_up_to = exact_for
      (exact_listed 0 most (omega arith) (omega arith) high (λ left u a. Good a) (λ left u. p) same_state (λ left u. left ≤ most) (λ left u fine. exact (omega arith)) (λ left u a fine good. omega arith) tt (λ left within. within.high))
      listed_up_to up_to_listed

exact_files : Exact (write_list write_bytes) (UpTo greatest_line IsFileName) files_here
unfolding files_here
exact_files = exact_up_to greatest_line (omega arith) (λ some. exact_file_name)

-- ---- items

most_is : (files : ℕ) → 0 < files → most_items files ≡ greatest
most_is files some = let e : (files == 0) ≡ false = grind arith in rw e refl

none_is : (files : ℕ) → files ≡ 0 → most_items files ≡ 0
none_is files none = rw none refl

high_items : (files : ℕ) → most_items files ≤ greatest
high_items zero = omega arith
high_items (suc n) = let e = most_is (suc n) (omega arith) in omega arith

some_files : (files : ℕ) → 0 < most_items files → 0 < files
some_files zero h = absurd (omega arith)
some_files (suc n) h = omega arith

no_place : (p : Place) → IsPlace 0 p → ⊥
no_place p there = let low = there.file in omega arith

no_placed : (i : Placed) → GoodPlaced 0 i → ⊥
no_placed (item_at p i) good = no_place p good.0
no_placed (with_at p h is) good = no_place p good.0

few_items : (files : ℕ) (is : List Placed) → UpTo greatest (GoodPlaced files) is → UpTo (most_items files) (GoodPlaced files) is
few_items zero [] good = (omega arith, tt)
few_items zero (i ∷ is) good = absurd (no_placed i good.1.0)
few_items (suc n) is good = let e = most_is (suc n) (omega arith) in let high = good.0 in (omega arith, good.1)

items_few : (files : ℕ) (is : List Placed) → UpTo (most_items files) (GoodPlaced files) is → UpTo greatest (GoodPlaced files) is
items_few files is good = let high = high_items files in let low = good.0 in (omega arith, good.1)

exact_items : (files : ℕ) → files ≤ greatest_line → Exact (write_list write_placed) (UpTo greatest (GoodPlaced files)) (items_here files)
unfolding items_here
exact_items files few = exact_for (exact_up_to (most_items files) (high_items files) (λ some. exact_placed files (some_files files some) few)) (items_few files) (few_items files)

-- ---- whole files

written_behind : Behind write_written IsPackable [] written_here
unfolding written_here
written_behind = behind_then write_written IsPackable [] exact_files _ (λ files good.
    rule1 (exact_items (length files) good.0) (written_of files) write_written IsPackable (write_list write_bytes files)
    (λ items fit. record { few = good.0; names = good.1; many = fit.0; items = fit.1 }) (λ items. refl))

written_complete : (w : Written) (rest : List ℕ) → IsPackable w → written_here (write_written w ++ rest) ≡ Ok (w, rest)
unfolding written_here
written_complete w rest good = took_then exact_files (λ files. items_here (length files) >>= (λ items. pure (written_of files items))) w.files (write_list write_placed w.items) rest w (good.few, good.names)
    (took1 (exact_items (length w.files) good.few) (written_of w.files) w.items rest (good.many, good.items))

pub exact_written : Exact write_written IsPackable written_here
exact_written = exact_from written_behind written_complete

-- ---- the places say which value it is

head_of : List Place → Place
head_of [] = place_of 0 0
head_of (p ∷ ps) = p

tail_of : List Place → List Place
tail_of [] = []
tail_of (p ∷ ps) = ps

-- with the places that come next, and those that are left
zip_inside : Inside → List Place → Inners × List Place
zip_inside nothing ps = (no_inner, ps)
zip_inside (constructor_then c more) ps = (with_inner (constructor_at (head_of ps) c) (zip_inside more (tail_of ps)).0, (zip_inside more (tail_of ps)).1)
zip_inside (block_then h inside more) ps =
    (with_inner (block_at (head_of ps) h (zip_inside inside (tail_of ps)).0) (zip_inside more (zip_inside inside (tail_of ps)).1).0, (zip_inside more (zip_inside inside (tail_of ps)).1).1)

zip_back : (is : Inners) (rest : List Place) → zip_inside (inside_of is) (inner_places is ++ rest) ≡ (is, rest)
unfolding zip_inside head_of tail_of
zip_back no_inner rest = refl
zip_back (with_inner (constructor_at p c) is) rest = ap (λ (r : Inners × List Place). (with_inner (constructor_at p c) r.0, r.1)) (zip_back is rest)
zip_back (with_inner (block_at p h js) is) rest =
    ap (λ ps. zip_inside (block_then h (inside_of js) (inside_of is)) (p ∷ ps)) (append_assoc (inner_places js) (inner_places is) rest)
    ∙ ap (λ (r : Inners × List Place). (with_inner (block_at p h r.0) (zip_inside (inside_of is) r.1).0, (zip_inside (inside_of is) r.1).1)) (zip_back js (inner_places is ++ rest))
    ∙ ap (λ (r : Inners × List Place). (with_inner (block_at p h js) r.0, r.1)) (zip_back is rest)

zip_item : Item → List Place → Placed × List Place
zip_item (block h inside) ps = (with_at (head_of ps) h (zip_inside inside (tail_of ps)).0, (zip_inside inside (tail_of ps)).1)
zip_item i ps = (item_at (head_of ps) i, tail_of ps)

item_back : (files : ℕ) (i : Placed) (rest : List Place) → GoodPlaced files i → zip_item (item_of i) (item_places i ++ rest) ≡ (i, rest)
unfolding zip_item head_of tail_of
item_back files (item_at p (define d)) rest good = refl
item_back files (item_at p (attach_list kind names members)) rest good = refl
item_back files (item_at p (attach_one kind names member)) rest good = refl
item_back files (item_at p (macro m)) rest good = refl
item_back files (item_at p (constructor c)) rest good = refl
item_back files (item_at p (block h inside)) rest good = absurd good.2
item_back files (with_at p h is) rest good = ap (λ (r : Inners × List Place). (with_at p h r.0, r.1)) (zip_back is rest)

zip_items : List Item → List Place → List Placed
zip_items [] ps = []
zip_items (i ∷ is) ps = (zip_item i ps).0 ∷ zip_items is (zip_item i ps).1

items_back : (files : ℕ) (is : List Placed) → Each (GoodPlaced files) is → zip_items (map item_of is) (all_places is) ≡ is
unfolding zip_items
items_back files [] good = refl
items_back files (i ∷ is) good =
    ap (λ (r : Placed × List Place). r.0 ∷ zip_items (map item_of is) r.1) (item_back files i (all_places is) good.0) ∙ ap (λ js. i ∷ js) (items_back files is good.1)

-- a packable value is told by its files, places and items
pub apart_one : (w v : Written) → IsPackable w → IsPackable v → apart w ≡ apart v → w ≡ v
apart_one w v good other same =
    let files : w.files ≡ v.files = ap (λ (p : Packed). p.files) same in
    let items : w.items ≡ v.items =
    sym (items_back (length w.files) w.items good.items) ∙ ap (λ (p : Packed). zip_items p.items p.places) same ∙ items_back (length v.files) v.items other.items in
    ap (λ fs. written_of fs w.items) files ∙ ap (written_of v.files) items
