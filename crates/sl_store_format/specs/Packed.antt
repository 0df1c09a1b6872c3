-- meaning: a packed specification: the files' names, the places of its items, and the items; and its bytes.
use Rattle.std.specs.Prelude.{◌≡◌, ◌≤◌, ℕ, suc, ◌+◌, List, [], ◌∷◌, ◌++◌, length, map, codes}
use Rattle.std.specs.Str.{IsUtf8}
use Rattle.sl_ast.specs.Trees.{Constructor, Head, Inside, nothing, constructor_then, block_then, Item, block}
use Rattle.sl_ast.specs.Validity as v
use Rattle.sl_ast.specs.Validity.{Each}
use Rattle.sl_store_format.specs.Constructors.{ConstructorLeaves, HeadLeaves}
use Rattle.sl_store_format.specs.FileNames.{file_name}
use Rattle.sl_store_format.specs.Items.{ItemLeaves, IsPlace, greatest_line, Inner, constructor_at, block_at, Inners, no_inner, with_inner, Placed, item_at, with_at, write_placed, GoodPlaced, items_here}
use Rattle.sl_store_bytes.specs.Lexemes.{write_bytes}
use Rattle.sl_store_bytes.specs.Lists.{write_list, listed, same_state}
use Rattle.sl_store_bytes.specs.Numbers.{greatest}
use Rattle.sl_store_bytes.specs.Reader.{Reader, ◌>>=◌, pure}
use Rattle.sl_store_bytes.specs.Verdicts.{after_mark}
use Rattle.sl_preproc.specs.declared.places.Place.{Place}

-- ---- the value that is written: each item has its place

pub record Written : Type 0 where
  pub files : List (List ℕ)
  pub items : List Placed

abbrev pub written_of : List (List ℕ) → List Placed → Written
written_of files items = record { files = files; items = items }

-- the mark at the front
abbrev pub mark : List ℕ
mark = codes "SLEIGHP1"

abbrev pub write_written : Written → List ℕ
write_written w = write_list write_bytes w.files ++ write_list write_placed w.items

-- the bytes of a packed specification
abbrev pub pack : Written → List ℕ
pack = after_mark mark write_written

-- UTF-8 that a file can count
abbrev pub IsFileName : List ℕ → Type 0
IsFileName name = IsUtf8 name × (length name ≤ greatest)

-- what may be packed
pub record IsPackable (w : Written) : Type 0 where
  pub few : length w.files ≤ greatest_line
  pub names : Each IsFileName w.files
  pub many : length w.items ≤ greatest
  pub items : Each (GoodPlaced (length w.files)) w.items

unfoldable pub files_here : Reader (List (List ℕ))
files_here = listed 0 greatest_line (λ left u. file_name) same_state tt

unfoldable pub written_here : Reader Written
written_here = files_here >>= (λ files. items_here (length files) >>= (λ items. pure (written_of files items)))

-- ---- the same value with the places apart

pub record Packed : Type 0 where
  pub files : List (List ℕ)
  pub places : List Place
  pub items : List Item

-- what is inside a block, without places
abbrev pub inside_of : Inners → Inside
inside_of no_inner = nothing
inside_of (with_inner (constructor_at p c) is) = constructor_then c (inside_of is)
inside_of (with_inner (block_at p h js) is) = block_then h (inside_of js) (inside_of is)

abbrev pub inner_places : Inners → List Place
inner_places no_inner = []
inner_places (with_inner (constructor_at p c) is) = p ∷ inner_places is
inner_places (with_inner (block_at p h js) is) = p ∷ (inner_places js ++ inner_places is)

abbrev pub item_of : Placed → Item
item_of (item_at p i) = i
item_of (with_at p h is) = block h (inside_of is)

abbrev pub item_places : Placed → List Place
item_places (item_at p i) = p ∷ []
item_places (with_at p h is) = p ∷ inner_places is

-- in text order, a block's before those inside it
abbrev pub all_places : List Placed → List Place
all_places [] = []
all_places (i ∷ is) = item_places i ++ all_places is

-- the places and the items of the value, apart
abbrev pub apart : Written → Packed
apart w = record { files = w.files; places = all_places w.items; items = map item_of w.items }

-- ---- the conditions, on the value with the places apart

abbrev pub chain_length : Inside → ℕ
chain_length nothing = 0
chain_length (constructor_then c more) = suc (chain_length more)
chain_length (block_then h inside more) = suc (chain_length more)

-- how many items are inside a block, those of blocks among them
abbrev pub inside_count : Inside → ℕ
inside_count nothing = 0
inside_count (constructor_then c more) = suc (inside_count more)
inside_count (block_then h inside more) = suc (inside_count inside + inside_count more)

abbrev pub item_count : Item → ℕ
item_count (block h inside) = suc (inside_count inside)
item_count i = 1

abbrev pub items_count : List Item → ℕ
items_count [] = 0
items_count (i ∷ is) = item_count i + items_count is

-- names, texts and numbers are such
abbrev pub InsideLeaves : Inside → Type 0
InsideLeaves nothing = Unit {0}
InsideLeaves (constructor_then c more) = ConstructorLeaves c × InsideLeaves more
InsideLeaves (block_then h inside more) = HeadLeaves h × (chain_length inside ≤ greatest) × InsideLeaves inside × InsideLeaves more

abbrev pub AllItemLeaves : Item → Type 0
AllItemLeaves (block h inside) = HeadLeaves h × (chain_length inside ≤ greatest) × InsideLeaves inside
AllItemLeaves i = ItemLeaves i

-- The items are those of a specification without a fault, names, texts and numbers are such, there are as many
-- places as items, and each is in one of the files.
pub record IsPacked (p : Packed) : Type 0 where
  pub few : length p.files ≤ greatest_line
  pub names : Each IsFileName p.files
  pub many : length p.items ≤ greatest
  pub no_fault : v.AreItems p.items
  pub leaves : Each AllItemLeaves p.items
  pub as_many : length p.places ≡ items_count p.items
  pub places : Each (IsPlace (length p.files)) p.places
