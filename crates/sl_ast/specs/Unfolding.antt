-- meaning: a specification without its `with` blocks: each constructor of a block stands in the block's place, with the
-- table, the pattern and the actions that the blocks round it give it (SLEIGH manual, "The with block").
use Rattle.std.specs.Prelude.{ℕ, ◌+◌, List, [], ◌∷◌, ◌++◌, length, Option, None, Some}
use Rattle.sl_ast.specs.Trees.{Pattern, group, joined, Action, Constructor, Head, Inside, nothing, constructor_then, block_then, Item, constructor, block}
use Rattle.sl_ast.specs.Spelling.{spell_head, spell_constructor, spell_item}
use Rattle.sl_ast.specs.declared.patterns.PatternOp.TheVariants.{And}

-- the first, else the second
abbrev pub or_else : {A : Type 0} → Option A → Option A → Option A
or_else (Some x) y = Some x
or_else None y = y

-- the block's pattern before what stands inside: `(H) & (P)`
abbrev pub under : Option Pattern → Pattern → Pattern
under None p = p
under (Some h) p = joined And (group h) (group p)

abbrev pub written : Option (List Action) → List Action
written None = []
written (Some as') = as'

-- the actions of the block and then those inside
abbrev pub before : Option (List Action) → Option (List Action) → Option (List Action)
before None inner = inner
before (Some outer) inner = Some (outer ++ written inner)

-- the constructor as it stands in the block
abbrev pub in_block : Head → Constructor → Constructor
in_block h c = record {
  table = or_else c.table h.table;
  display = c.display;
  pattern = under h.pattern c.pattern;
  actions = before h.actions c.actions;
  section = c.section;
}

-- an item with its number among all items of the text, a block standing before what is inside it
abbrev pub Placed : Type 0 → Type 0
Placed A = ℕ × A

abbrev pub all_in_block : Head → List (Placed Constructor) → List (Placed Constructor)
all_in_block h [] = []
all_in_block h (c ∷ cs) = (c.0, in_block h c.1) ∷ all_in_block h cs

-- how many items stand inside
abbrev pub count_inside : Inside → ℕ
count_inside nothing = 0
count_inside (constructor_then c more) = 1 + count_inside more
count_inside (block_then h inside more) = 1 + count_inside inside + count_inside more

-- the constructors of what stands inside a block, numbered from n on
abbrev pub constructors_inside : ℕ → Inside → List (Placed Constructor)
constructors_inside n nothing = []
constructors_inside n (constructor_then c more) = (n, c) ∷ constructors_inside (1 + n) more
constructors_inside n (block_then h inside more) =
    all_in_block h (constructors_inside (1 + n) inside) ++ constructors_inside (1 + n + count_inside inside) more

abbrev pub as_items : List (Placed Constructor) → List (Placed Item)
as_items [] = []
as_items (c ∷ cs) = (c.0, constructor c.1) ∷ as_items cs

abbrev pub unfolded_from : ℕ → List Item → List (Placed Item)
unfolded_from n [] = []
unfolded_from n (block h inside ∷ items) =
    as_items (all_in_block h (constructors_inside (1 + n) inside)) ++ unfolded_from (1 + n + count_inside inside) items
unfolded_from n (item ∷ items) = (n, item) ∷ unfolded_from (1 + n) items

-- the items of the unfolded tree, in the text's order
abbrev pub unfolded : List Item → List (Placed Item)
unfolded items = unfolded_from 0 items

-- ---- the index of each item's first token

abbrev pub size_of_head : Head → ℕ
size_of_head h = length (spell_head h [])

-- of what stands inside a block, behind so many tokens; the index behind it
abbrev pub firsts_inside : ℕ → Inside → List ℕ
firsts_inside at nothing = []
firsts_inside at (constructor_then c more) = at ∷ firsts_inside (at + length (spell_constructor c [])) more
firsts_inside at (block_then h inside more) =
    at ∷ (firsts_inside (at + size_of_head h) inside ++ firsts_inside (at + length (spell_item (block h inside) [])) more)

abbrev pub firsts_from : ℕ → List Item → List ℕ
firsts_from at [] = []
firsts_from at (block h inside ∷ items) =
    at ∷ (firsts_inside (at + size_of_head h) inside ++ firsts_from (at + length (spell_item (block h inside) [])) items)
firsts_from at (item ∷ items) = at ∷ firsts_from (at + length (spell_item item [])) items

-- the index of the first token of each item, a block standing before what is inside it
abbrev pub firsts : List Item → List ℕ
firsts items = firsts_from 0 items
