-- meaning: items with their places as bytes, the conditions on them, and their readers.
use Rattle.std.specs.Prelude.{◌≤◌, ◌<◌, ℕ, zero, suc, ◌-◌, Bool, true, false, ◌==◌, nat_le, if◌then◌else◌, List, [], ◌∷◌, ◌++◌}
use Rattle.sl_ast.specs.Trees.{Constructor, Head, Inside, nothing, constructor_then, block_then, Item, define, attach_list, attach_one, macro, constructor, block}
use Rattle.sl_ast.specs.Validity.{Each, heaviest, deepest, IsItem, IsHead, IsConstructor}
use Rattle.sl_store_format.specs.Constructors.{write_constructor, ConstructorLeaves, constructor_here, write_head, HeadLeaves, head_here, write_macro, MacroLeaves, macro_here}
use Rattle.sl_store_format.specs.Definitions.{write_names, NamesLeaves, names_here, write_definition, DefinitionLeaves, definition_here, write_member, MemberLeaves, member_here}
use Rattle.sl_store_format.specs.Forms.{item_forms}
use Rattle.sl_store_format.specs.declared.forms.ItemForm.{ItemForm}
use Rattle.sl_store_format.specs.declared.forms.ItemForm.TheVariants as x
use Rattle.sl_store_bytes.specs.Lists.{write_list, list_of, listed, same_state, AreEach}
use Rattle.sl_store_bytes.specs.Numbers.{write_number, number, greatest}
use Rattle.sl_store_bytes.specs.Orders.{kind_code, attach_kinds}
use Rattle.sl_store_bytes.specs.Reader.{Reader, ◌>>=◌, pure}
use Rattle.sl_store_bytes.specs.Tables.{coded, coded_if}
use Rattle.sl_preproc.specs.declared.places.Place.{Place}

-- ---- places

-- the greatest number of a file or a line
abbrev pub greatest_line : ℕ
greatest_line = 4294967295

abbrev pub place_of : ℕ → ℕ → Place
place_of f l = record { file = f; line = l }

abbrev pub write_place : Place → List ℕ
write_place p = write_number p.file ++ write_number p.line

-- a line of one of so many files
pub record IsPlace (files : ℕ) (p : Place) : Type 0 where
  pub file : p.file < files
  pub line : p.line ≤ greatest_line

unfoldable pub place_here : ℕ → Reader Place
place_here files = number 0 (files - 1) >>= (λ f. number 0 greatest_line >>= (λ l. pure (place_of f l)))

-- ---- items with their places

mutual
  -- what is inside a block, with its place
  pub data Inner : Type 0 where
    constructor_at : Place → Constructor → Inner
    block_at : Place → Head → Inners → Inner

  pub data Inners : Type 0 where
    no_inner : Inners
    with_inner : Inner → Inners → Inners

-- an item with its place; a block also has those inside it
pub data Placed : Type 0 where
  item_at : Place → Item → Placed
  with_at : Place → Head → Inners → Placed

abbrev pub inners : List Inner → Inners
inners [] = no_inner
inners (i ∷ is) = with_inner i (inners is)

abbrev pub size : Inners → ℕ
size no_inner = 0
size (with_inner i is) = suc (size is)

abbrev mutual
  pub write_inner : Inner → List ℕ
  write_inner (constructor_at p c) = write_place p ++ (4 ∷ write_constructor c)
  write_inner (block_at p h is) = write_place p ++ (5 ∷ (write_head h ++ (write_number (size is) ++ write_inners is)))

  pub write_inners : Inners → List ℕ
  write_inners no_inner = []
  write_inners (with_inner i is) = write_inner i ++ write_inners is

-- an item but a block
abbrev pub write_item : Item → List ℕ
write_item (define d) = 0 ∷ write_definition d
write_item (attach_list kind names members) = 1 ∷ (kind_code kind ∷ (write_names names ++ write_list write_member members))
write_item (attach_one kind names member) = 2 ∷ (kind_code kind ∷ (write_names names ++ write_member member))
write_item (macro m) = 3 ∷ write_macro m
write_item (constructor c) = 4 ∷ write_constructor c
write_item (block h inside) = []

abbrev pub write_placed : Placed → List ℕ
write_placed (item_at p i) = write_place p ++ write_item i
write_placed (with_at p h is) = write_place p ++ (5 ∷ (write_head h ++ (write_number (size is) ++ write_inners is)))

-- ---- what is good

abbrev pub GoodConstructor : Constructor → Type 0
GoodConstructor c = IsConstructor heaviest c × ConstructorLeaves c

abbrev pub GoodHead : Head → Type 0
GoodHead h = IsHead heaviest h × HeadLeaves h

-- names, numbers and texts of an item but a block
abbrev pub ItemLeaves : Item → Type 0
ItemLeaves (define d) = DefinitionLeaves d
ItemLeaves (attach_list kind names members) = NamesLeaves names × AreEach MemberLeaves members
ItemLeaves (attach_one kind names member) = NamesLeaves names × MemberLeaves member
ItemLeaves (macro m) = MacroLeaves m
ItemLeaves (constructor c) = ConstructorLeaves c
ItemLeaves (block h inside) = ⊥

module _ (files : ℕ) where
  -- with blocks inside one another at most so many times
  abbrev mutual
    pub GoodInner : ℕ → Inner → Type 0
    GoodInner n (constructor_at p c) = IsPlace files p × GoodConstructor c
    GoodInner zero (block_at p h is) = ⊥
    GoodInner (suc n) (block_at p h is) = IsPlace files p × GoodHead h × (size is ≤ greatest) × GoodInners n is

    pub GoodInners : ℕ → Inners → Type 0
    GoodInners n no_inner = Unit {0}
    GoodInners n (with_inner i is) = GoodInner n i × GoodInners n is

  abbrev pub GoodPlaced : Placed → Type 0
  GoodPlaced (item_at p i) = IsPlace files p × IsItem heaviest deepest i × ItemLeaves i
  GoodPlaced (with_at p h is) = IsPlace files p × GoodHead h × (size is ≤ greatest) × GoodInners deepest is

-- ---- readers

-- what may be inside a block, in which blocks are inside one another at most so many times
abbrev pub inner_fits : ℕ → ItemForm → Bool
inner_fits n x.Constructor = true
inner_fits n x.With = nat_le 1 n
inner_fits n form = false

-- a block after its byte
unfoldable pub block_here : {A : Type 0} → Reader Inner → (Head → Inners → A) → Reader A
block_here inner make = head_here >>= (λ h. list_of inner >>= (λ is. pure (make h (inners is))))

module _ (deeper : Reader Inner) where
  abbrev pub inner_by : Place → ItemForm → Reader Inner
  inner_by p x.With = block_here deeper (block_at p)
  inner_by p form = constructor_here >>= (λ c. pure (constructor_at p c))

  unfoldable pub nested_here : ℕ → ℕ → Reader Inner
  nested_here files n = place_here files >>= (λ p. coded_if (inner_fits n) item_forms >>= (λ form. inner_by p form))

-- what is inside a block, in which blocks are inside one another at most so many times
unfoldable pub inner_here : ℕ → ℕ → Reader Inner
inner_here files zero = nested_here (constructor_here >>= (λ c. pure (constructor_at (place_of 0 0) c))) files zero
inner_here files (suc n) = nested_here (inner_here files n) files (suc n)

unfoldable pub attached_list : Reader Item
attached_list = coded attach_kinds >>= (λ kind. names_here >>= (λ names. list_of member_here >>= (λ members. pure (attach_list kind names members))))

unfoldable pub attached_one : Reader Item
attached_one = coded attach_kinds >>= (λ kind. names_here >>= (λ names. member_here >>= (λ member. pure (attach_one kind names member))))

-- an item but a block, after its byte
abbrev pub plain_by : ItemForm → Reader Item
plain_by x.Define = definition_here >>= (λ d. pure (define d))
plain_by x.AttachList = attached_list
plain_by x.AttachOne = attached_one
plain_by x.Macro = macro_here >>= (λ m. pure (macro m))
plain_by form = constructor_here >>= (λ c. pure (constructor c))

abbrev pub placed_by : ℕ → Place → ItemForm → Reader Placed
placed_by files p x.With = block_here (inner_here files deepest) (with_at p)
placed_by files p form = plain_by form >>= (λ i. pure (item_at p i))

unfoldable pub placed_here : ℕ → Reader Placed
placed_here files = place_here files >>= (λ p. coded item_forms >>= (λ form. placed_by files p form))

-- how many items there may be: none where there is no file
abbrev pub most_items : ℕ → ℕ
most_items files = if files == 0 then 0 else greatest

unfoldable pub items_here : ℕ → Reader (List Placed)
items_here files = listed 0 (most_items files) (λ left u. placed_here files) same_state tt
