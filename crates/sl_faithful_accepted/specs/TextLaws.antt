-- law: the lists of the instructions of a text are translations, without any bound on what is
-- decoded: rules 36 and 38 have them all.
use Rattle.std.specs.Prelude.{◌≡◌, ℕ, ◌^◌, ◌<◌, ◌≤◌, false, List, [], ◌∷◌, length, map, Ok, Some}
use Rattle.std.specs.Prelude.{slice_get}
use Rattle.std.specs.List.{Contains}
use Rattle.sl_ast.specs.Trees.{Constructor, Item}
use Rattle.sl_ast.specs.Unfolding.{Placed}
use Rattle.sl_faithful_code.specs.Nodes.{node_code, top_of}
use Rattle.sl_faithful_code.specs.Operations.{operation_of}
use Rattle.sl_spec_constructors.specs.Listed.{AreListed}
use Rattle.sl_cube.specs.declared.Point.{Point}
use Rattle.sl_decode_meaning.specs.Decoding.{Decoded, decoded}
use Rattle.sl_decode_meaning.specs.TreeCounts.{count}
use Rattle.sl_decode_meaning.specs.Choices.{Choice}
use Rattle.sl_decode_meaning.specs.Trees.{Node, Trees}
use Rattle.sl_faithful_keeping.specs.Keeping.{IsSetting}
use Rattle.sl_faithful_keeping.specs.Translations.{IsTranslation}
use Rattle.sl_section_all.specs.Scopes.{scopes_of}
use Rattle.sl_meaning_instruction.specs.Instructions.{instruction, is_unimplemented}
use Rattle.sl_meaning_instruction.specs.Instructions.{setting_of, specification_of}
use Rattle.sl_meaning_sections.specs.References.{Setting}
use Rattle.sl_pcode.specs.declared.operation.Op.{Op}
use Rattle.sl_faithful_sections.specs.SoundLaws.{IsKnown, uses_in}
use Rattle.sl_spec.specs.Tables.{Space, Table}
use Rattle.sl_spec.specs.declared.tables.Tables.{Tables}
use Rattle.sl_faithful_instructions.specs.Shaped.{AreShaped, ChoosesOf, number_of}
use Rattle.sl_faithful_instructions.specs.Sound.{AllGiven}
use Rattle.sl_faithful_limits.specs.TreeLaws.{KeepLimits}
use Rattle.sl_word.specs.declared.word.Size.{Size}

-- What is known of a text with these tables and sizes, and of a tree that is decoded by it, none of
-- whose nodes is `unimpl`.
pub record IsDecoded (items : List Item) (t : Tables) (sizes : List (List Size)) (g : Setting)
    (bytes : List ℕ) (f : Trees Node) : Type 0 where
  pub setting : IsSetting g
  pub known : IsKnown (specification_of items t sizes) g
  pub limits : KeepLimits t (specification_of items t sizes).constructors (scopes_of items).macros
  pub shaped : AreShaped t number_of f (0 ∷ [])
  pub gives : AllGiven (specification_of items t sizes)
      (uses_in (specification_of items t sizes) known.whole.last) g bytes f
  pub implemented : is_unimplemented (specification_of items t sizes).constructors f ≡ false

-- Its operations are a well-formed list, which does what the instruction does.
abbrev pub TextsAreTranslated : Type 0
TextsAreTranslated = (items : List Item) (t : Tables) (sizes : List (List Size)) (g : Setting)
    (bytes : List ℕ) (f : Trees Node) (ops : List Op) → IsDecoded items t sizes g bytes f
    → map operation_of ops
    ≡ node_code (top_of (count f)) g (instruction (specification_of items t sizes) bytes f)
    → IsTranslation g (instruction (specification_of items t sizes) bytes f) ops

-- ---- decodes

-- There is a space, the numbers of spaces have 32 bits, and addresses at most 8 bytes.
pub record SpacesFit (t : Tables) : Type 0 where
  pub some : 0 < length t.spaces
  pub few : length t.spaces ≤ 2 ^ 32
  pub narrow : (i : ℕ) (space : Space) → slice_get t.spaces i ≡ Some space → space.size ≤ 8

-- What is known of a text and of a decode at an address, none of whose nodes is `unimpl`.
pub record IsRead (items : List Item) (t : Tables) (sizes : List (List Size)) (bytes : List ℕ)
    (address : ℕ) (d : Decoded) : Type 0 where
  pub spaces : SpacesFit t
  pub known : IsKnown (specification_of items t sizes) (setting_of t address d.after)
  pub limits : KeepLimits t (specification_of items t sizes).constructors (scopes_of items).macros
  pub gives : AllGiven (specification_of items t sizes)
      (uses_in (specification_of items t sizes) known.whole.last)
      (setting_of t address d.after) bytes d.tree
  pub implemented : is_unimplemented (specification_of items t sizes).constructors d.tree ≡ false

-- The operations of the instruction at this address are a well-formed list, which does what the
-- instruction does.
abbrev pub DecodesAreTranslated : Type 0
DecodesAreTranslated = (items : List Item) (t : Tables) (sizes : List (List Size))
    (choose : Choice) (bytes : List ℕ) (address context : ℕ) (d : Decoded) (ops : List Op)
    → ChoosesOf t choose
    → decoded t (specification_of items t sizes).constructors choose bytes address context ≡ Ok d
    → IsRead items t sizes bytes address d
    → map operation_of ops ≡ node_code (top_of (count d.tree)) (setting_of t address d.after)
    (instruction (specification_of items t sizes) bytes d.tree)
    → IsTranslation (setting_of t address d.after)
    (instruction (specification_of items t sizes) bytes d.tree) ops

-- ---- choices

-- What is chosen in a table is one of the numbers that the table has.
abbrev pub PicksFrom : Tables → Choice → Type 0
PicksFrom t choose = (table : ℕ) (p : Point) (number : ℕ) → choose table p ≡ Some number
    → (b : Table) × (slice_get t.tables table ≡ Some b) × Contains b.constructors number

-- So it is a constructor of the table, where each table has its constructors.
abbrev pub ChoicesAreOfTables : Type 0
ChoicesAreOfTables = (t : Tables) (cs : List (Placed Constructor)) (choose : Choice)
    → AreListed t cs → PicksFrom t choose → ChoosesOf t choose
