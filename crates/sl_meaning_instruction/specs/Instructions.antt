-- meaning: the instruction that a decoded tree stands for: its nodes with their sections and their
-- operands (SLEIGH manual, "The Semantic Section").
use Rattle.std.specs.Prelude.{ℕ, pos, ◌+◌, ◌||◌, Bool, true, false, List, [], ◌∷◌, map}
use Rattle.std.specs.Prelude.{Option, None, Some, position, slice_get, unwrap_or}
use Rattle.sl_ast.specs.Trees as ast
use Rattle.sl_ast.specs.Trees.{Constructor, Item}
use Rattle.sl_ast.specs.Unfolding.{Placed, unfolded}
use Rattle.sl_decode_meaning.specs.TreeCounts.{count}
use Rattle.sl_decode_meaning.specs.Trees.{Node, Trees, none, tree}
use Rattle.sl_section_equations.specs.Equations.{size_at}
use Rattle.sl_section_all.specs.FlatSections.{Flat, flat_sections}
use Rattle.sl_section_all.specs.Scopes.{scopes_of}
use Rattle.sl_meaning_instruction.specs.Operands.{given_by}
use Rattle.sl_meaning_sections.specs.Nodes as m
use Rattle.sl_meaning_sections.specs.Nodes.{Operands, child, given, no_operands, node, nothing}
use Rattle.sl_meaning_sections.specs.References.{Reference, Setting}
use Rattle.sl_spec_operators.specs.Operators.{wrapped}
use Rattle.sl_spec.specs.ConstructorItems.{constructors_in}
use Rattle.sl_spec.specs.declared.tables.Tables.{Tables}
use Rattle.sl_word.specs.declared.word.Size.{Size}

-- What is known of a specification: its tables, and of each constructor, in the order of the text,
-- how it is written, its flat section, and the sizes of the section's variables.
pub record Specification : Type 0 where
  pub tables : Tables
  pub constructors : List (Placed Constructor)
  pub sections : List Flat
  pub sizes : List (List Size)

-- that of a text, which has these tables and sizes
abbrev pub specification_of : List Item → Tables → List (List Size) → Specification
specification_of items t sizes = record {
  tables = t;
  constructors = constructors_in (unfolded items);
  sections = flat_sections t (scopes_of items) (constructors_in (unfolded items));
  sizes = sizes;
}

-- ---- where instructions run

abbrev pub default_space : Tables → ℕ
default_space t = unwrap_or (position (λ s. s.default) t.spaces) 0

-- the machine of a specification, for an instruction at an address, and the address behind it
unfoldable pub setting_of : Tables → (address after : ℕ) → Setting
setting_of t address after = record {
  endian = t.endian;
  sizes = map (λ s. s.size) t.spaces;
  default = default_space t;
  start = wrapped (pos address);
  next = wrapped (pos after);
}

-- ---- `unimpl`

abbrev pub is_unimpl : ast.Section → Bool
is_unimpl (ast.statements body) = false
is_unimpl ast.unimplemented = true

abbrev pub is_unimpl_by : Option (Placed Constructor) → Bool
is_unimpl_by None = false
is_unimpl_by (Some written) = is_unimpl written.1.section

-- Whether the instruction is unimplemented: a node is `unimpl`, the root or any below it.
abbrev pub is_unimplemented : List (Placed Constructor) → Trees Node → Bool
is_unimplemented cs none = false
is_unimplemented cs (tree n below behind) = is_unimpl_by (slice_get cs n.ctor)
    || (is_unimplemented cs below || is_unimplemented cs behind)

-- ---- nodes

abbrev pub lengths_of : Trees Node → List ℕ
lengths_of none = []
lengths_of (tree n below behind) = n.length ∷ lengths_of behind

-- operands, of which tables are the nodes below, in their order
abbrev pub filled : List (Option Reference) → (below : List m.Node) → Operands
filled [] ns = no_operands
filled (Some r ∷ rs) ns = given r (filled rs ns)
filled (None ∷ rs) (n ∷ ns) = child n (filled rs ns)
filled (None ∷ rs) [] = given nothing (filled rs [])

-- by the sections of constructors, and what is given to a node, by the lengths of those below it
module _ (section : ℕ → m.Section) (gives : Node → List ℕ → List (Option Reference)) where
  -- trees as nodes, which are numbered from k on, depth first, each before those below it
  abbrev pub nodes_by : (k : ℕ) → Trees Node → List m.Node
  nodes_by k none = []
  nodes_by k (tree n below behind) =
      node k (section n.ctor) (filled (gives n (lengths_of below)) (nodes_by (k + 1) below))
      ∷ nodes_by (k + 1 + count below) behind

-- the first of some nodes; one without statements, where there is none
abbrev pub first_node : List m.Node → m.Node
first_node [] = node 0 (record { steps = []; size = λ x. size_at 1 }) no_operands
first_node (n ∷ ns) = n

abbrev pub no_steps : Flat
no_steps = record { steps = []; variables = 0 }

-- the section of a constructor, by those of all and their sizes
abbrev pub section_by : List Flat → List (List Size) → (ctor : ℕ) → m.Section
section_by sections sizes ctor = record {
  steps = (unwrap_or (slice_get sections ctor) no_steps).steps;
  size = λ x. unwrap_or (slice_get (unwrap_or (slice_get sizes ctor) []) x) (size_at 1);
}

-- what is given to a node of an instruction of these bytes
abbrev pub given_at : Specification → (bytes : List ℕ) → Node → (lengths : List ℕ)
    → List (Option Reference)
given_at s bytes n lengths = given_by s.tables bytes n
    (slice_get s.tables.constructors n.ctor) (slice_get s.constructors n.ctor) lengths

-- a tree as an instruction of these bytes; the first one, if there are several
unfoldable pub instruction : Specification → (bytes : List ℕ) → Trees Node → m.Node
instruction s bytes f =
    first_node (nodes_by (section_by s.sections s.sizes) (given_at s bytes) 0 f)
