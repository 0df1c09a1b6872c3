-- Instructions of a small specification.
use Rattle.std.proofs.Common.{◌≡◌, ℕ, ℤ, true, false, Bool, List, [], ◌∷◌, pos, negsuc, Some, None, refl}
use Rattle.std.specs.Prelude.{codes}
use Rattle.std.specs.Int.{int_wrap}
use Rattle.sl_ast.specs.Trees.{Constructor, Pattern, bare, constraint, integer, joined, statements, unimplemented}
use Rattle.sl_ast.specs.Trees as ast
use Rattle.sl_ast.specs.declared.patterns.PatternOp.TheVariants.{And, Then}
use Rattle.sl_ast.specs.declared.patterns.Relation.TheVariants.{Equal}
use Rattle.sl_decode_meaning.specs.Places.{leaves}
use Rattle.sl_decode_meaning.specs.Trees.{Node, none, tree}
use Rattle.sl_section_equations.specs.Equations.{size_at}
use Rattle.sl_meaning_instruction.specs.Instructions.{Specification, default_space, instruction, is_unimplemented, section_by, setting_of}
use Rattle.sl_meaning_sections.specs.Nodes as m
use Rattle.sl_meaning_sections.specs.Nodes.{child, given, no_operands}
use Rattle.sl_meaning_sections.specs.References.{Setting, number, storage}
use Rattle.sl_section_flat.specs.Sections as s
use Rattle.sl_spec.specs.FieldValues.{value_of}
use Rattle.sl_spec.specs.Tables as spec
use Rattle.sl_spec.specs.declared.constructors.Means.{Means}
use Rattle.sl_spec.specs.declared.constructors.Means.TheVariants as means
use Rattle.sl_spec.specs.declared.definitions.SpaceKind.TheVariants as kind
use Rattle.sl_spec.specs.declared.tables.Tables.{Tables}
use Rattle.sl_word.specs.declared.word.Endian.TheVariants.{Big}

abbrev register : List ℕ → ℕ → spec.Register
register name offset = record { name = name; space = 1; offset = offset; size = 1 }

abbrev field : List ℕ → ℕ → ℕ → spec.Field
field name low high = record { name = name; token = Some 0; low = low; high = high; signed = false; dec = false; noflow = false }

abbrev operand : List ℕ → Means → spec.Operand
operand name meant = record { name = name; means = meant }

-- A and B; in one byte `op`, `rd` with registers attached, `x` with numbers attached, `y` with names
abbrev tables : Tables
tables = record {
  endian = Big;
  alignment = 1;
  spaces = record { name = codes "register"; kind = kind.Register; size = 1; default = false }
      ∷ record { name = codes "registers"; kind = kind.Register; size = 1; default = false }
      ∷ record { name = codes "ram"; kind = kind.Ram; size = 2; default = true } ∷ [];
  registers = register (codes "A") 0 ∷ register (codes "B") 1 ∷ [];
  bitranges = [];
  tokens = record { name = codes "t"; bits = 8; endian = Big } ∷ [];
  fields = field (codes "op") 4 7 ∷ field (codes "rd") 2 3 ∷ field (codes "x") 0 1 ∷ field (codes "y") 0 1 ∷ [];
  context = None;
  attached = record { field = 1; entries = spec.registers (Some 0 ∷ Some 1 ∷ None ∷ []) }
      ∷ record { field = 2; entries = spec.values (None ∷ Some (negsuc 11) ∷ []) }
      ∷ record { field = 3; entries = spec.texts (None ∷ Some (codes "on") ∷ []) } ∷ [];
  tables = [];
  constructors = record { table = 0; item = 0; operands = operand (codes "rd") (means.Field 1) ∷ operand (codes "sub") (means.Table 1) ∷ operand (codes "q") (means.Action 0) ∷ [] }
      ∷ record { table = 1; item = 1; operands = operand (codes "x") (means.Field 2) ∷ operand (codes "y") (means.Field 3) ∷ [] }
      ∷ record { table = 1; item = 2; operands = [] } ∷ [];
  macros = [];
  userops = [];
}

abbrev written : Pattern → ast.Section → ℕ × Constructor
written p section = (0, record { table = None; display = []; pattern = p; actions = None; section = section })

-- `:m rd, sub is (op=1 & rd) ; sub [ q = .. ] { build sub; }`, `sub: x, y is x & y { export x; }` and
-- `sub: is op=2 unimpl`
abbrev text : List (ℕ × Constructor)
text = written (joined Then (joined And (constraint (codes "op") Equal (integer 1)) (bare (codes "rd"))) (bare (codes "sub"))) (statements [])
    ∷ written (joined And (bare (codes "x")) (bare (codes "y"))) (statements [])
    ∷ written (constraint (codes "op") Equal (integer 2)) unimplemented ∷ []

abbrev known : Specification
known = record {
  tables = tables;
  constructors = text;
  sections = record { steps = s.build 1 ∷ []; variables = 0 } ∷ record { steps = s.export (s.exports (s.value 0) 0) ∷ []; variables = 1 } ∷ record { steps = []; variables = 0 } ∷ [];
  sizes = [] ∷ (size_at 2 ∷ []) ∷ [] ∷ [];
}

abbrev node : ℕ → ℕ → ℕ → List ℤ → Node
node c at n values = record { ctor = c; at = at; length = n; context = 0; values = values }

abbrev section : ℕ → m.Section
section ctor = section_by known.sections known.sizes ctor

-- the bytes 15 and 21: B, the attached number -12 and the field's own value 1 in the second byte
operands_are : instruction known (21 ∷ 33 ∷ []) (tree (node 0 0 2 (pos 5 ∷ [])) (tree (node 1 1 1 []) none none) none)
    ≡ m.node 0 (section 0) (given (storage 1 1 (size_at 1)) (child (m.node 1 (section 1) (given (number (negsuc 11)) (given (number (pos 1)) no_operands))) (given (number (pos 5)) no_operands)))
unfolding instruction leaves value_of int_wrap
operands_are = refl

-- a node below is enough
all_written : is_unimplemented text (tree (node 0 0 2 []) (tree (node 1 1 1 []) none none) none) ≡ false
all_written = refl

unimplemented_below : is_unimplemented text (tree (node 0 0 2 []) (tree (node 2 1 1 []) none none) none) ≡ true
unimplemented_below = refl

-- the last address of 64 bits is -1
setting_is : setting_of tables 18446744073709551615 2 ≡ record { endian = Big; sizes = 1 ∷ 1 ∷ 2 ∷ []; default = 2; start = negsuc 0; next = pos 2 }
unfolding setting_of int_wrap
setting_is = refl
