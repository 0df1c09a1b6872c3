-- Decodes of small specifications.
use Rattle.std.proofs.Common.{◌≡◌, ℕ, ◌/◌, ◌%◌, ◌^◌, ◌==◌, ℤ, zero, suc, true, false, Bool, List, [], ◌∷◌, ◌++◌, pos, Option, Some, None, Ok, Err, refl, cond}
use Rattle.std.specs.Prelude.{codes, replicate}
use Rattle.std.specs.Int.{int_wrap}
use Rattle.sl_ast.specs.Trees.{Constructor, Pattern, Action, set, global_set, by_name, by_integer, integer, named, binary, bare, constraint, ellipsis, joined, unimplemented}
use Rattle.sl_ast.specs.declared.expressions.BinaryOp.TheVariants as op
use Rattle.sl_ast.specs.declared.patterns.PatternOp.TheVariants.{And, Then}
use Rattle.sl_ast.specs.declared.patterns.Relation.TheVariants.{Equal}
use Rattle.sl_cube.specs.declared.Point.{Point}
use Rattle.sl_decode_meaning.specs.Decoding.{decoded, grow, finish}
use Rattle.sl_decode_meaning.specs.Places.{leaves}
use Rattle.sl_decode_meaning.specs.Trees.{Node, none, tree}
use Rattle.sl_decode_meaning.specs.Values.{expression_value}
use Rattle.sl_decode_meaning.specs.declared.faults.Fault.TheVariants.{NoConstructor, NoEntry, ActionDivide}
use Rattle.sl_spec.specs.FieldValues.{value_of}
use Rattle.sl_spec.specs.Tables as spec
use Rattle.sl_spec.specs.declared.constructors.Means.TheVariants as means
use Rattle.sl_spec.specs.declared.definitions.SpaceKind.TheVariants.{Ram}
use Rattle.sl_spec.specs.declared.tables.Tables.{Tables}
use Rattle.sl_word.specs.declared.word.Endian.TheVariants.{Big}

abbrev space : spec.Space
space = record { name = codes "ram"; kind = Ram; size = 2; default = true }

abbrev field : List ℕ → Option ℕ → ℕ → ℕ → Bool → spec.Field
field name token low high noflow = record { name = name; token = token; low = low; high = high; signed = false; dec = false; noflow = noflow }

abbrev table : List ℕ → List ℕ → spec.Table
table name numbers = record { name = name; constructors = numbers }

abbrev ctor : ℕ → List spec.Operand → spec.Ctor
ctor t os = record { table = t; item = 0; operands = os }

-- tokens of a byte, with these fields, tables and constructors
abbrev tables : List spec.Field → List spec.Attached → List spec.Table → List spec.Ctor → Tables
tables fields attached names constructors = record {
  endian = Big;
  alignment = 1;
  spaces = space ∷ [];
  registers = [];
  bitranges = [];
  tokens = record { name = codes "t"; bits = 8; endian = Big } ∷ record { name = codes "u"; bits = 8; endian = Big } ∷ [];
  fields = fields;
  context = None;
  attached = attached;
  tables = names;
  constructors = constructors;
  macros = [];
  userops = [];
}

abbrev written : Pattern → List Action → ℕ × Constructor
written p as' = (0, record { table = None; display = []; pattern = p; actions = Some as'; section = unimplemented })

abbrev padded : List ℕ → List ℕ
padded bytes = bytes ++ replicate 16 0

abbrev first_byte : Point → ℕ
first_byte p = p.bytes / 2 ^ 120

abbrev nibble : Point → ℕ
nibble p = first_byte p / 16

abbrev is : List ℕ → ℕ → Pattern
is name n = constraint name Equal (integer n)

abbrev node : ℕ → ℕ → ℕ → ℕ → List ℤ → Node
node c at n x values = record { ctor = c; at = at; length = n; context = x; values = values }

-- ---- a prefix changes the context of what comes behind it

abbrev wide : Tables
wide = tables (field (codes "op") (Some 0) 4 7 false ∷ field (codes "imm") (Some 1) 0 7 false ∷ field (codes "mode") None 0 0 false ∷ []) []
    (table (codes "instruction") (2 ∷ 3 ∷ []) ∷ table (codes "pfx") (0 ∷ []) ∷ table (codes "val") (1 ∷ []) ∷ [])
    (ctor 1 [] ∷ ctor 2 (record { name = codes "imm"; means = means.Field 1 } ∷ [])
    ∷ ctor 0 (record { name = codes "pfx"; means = means.Table 1 } ∷ record { name = codes "val"; means = means.Table 2 } ∷ []) ∷ [])

abbrev wide_text : List (ℕ × Constructor)
wide_text = written (is (codes "op") 15) (set (codes "mode") (integer 3) ∷ [])
    ∷ written (joined And (is (codes "mode") 1) (bare (codes "imm"))) []
    ∷ written (joined Then (bare (codes "pfx")) (bare (codes "val"))) [] ∷ []

abbrev wide_choice : ℕ → Point → Option ℕ
wide_choice zero p = cond (nibble p == 15) (Some 2) None
wide_choice (suc zero) p = cond (nibble p == 15) (Some 0) None
wide_choice (suc (suc n)) p = cond (p.context % 2 == 1) (Some 1) None

wide_is : decoded wide wide_text wide_choice (padded (240 ∷ 5 ∷ [])) 0 0 ≡ Ok (record {
  tree = tree (node 2 0 2 0 []) (tree (node 0 0 1 1 []) none (tree (node 1 1 1 1 []) none none)) none;
  length = 2;
  after = 2;
  commits = [];
})
unfolding decoded grow finish leaves expression_value value_of int_wrap
wide_is = refl

-- ---- commits

abbrev setting : Tables
setting = tables (field (codes "op") (Some 0) 4 7 false ∷ field (codes "mode") None 0 0 false ∷ field (codes "once") None 1 1 true ∷ []) []
    (table (codes "instruction") (0 ∷ 1 ∷ []) ∷ []) (ctor 0 [] ∷ ctor 0 [] ∷ [])

abbrev setting_text : List (ℕ × Constructor)
setting_text = written (is (codes "op") 3) (set (codes "mode") (integer 1) ∷ global_set (by_name (codes "inst_next")) (codes "mode") ∷ set (codes "mode") (integer 0) ∷ [])
    ∷ written (is (codes "op") 5) (set (codes "once") (integer 1) ∷ global_set (by_integer 65538) (codes "once") ∷ []) ∷ []

abbrev setting_choice : ℕ → Point → Option ℕ
setting_choice n p = cond (nibble p == 3) (Some 0) (cond (nibble p == 5) (Some 1) None)

-- a commit has the bits of its moment, at the address behind the instruction
commits_are : decoded setting setting_text setting_choice (padded (48 ∷ [])) 65535 0 ≡ Ok (record {
  tree = tree (node 0 0 1 0 []) none none;
  length = 1;
  after = 0;
  commits = record { address = 0; mask = 1; value = 1; flows = true } ∷ [];
})
unfolding decoded grow finish leaves expression_value value_of int_wrap
commits_are = refl

noflow_is : decoded setting setting_text setting_choice (padded (80 ∷ [])) 0 1 ≡ Ok (record {
  tree = tree (node 1 0 1 3 []) none none;
  length = 1;
  after = 1;
  commits = record { address = 2; mask = 2; value = 2; flows = false } ∷ [];
})
unfolding decoded grow finish leaves expression_value value_of int_wrap
noflow_is = refl

-- nothing matches
unmatched : decoded setting setting_text setting_choice (padded (32 ∷ [])) 0 0 ≡ Err (NoConstructor 0 0)
unfolding decoded grow finish leaves expression_value value_of int_wrap
unmatched = refl

-- ---- entries and divisors

abbrev entries : Tables
entries = tables (field (codes "a") (Some 0) 4 7 false ∷ field (codes "b") (Some 0) 0 3 false ∷ field (codes "x") (Some 0) 0 1 false ∷ [])
    (record { field = 2; entries = spec.registers (Some 0 ∷ Some 1 ∷ None ∷ Some 2 ∷ []) } ∷ [])
    (table (codes "instruction") (0 ∷ 1 ∷ []) ∷ [])
    (ctor 0 (record { name = codes "x"; means = means.Field 2 } ∷ [])
    ∷ ctor 0 (record { name = codes "b"; means = means.Field 1 } ∷ record { name = codes "q"; means = means.Action 0 } ∷ []) ∷ [])

abbrev entries_text : List (ℕ × Constructor)
entries_text = written (joined And (is (codes "a") 1) (bare (codes "x"))) []
    ∷ written (joined And (is (codes "a") 2) (bare (codes "b"))) (set (codes "q") (binary op.Divide (integer 8) (named (codes "b"))) ∷ []) ∷ []

abbrev entries_choice : ℕ → Point → Option ℕ
entries_choice n p = cond (nibble p == 1) (Some 0) (cond (nibble p == 2) (Some 1) None)

no_entry : decoded entries entries_text entries_choice (padded (18 ∷ [])) 0 0 ≡ Err (NoEntry 2 2)
unfolding decoded grow finish leaves expression_value value_of int_wrap
no_entry = refl

divide : decoded entries entries_text entries_choice (padded (32 ∷ [])) 0 0 ≡ Err (ActionDivide 1)
unfolding decoded grow finish leaves expression_value value_of int_wrap
divide = refl

quotient_is : decoded entries entries_text entries_choice (padded (36 ∷ [])) 0 0
    ≡ Ok (record { tree = tree (node 1 0 1 0 (pos 2 ∷ [])) none none; length = 1; after = 1; commits = [] })
unfolding decoded grow finish leaves expression_value value_of int_wrap
quotient_is = refl

-- ---- places behind an operand that is longer than its pattern's fixed part

abbrev places : Tables
places = tables (field (codes "reg") (Some 0) 3 5 false ∷ field (codes "disp") (Some 1) 0 7 false ∷ field (codes "imm") (Some 1) 0 7 false ∷ []) []
    (table (codes "instruction") (1 ∷ []) ∷ table (codes "rm") (0 ∷ []) ∷ [])
    (ctor 1 (record { name = codes "disp"; means = means.Field 1 } ∷ [])
    ∷ ctor 0 (record { name = codes "rm"; means = means.Table 1 } ∷ record { name = codes "imm"; means = means.Field 2 }
    ∷ record { name = codes "r"; means = means.Action 0 } ∷ []) ∷ [])

-- `rm & reg=0 ... ; imm`, with an action on `inst_next` and `imm`
abbrev places_text : List (ℕ × Constructor)
places_text = written (joined Then (is (codes "reg") 0) (bare (codes "disp"))) []
    ∷ written (joined Then (joined And (bare (codes "rm")) (ellipsis (is (codes "reg") 0))) (bare (codes "imm")))
    (set (codes "r") (binary op.Subtract (named (codes "inst_next")) (named (codes "imm"))) ∷ []) ∷ []

abbrev places_choice : ℕ → Point → Option ℕ
places_choice zero p = Some 1
places_choice (suc n) p = Some 0

places_are : decoded places places_text places_choice (padded (2 ∷ 7 ∷ 9 ∷ [])) 16 0
    ≡ Ok (record { tree = tree (node 1 0 3 0 (pos 10 ∷ [])) (tree (node 0 0 2 0 []) none none) none; length = 3; after = 19; commits = [] })
unfolding decoded grow finish leaves expression_value value_of int_wrap
places_are = refl
