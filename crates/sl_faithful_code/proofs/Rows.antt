-- The operations of small instructions.
use Rattle.std.proofs.Common.{◌≡◌, ℕ, List, [], ◌∷◌, Some, pos, negsuc, refl}
use Rattle.std.specs.Prelude.{codes, slice_index}
use Rattle.sl_faithful_code.specs.Nodes.{node_code, top_of}
use Rattle.sl_faithful_code.specs.Operations.{amount, at_temp, binary, constant, exit, exit_if, in_space, load_from, store_to, temporary, unary}
use Rattle.sl_section_equations.specs.Equations.{size_at}
use Rattle.sl_meaning_sections.specs.Nodes.{Node, Section, child, given, no_operands, node}
use Rattle.sl_meaning_sections.specs.References.{Setting, number, storage}
use Rattle.sl_pcode.specs.declared.code.Code.TheVariants as code
use Rattle.sl_section_flat.specs.Sections as s
use Rattle.sl_section_flat.specs.Sections.{Label, Step, Symbol}
use Rattle.sl_section_flat.specs.declared.term.Order.TheVariants.{AsWritten}
use Rattle.sl_word.specs.declared.operation.Op1.TheVariants as one
use Rattle.sl_word.specs.declared.operation.Op2.TheVariants as two
use Rattle.sl_word.specs.declared.word.Endian.TheVariants.{Big}
use Rattle.sl_word.specs.declared.word.Size.{Size}

abbrev machine : Setting
machine = record { endian = Big; sizes = 2 ∷ 2 ∷ []; default = 0; start = pos 0; next = pos 2 }

abbrev section : List ℕ → List Step → Section
section sizes steps = record { steps = steps; size = λ x. size_at (slice_index sizes x) }

abbrev byte : Size
byte = size_at 1

abbrev word : Size
word = size_at 2

-- a register and a number are read where they are, and the sum is put where it belongs
abbrev increment : Node
increment = node 0 (section (1 ∷ 1 ∷ 1 ∷ []) (s.set (s.attached 0 1) (s.two two.IntAdd AsWritten (s.name (s.attached 0 1) 0) (s.number 1 1) 2) ∷ []))
    (given (storage 1 1 byte) no_operands)

increment_is : node_code (top_of 1) machine increment ≡ binary two.IntAdd (in_space 1 1 byte) (in_space 1 1 byte) (constant 1 byte) ∷ []
unfolding size_at
increment_is = refl

-- each cell has a place of its own for its local; the pointers are read where the cells are used
abbrev cell : ℕ → ℕ → Node
cell k imm = node k (section (2 ∷ 2 ∷ 1 ∷ 2 ∷ 2 ∷ 2 ∷ 1 ∷ [])
    (s.declare 0 (Some 2)
    ∷ s.set (s.local 0) (s.two two.IntAdd AsWritten (s.name (s.value 0) 1) (s.one one.IntZext (s.name (s.register 1 0 1) 2) 3) 4)
    ∷ s.export (s.exports_memory (Some 0) 1 (s.name (s.local 0) 5) 6) ∷ []))
    (given (number (pos imm)) no_operands)

abbrev handed : ℕ → Node → Node
handed k n = node k (section (1 ∷ []) (s.build 0 ∷ s.export (s.exports (s.table 0) 0) ∷ [])) (child n no_operands)

abbrev move : Node
move = node 0 (section (1 ∷ []) (s.build 0 ∷ s.build 1 ∷ s.set (s.table 0) (s.name (s.table 1) 0) ∷ []))
    (child (handed 1 (cell 2 8)) (child (handed 3 (cell 4 3)) no_operands))

move_is : node_code (top_of 5) machine move
    ≡ unary one.IntZext (at_temp (top_of 5) 1 word) (in_space 1 0 byte)
    ∷ binary two.IntAdd (temporary 2097152 word) (constant 8 word) (at_temp (top_of 5) 1 word)
    ∷ unary one.IntZext (at_temp (top_of 5) 1 word) (in_space 1 0 byte)
    ∷ binary two.IntAdd (temporary 4194304 word) (constant 3 word) (at_temp (top_of 5) 1 word)
    ∷ load_from (at_temp (top_of 5) 0 byte) 0 (temporary 4194304 word)
    ∷ store_to 0 (temporary 2097152 word) (at_temp (top_of 5) 0 byte) ∷ []
unfolding size_at
move_is = refl

-- a jump back over three operations
abbrev top : Label
top = record { call = 0; name = codes "top" }

abbrev loop : Node
loop = node 0 (section (1 ∷ 1 ∷ 1 ∷ 1 ∷ 1 ∷ 1 ∷ [])
    (s.label top ∷ s.set (s.register 1 0 1) (s.two two.IntSub AsWritten (s.name (s.register 1 0 1) 0) (s.number 1 1) 2)
    ∷ s.branch_if (s.two two.IntNotEqual AsWritten (s.name (s.register 1 0 1) 3) (s.number 0 4) 5) (s.to_label top) ∷ []))
    no_operands

loop_is : node_code (top_of 1) machine loop
    ≡ binary two.IntSub (in_space 1 0 byte) (in_space 1 0 byte) (constant 1 byte)
    ∷ binary two.IntNotEqual (at_temp (top_of 1) 0 byte) (in_space 1 0 byte) (constant 0 byte)
    ∷ exit_if (amount 4294967294) (at_temp (top_of 1) 0 byte) ∷ []
unfolding size_at
loop_is = refl

-- a jump to a number below 0
abbrev jump_back : Node
jump_back = node 0 (section [] (s.branch (s.to_place (s.value 0)) ∷ [])) (given (number (negsuc 0)) no_operands)

jump_back_is : node_code (top_of 1) machine jump_back ≡ exit code.Branch (in_space 0 65535 word) ∷ []
unfolding size_at
jump_back_is = refl
