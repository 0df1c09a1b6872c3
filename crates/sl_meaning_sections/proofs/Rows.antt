-- What small instructions do.
use Rattle.std.proofs.Common.{◌≡◌, ℕ, ◌==◌, List, [], ◌∷◌, Some, pos, negsuc, refl}
use Rattle.std.specs.Prelude.{ℤ, codes, slice_index, if◌then◌else◌, ◌&&◌}
use Rattle.sl_section_equations.specs.Equations.{size_at}
use Rattle.sl_meaning_sections.specs.Nodes.{Node, Section, child, given, no_operands, node, outcome_with}
use Rattle.sl_meaning_sections.specs.References.{Reference, Setting, number, storage}
use Rattle.sl_meaning_sections.specs.Statements.{Outcome, ends, leaves, section_runs, stops}
use Rattle.sl_meaning_sections.specs.Values.{jumps_too_often}
use Rattle.sl_section_flat.specs.Sections as s
use Rattle.sl_section_flat.specs.Sections.{Label, Step, Symbol, Term}
use Rattle.sl_section_flat.specs.declared.term.Order.TheVariants.{AsWritten}
use Rattle.sl_word.specs.Memories.{Memory}
use Rattle.sl_word.specs.declared.operation.Op1.TheVariants as o1
use Rattle.sl_word.specs.declared.operation.Op2.TheVariants as o2
use Rattle.sl_word.specs.declared.word.Endian.TheVariants.{Big}

-- big-endian, with a memory and a space of registers, each of two bytes of address
abbrev machine : ℤ → ℤ → Setting
machine start next = record { endian = Big; sizes = 2 ∷ 2 ∷ []; default = 0; start = start; next = next }

abbrev section : List ℕ → List Step → Section
section sizes steps = record { steps = steps; size = λ x. size_at (slice_index sizes x) }

-- byte registers
abbrev A : Symbol
A = s.register 1 0 1

abbrev B : Reference
B = storage 1 1 (size_at 1)

abbrev empty : Memory
empty space offset = 0

-- a byte of a space when the instruction has ended
abbrev byte_in : Outcome → ℕ → ℕ → ℕ
byte_in (ends st) space offset = st.memory space offset
byte_in (leaves target m) space offset = m space offset
byte_in (stops fault m) space offset = m space offset

-- ---- a jump to `inst_next - 3`, whose number is -1

abbrev jump_back : Node
jump_back = node 0 (section [] (s.branch (s.to_place (s.value 1)) ∷ [])) (given (number (negsuc 2)) (given (number (negsuc 0)) no_operands))

jump_back_is : outcome_with (machine (pos 0) (pos 2)) 1 jump_back empty ≡ leaves 65535 empty
unfolding section_runs size_at
jump_back_is = refl

-- ---- one table at two places, re-exported: each cell has a local of its own

abbrev cell : ℕ → ℕ → Node
cell k imm = node k (section (2 ∷ 2 ∷ 1 ∷ 2 ∷ 2 ∷ 2 ∷ 1 ∷ [])
    (s.declare 0 (Some 2)
    ∷ s.set (s.local 0) (s.two o2.IntAdd AsWritten (s.name (s.value 0) 1) (s.one o1.IntZext (s.name A 2) 3) 4)
    ∷ s.export (s.exports_memory (Some 0) 1 (s.name (s.local 0) 5) 6) ∷ []))
    (given (number (pos imm)) no_operands)

abbrev handed : ℕ → Node → Node
handed k n = node k (section (1 ∷ []) (s.build 0 ∷ s.export (s.exports (s.table 0) 0) ∷ [])) (child n no_operands)

abbrev move : Node
move = node 0 (section (1 ∷ []) (s.build 0 ∷ s.build 1 ∷ s.set (s.table 0) (s.name (s.table 1) 0) ∷ []))
    (child (handed 1 (cell 2 8)) (child (handed 3 (cell 4 3)) no_operands))

abbrev moved_from : Memory
moved_from space offset = if (space == 0) && (offset == 3) then 90 else 0

move_is : byte_in (outcome_with (machine (pos 0) (pos 3)) 1 move moved_from) 0 8 ≡ 90
unfolding section_runs size_at
move_is = refl

move_leaves : byte_in (outcome_with (machine (pos 0) (pos 3)) 1 move moved_from) 0 3 ≡ 90
unfolding section_runs size_at
move_leaves = refl

-- ---- a loop that takes a jump for each turn but the first; X has four bytes at 8

abbrev top : Label
top = record { call = 0; name = codes "top" }

abbrev X : Symbol
X = s.register 1 8 4

abbrev loop : ℕ → Node
loop n = node 0 (section (4 ∷ 4 ∷ 4 ∷ 4 ∷ 4 ∷ 4 ∷ 4 ∷ 4 ∷ 4 ∷ 4 ∷ 1 ∷ [])
    (s.declare 0 (Some 4) ∷ s.set (s.local 0) (s.number n 1) ∷ s.label top
    ∷ s.set X (s.two o2.IntAdd AsWritten (s.name X 2) (s.number 1 3) 4)
    ∷ s.set (s.local 0) (s.two o2.IntSub AsWritten (s.name (s.local 0) 5) (s.number 1 6) 7)
    ∷ s.branch_if (s.two o2.IntNotEqual AsWritten (s.name (s.local 0) 8) (s.number 0 9) 10) (s.to_label top) ∷ []))
    no_operands

abbrev has_left : Outcome → ℕ
has_left (ends st) = st.left
has_left _ = 1000

-- as many turns as jumps are left, and one
loop_ends : has_left (outcome_with (machine (pos 0) (pos 1)) 2 (loop 3) empty) ≡ 0
unfolding section_runs size_at
loop_ends = refl

loop_counts : byte_in (outcome_with (machine (pos 0) (pos 1)) 2 (loop 3) empty) 1 11 ≡ 3
unfolding section_runs size_at
loop_counts = refl

abbrev is_limit : Outcome → ℕ
is_limit (stops jumps_too_often m) = 1
is_limit _ = 0

-- one turn more is a fault, with what was done so far
loop_stops : is_limit (outcome_with (machine (pos 0) (pos 1)) 2 (loop 4) empty) ≡ 1
unfolding section_runs size_at
loop_stops = refl

loop_keeps : byte_in (outcome_with (machine (pos 0) (pos 1)) 2 (loop 4) empty) 1 11 ≡ 3
unfolding section_runs size_at
loop_keeps = refl

-- ---- a store of a number, and a register by an attached field

abbrev store_number : Node
store_number = node 0 (section (2 ∷ 1 ∷ 1 ∷ []) (s.store (Some 0) (Some 1) (s.sized 2 2 0) 1 (s.name (s.value 0) 2) ∷ []))
    (given (number (pos 20)) no_operands)

store_is : byte_in (outcome_with (machine (pos 0) (pos 2)) 0 store_number empty) 0 2 ≡ 20
unfolding section_runs size_at
store_is = refl

abbrev increment : Node
increment = node 0 (section (1 ∷ 1 ∷ 1 ∷ []) (s.set (s.attached 0 1) (s.two o2.IntAdd AsWritten (s.name (s.attached 0 1) 0) (s.number 1 1) 2) ∷ []))
    (given B no_operands)

increment_is : byte_in (outcome_with (machine (pos 0) (pos 1)) 0 increment (λ space offset. if space == 1 then 255 else 0)) 1 1 ≡ 0
unfolding section_runs size_at
increment_is = refl

-- ---- a macro's assignment twice, and a bit that is written; rd is A

abbrev twice : Reference → Node
twice rd = node 0 (section (1 ∷ 1 ∷ 1 ∷ 1 ∷ 1 ∷ 1 ∷ 1 ∷ 1 ∷ 1 ∷ [])
    (s.set A (s.number 3 0)
    ∷ s.set (s.attached 0 1) (s.two o2.IntAdd AsWritten (s.name (s.attached 0 1) 1) (s.name (s.attached 0 1) 2) 3)
    ∷ s.set A (s.two o2.IntAdd AsWritten (s.name A 4) (s.name A 5) 6)
    ∷ s.set_bits (s.attached 0 1) 0 1 (s.bits (s.name A 7) 1 1 8) ∷ []))
    (given rd no_operands)

twice_of_B : byte_in (outcome_with (machine (pos 0) (pos 1)) 0 (twice B) empty) 1 0 ≡ 6
unfolding section_runs size_at
twice_of_B = refl

bit_of_B : byte_in (outcome_with (machine (pos 0) (pos 1)) 0 (twice B) empty) 1 1 ≡ 1
unfolding section_runs size_at
bit_of_B = refl

twice_of_A : byte_in (outcome_with (machine (pos 0) (pos 1)) 0 (twice (storage 1 0 (size_at 1))) empty) 1 0 ≡ 12
unfolding section_runs size_at
twice_of_A = refl
