-- law: the lists of the instructions of sound specifications are translations.
use Rattle.std.specs.Prelude.{◌≡◌, ℕ, ◌≤◌, false, List, [], ◌∷◌, map}
use Rattle.sl_faithful_code.specs.Nodes.{node_code, top_of}
use Rattle.sl_faithful_code.specs.Operations.{operation_of}
use Rattle.sl_decode_meaning.specs.TreeCounts.{count}
use Rattle.sl_decode_meaning.specs.Trees.{Node, Trees}
use Rattle.sl_faithful_keeping.specs.Keeping.{IsSetting}
use Rattle.sl_faithful_keeping.specs.Translations.{IsTranslation}
use Rattle.sl_meaning_instruction.specs.Instructions.{Specification, instruction, is_unimplemented}
use Rattle.sl_meaning_sections.specs.References.{Setting}
use Rattle.sl_pcode.specs.declared.operation.Op.{Op}
use Rattle.sl_faithful_instructions.specs.Shaped.{AreShaped, number_of}
use Rattle.sl_faithful_instructions.specs.Sound.{AllGiven, IsSound, Uses, parts_in}

-- A tree of the first table, of a specification whose sections keep the rules, none of whose nodes
-- is `unimpl`, of at most 1,024 nodes, with 131,072 parts at most: its operations are a well-formed
-- list, which does what the instruction does.
abbrev pub InstructionsAreTranslated : Type 0
InstructionsAreTranslated = (s : Specification) (u : Uses) (g : Setting) (bytes : List ℕ)
    (f : Trees Node) (ops : List Op)
    → IsSetting g → IsSound s u g → AreShaped s.tables number_of f (0 ∷ []) → AllGiven s u g bytes f
    → is_unimplemented s.constructors f ≡ false → count f ≤ 1024 → parts_in s f ≤ 131072
    → map operation_of ops ≡ node_code (top_of (count f)) g (instruction s bytes f)
    → IsTranslation g (instruction s bytes f) ops
