-- law: that the bytes of an instruction decide what its decoded tree stands for.
use Rattle.std.specs.Prelude.{◌≡◌, ◌≤◌, ℕ, List, take, Some, Ok, slice_get}
use Rattle.sl_ast.specs.Trees.{Constructor}
use Rattle.sl_ast.specs.Unfolding.{Placed}
use Rattle.sl_decode_meaning.specs.Decoding.{Decoded, decoded}
use Rattle.sl_decode_meaning.specs.Choices.{Choice}
use Rattle.sl_meaning_instruction.specs.Instructions.{Specification, instruction}
use Rattle.sl_faithful_reach.specs.DecodeLaws.{TokensAreShort}
use Rattle.sl_faithful_reach.specs.Sight.{sight}
use Rattle.sl_spec.specs.Named.{named}
use Rattle.sl_spec.specs.Tables.{Ctor, Operand}
use Rattle.sl_spec.specs.declared.constructors.Means.TheVariants as means
use Rattle.sl_spec.specs.declared.tables.Tables.{Tables}

-- In each constructor an operand that is a field is what its name stands for.
abbrev pub FieldsAreMeant : Tables → List (Placed Constructor) → Type 0
FieldsAreMeant t cs = (i : ℕ) (c : Ctor) (placed : Placed Constructor)
    → slice_get t.constructors i ≡ Some c → slice_get cs i ≡ Some placed
    → (k id : ℕ) (o : Operand) → slice_get c.operands k ≡ Some o → o.means ≡ means.Field id
    → named (λ o. o.name) o.name c.operands ≡ Some o

-- A decoded tree stands for the same instruction over all bytes that are the same as far as the
-- decode looks.
abbrev pub BytesDecideInstructions : Type 0
BytesDecideInstructions = (s : Specification) (choose : Choice) (one other : List ℕ)
    (address context n : ℕ) (d : Decoded) → TokensAreShort s.tables
    → FieldsAreMeant s.tables s.constructors
    → decoded s.tables s.constructors choose one address context ≡ Ok d → sight d.tree ≤ n
    → take n one ≡ take n other
    → instruction s one d.tree ≡ instruction s other d.tree
