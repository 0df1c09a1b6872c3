-- Each instruction of an accepted text has a list of operations that is faithful to it.
use Rattle.std.proofs.Common.{◌≡◌, List, [], ◌∷◌, map, refl, ap}
use Rattle.sl_faithful_accepted.specs.Laws.{BoundAreTranslated, BoundHaveTranslations}
use Rattle.sl_faithful_code.specs.Nodes.{node_code, top_of}
use Rattle.sl_faithful_code.specs.Operations.{Operation, operation_of}
use Rattle.sl_decode_meaning.specs.TreeCounts.{count}
use Rattle.sl_meaning_instruction.specs.Instructions.{instruction, setting_of, specification_of}
use Rattle.sl_pcode.specs.declared.operation.Op.{Op}

-- an operation with these parts
abbrev pub op_of : Operation → Op
op_of o = record { code = o.code; out = o.out; inputs = record { items = o.inputs; capacity = 3 } }

pub ops_of_operations : (os : List Operation) → map operation_of (map op_of os) ≡ os
ops_of_operations [] = refl
ops_of_operations (o ∷ os) = ap (λ (rest : List Operation). o ∷ rest) (ops_of_operations os)

pub bound_have_translations : BoundAreTranslated → BoundHaveTranslations
bound_have_translations law items t sizes choose bytes address context d short binds is_choice is implemented =
    let code = node_code (top_of (count d.tree)) (setting_of t address d.after) (instruction (specification_of items t sizes) bytes d.tree) in
    (map op_of code, law items t sizes choose bytes address context d (map op_of code) short binds is_choice is implemented (ops_of_operations code))
