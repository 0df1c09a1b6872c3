-- What is built of a decode of an accepted text is faithful to it.
use Rattle.std.proofs.Common.{◌≡◌, ℕ, List, map, subst}
use Rattle.sl_ast.specs.Trees.{Item}
use Rattle.sl_build.specs.Accepted.{IsDecodeOf, IsFaithfullyBuilt}
use Rattle.sl_build.specs.Built.{IsBuilt}
use Rattle.sl_build.specs.declared.built.Built.{Built}
use Rattle.sl_build.specs.declared.built.Built.TheVariants.{Ops, Unimplemented}
use Rattle.sl_decode_meaning.specs.Decoding.{Decoded}
use Rattle.sl_decode_meaning.specs.TreeCounts.{count}
use Rattle.sl_faithful_accepted.proofs.Translations.{bound_are_translated}
use Rattle.sl_faithful_code.specs.Nodes.{node_code, top_of}
use Rattle.sl_faithful_code.specs.Operations.{operation_of}
use Rattle.sl_meaning_instruction.specs.Instructions.{instruction, setting_of, specification_of}
use Rattle.sl_pcode.specs.Operations.{operations}
use Rattle.sl_spec.specs.declared.tables.Tables.{Tables}
use Rattle.sl_word.specs.declared.word.Size.{Size}

pub built_is_faithful : (items : List Item) (t : Tables) (sizes : List (List Size)) (bytes : List ℕ) (address after : ℕ)
    (d : Decoded) (built : Built) → IsDecodeOf items t sizes bytes address d → after ≡ d.after
    → IsBuilt (specification_of items t sizes) (setting_of t address after) bytes d.tree built
    → IsFaithfullyBuilt (specification_of items t sizes) bytes address d built
built_is_faithful items t sizes bytes address after d Unimplemented is next built = built
built_is_faithful items t sizes bytes address after d (Ops list) is next built =
    bound_are_translated items t sizes is.choose bytes address is.context d (operations list) is.short is.binds is.chooses
    is.decodes built.0
    (subst (λ (a : ℕ). map operation_of (operations list)
    ≡ node_code (top_of (count d.tree)) (setting_of t address a)
    (instruction (specification_of items t sizes) bytes d.tree)) next built.1.code)
