use Rattle.std.proofs.Common.{◌≡◌, ℕ, List, map, take}
use Rattle.sl_build.specs.Views.{slot_reference}
use Rattle.sl_decode_meaning.specs.Trees.{Node}
use Rattle.sl_meaning_instruction.specs.Operands.{given_reference}
use Rattle.sl_decode_leaves.specs.Extents.{leaves_at}
use Rattle.sl_spec.specs.declared.tables.Tables.{Tables}
use Rattle.sl_build.proofs.slots.slots_by.Given as goal

abbrev pub invariant-operands : goal.invariant-operands
invariant-operands l = (t : Tables) (bytes : List ℕ) (n : Node) (lengths : List ℕ)
    → map (slot_reference t bytes n lengths) l.slots.items ≡ map (λ o. given_reference t bytes n (leaves_at lengths l.leaves) o.name o.means) (take l.index l.operands)
