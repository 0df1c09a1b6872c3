-- step: the list that is made of an instruction.
use Rattle.std.specs.Prelude.{◌≡◌, ℕ, pos, List, length}
use Rattle.sl_build.specs.Built.{IsListOf}
use Rattle.sl_build.specs.Stands.{StandsFor}
use Rattle.sl_build.specs.declared.work.Work.{Work}
use Rattle.sl_faithful_code.specs.Nodes.{top_of}
use Rattle.sl_decode_meaning.specs.Flat.{all_values, entries}
use Rattle.sl_decode_meaning.specs.TreeCounts.{count}
use Rattle.sl_decode_meaning.specs.Trees.{Node, Trees}
use Rattle.sl_decode_meaning.specs.declared.entries.Entry.{Entry}
use Rattle.sl_build_emit.specs.Views.{number_of}
use Rattle.sl_meaning_instruction.specs.Instructions.{Specification, instruction, setting_of}
use Rattle.sl_spec_operators.specs.Operators.{wrapped}
use Rattle.sl_pcode.specs.declared.operation.Op.{Op}

-- It is the list of the instruction that the row stands for.
abbrev pub Lists : Work → List Entry → List Op → Type 0
Lists w nodes ops = (s : Specification) (f : Trees Node) (address after : ℕ)
    → StandsFor w.of.now s → number_of w.start ≡ wrapped (pos address)
    → number_of w.next ≡ wrapped (pos after) → w.top ≡ top_of (length nodes)
    → nodes ≡ entries 0 f → w.values.now ≡ all_values f
    → IsListOf (setting_of s.tables address after) (count f) (instruction s w.bytes.now f) ops
