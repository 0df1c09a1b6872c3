-- meaning: when a list of operations does what an instruction does.
use Rattle.std.specs.Prelude.{◌≡◌, ℕ, ◌<◌, List}
use Rattle.sl_faithful_code.specs.Runs.{final_outcome, final_run}
use Rattle.sl_meaning_sections.specs.Nodes.{Node, outcome}
use Rattle.sl_meaning_sections.specs.References.{Setting}
use Rattle.sl_pcode.specs.Machine.{run_of}
use Rattle.sl_pcode.specs.declared.operation.Op.{Op}
use Rattle.sl_word.specs.Memories.{Memory}

abbrev pub AreBytes : Memory → Type 0
AreBytes m = (space offset : ℕ) → m space offset < 256

-- The list does what the instruction does, from each memory: it ends as that does, with the same
-- memory; to the same address of the default space, or by the same fault.
abbrev pub IsFaithful : Setting → Node → List Op → Type 0
IsFaithful g root ops = (m : Memory) → AreBytes m
    → final_run g (run_of g.endian g.sizes ops m) ≡ final_outcome (outcome g root m)
