use Rattle.std.proofs.Common.{◌≡◌, ◌++◌, drop, map}
use Rattle.sl_build.specs.Pieces.{filled_lists, filled_references}
use Rattle.sl_build.specs.Views.{pieces_of, slot_reference}
use Rattle.sl_build_emit.specs.Views.{lists_of, references_of}
use Rattle.sl_show.specs.Entries.{row_of}
use Rattle.sl_build.proofs.filling.operands_of.Given as goal

abbrev pub invariant-slots : goal.invariant-slots
invariant-slots l =
    let given = slot_reference l.w.of.now.tables.now l.w.bytes.now (row_of l.w.values.now l.node).node l.lengths.items in
    record {
      refs : references_of l.filled.refs.items ++ filled_references (map given (drop l.index l.slots)) (pieces_of l.below.items) ≡ filled_references (map given l.slots) (pieces_of l.initial.below.items);
      lists : lists_of l.filled.lists.items ++ filled_lists (map given (drop l.index l.slots)) (pieces_of l.below.items) ≡ filled_lists (map given l.slots) (pieces_of l.initial.below.items);
    }
