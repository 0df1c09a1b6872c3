use Rattle.std.proofs.Common.{◌≡◌, ◌*◌, ◌+◌, ◌≤◌, ◌++◌, length, take}
use Rattle.sl_decode_meaning.specs.Trees.{Node, Trees}
use Rattle.sl_show.specs.Entries.{row_of, rows, rows_of}
use Rattle.sl_show.specs.Spans.{AreTexts, AreWithin}
use Rattle.sl_show.specs.Templates.{operand_texts, parts_text, spot_among}
use Rattle.sl_show.proofs.texts.+texts.Given as goal

abbrev pub decreases-push_first : goal.decreases-push_first
decreases-push_first l = 4 * length l.nodes.now

abbrev pub decreases-push_parts : goal.decreases-push_parts
decreases-push_parts l = 4 * length l.kids.now + 2

abbrev pub invariant-push_parts-parts : goal.invariant-push_parts-parts
invariant-push_parts-parts l = record {
  longer : length l.initial.out.items ≤ length l.out.items;
  text : (f : Trees Node) → rows_of l.of.values.now l.kids ≡ rows f
      → l.out.items ≡ l.initial.out.items ++ parts_text l.t (spot_among l.t l.templates l.of.bytes.now (row_of l.of.values.now l.node).node f) (take l.part-index l.parts);
}

abbrev pub decreases-push_part : goal.decreases-push_part
decreases-push_part l = 4 * length l.kids.now + 1

abbrev pub decreases-push_operand_once : goal.decreases-push_operand_once
decreases-push_operand_once l = 4 * length l.kids.now + 1

abbrev pub decreases-push_part_once : goal.decreases-push_part_once
decreases-push_part_once l = 4 * length l.kids.now + 2

abbrev pub decreases-push_parts_once : goal.decreases-push_parts_once
decreases-push_parts_once l = 4 * length l.kids.now + 3

abbrev pub invariant-push_parts_once-parts : goal.invariant-push_parts_once-parts
invariant-push_parts_once-parts l = record {
  longer : length l.initial.out.items ≤ length l.out.items;
  within : AreWithin l.spans l.out.items;
  texts : (f : Trees Node) → rows_of l.of.values.now l.kids ≡ rows f → AreTexts (operand_texts l.t l.templates l.of.bytes.now f) l.spans l.out.items;
  text : (f : Trees Node) → rows_of l.of.values.now l.kids ≡ rows f
      → l.out.items ≡ l.initial.out.items ++ parts_text l.t (spot_among l.t l.templates l.of.bytes.now (row_of l.of.values.now l.node).node f) (take l.part-index l.parts);
}
