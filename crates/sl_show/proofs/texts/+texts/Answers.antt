use Rattle.std.proofs.Common.{◌≡◌, ◌<◌, ◌++◌, ◌∙◌, ap, sym, length, append-nil, arith, rules}
use Rattle.sl_show.proofs.EntryLemmas.{first_by_parts, kid_text, no_text}
use Rattle.sl_show.proofs.PartLemmas.{no_parts, part_shown}
use Rattle.sl_show.proofs.SpanLemmas.{none_texts, none_within, put_text, still_texts, still_within}
use Rattle.sl_show.specs.Entries.{from_tree, row_of}
use Rattle.sl_show.specs.Templates.{operand_texts, part_text, spot_among, template_text}
use Rattle.sl_show.proofs.texts.+texts.Goals as goal

-- ---- the first tree

pub push_first-returns-then-is_empty-clause-text : goal.push_first-returns-then-is_empty-clause-text
push_first-returns-then-is_empty-clause-text t c f e =
    let empty : length c.args.nodes.now ≡ 0 = search rules in
    no_text c.args.t.now c.args.templates.now c.args.of.bytes.now c.args.of.values.now c.args.nodes.now f c.args.out.now.items empty e

pub push_first-returns-then-repeats-clause-text : goal.push_first-returns-then-repeats-clause-text
push_first-returns-then-repeats-clause-text t c f e =
    let some : 0 < length c.args.nodes.now = search rules in
    first_by_parts c.args.t.now c.args.templates.now c.args.of.bytes.now c.args.of.values.now c.args.nodes.now c.index-nodes-0.result c.parted.result.0.now c.args.out.now.items c.push_parts_once.new.out.items c.parts_of-repeats.result.0.now f
    some c.index-nodes-0.is e c.parts_of-repeats.ensures (λ n below behind is. c.parted.ensures.kids c.args.of.values.now n below behind is) c.in_ok-push_parts_once.ensures.text

pub push_first-returns-clause-text : goal.push_first-returns-clause-text
push_first-returns-clause-text t c f e =
    let some : 0 < length c.args.nodes.now = search rules in
    first_by_parts c.args.t.now c.args.templates.now c.args.of.bytes.now c.args.of.values.now c.args.nodes.now c.index-nodes-0.result c.parted.result.0.now c.args.out.now.items c.push_parts.new.out.items c.parts_of-repeats.result.0.now f
    some c.index-nodes-0.is e c.parts_of-repeats.ensures (λ n below behind is. c.parted.ensures.kids c.args.of.values.now n below behind is) c.in_ok-push_parts.ensures.text

-- ---- parts

pub push_part-returns-in-Ok-clause-text : goal.push_part-returns-in-Ok-clause-text
push_part-returns-in-Ok-clause-text t c f e =
    let spot = spot_among c.args.t.now c.args.templates.now c.args.of.bytes.now (row_of c.args.of.values.now c.args.node.now).node f in
    c.in-Ok.ensures.text (from_tree c.in-Table.number f) (c.skip-rest.ensures.trees c.args.of.values.now f e)
    ∙ ap (λ text. c.args.out.now.items ++ text)
    (kid_text (template_text c.args.t.now c.args.templates.now) c.args.of.bytes.now c.in-Table.number f ∙ ap (part_text c.args.t.now spot) (sym c.in-Table.is))

pub push_parts-parts-init : goal.push_parts-parts-init
push_parts-parts-init t c = record {
  longer = omega arith;
  text = λ f e. let spot = spot_among c.args.t.now c.args.templates.now c.args.of.bytes.now (row_of c.args.of.values.now c.args.node.now).node f in
      sym (append-nil c.args.out.now.items) ∙ ap (λ text. c.args.out.now.items ++ text) (sym (no_parts c.args.t.now spot));
}

pub push_parts-parts-preserved : goal.push_parts-parts-preserved
push_parts-parts-preserved t c = record {
  longer = omega (arith, c.parts.invariant.longer, c.in_ok-push_part.ensures.longer);
  text = λ f e. let spot = spot_among c.args.t.now c.args.templates.now c.args.of.bytes.now (row_of c.args.of.values.now c.args.node.now).node f in
      part_shown c.args.t.now spot c.args.parts.now c.parts.part-index c.part-item.result c.args.out.now.items c.parts.out.items c.push_part.new.out.items
      c.parts-test.true c.part-item.is (c.parts.invariant.text f e) (c.in_ok-push_part.ensures.text f e);
}

-- ---- operands whose texts are made once

pub push_operand_once-returns-in_ok-extend_from_within-in-Some-clause-texts :
    goal.push_operand_once-returns-in_ok-extend_from_within-in-Some-clause-texts
push_operand_once-returns-in_ok-extend_from_within-in-Some-clause-texts t c f e texts =
    still_texts (operand_texts c.args.t.now c.args.templates.now c.args.of.bytes.now f) c.args.spans.now c.args.out.now.items c.extend_from_within.new.self.items _
    c.in_ok-extend_from_within-in-Some.ensures.items c.requires texts

pub push_operand_once-returns-in_ok-put-in-None-clause-text :
    goal.push_operand_once-returns-in_ok-put-in-None-clause-text
push_operand_once-returns-in_ok-put-in-None-clause-text t c f e texts =
    c.in_ok-push_first-in-None.ensures.text (from_tree c.args.number f) (c.skip.ensures.trees c.args.of.values.now f e)
    ∙ ap (λ text. c.args.out.now.items ++ text) (kid_text (template_text c.args.t.now c.args.templates.now) c.args.of.bytes.now c.args.number f)

pub push_operand_once-returns-in_ok-put-in-None-clause-texts :
    goal.push_operand_once-returns-in_ok-put-in-None-clause-texts
push_operand_once-returns-in_ok-put-in-None-clause-texts t c f e texts =
    let from : c.len-start.result ≡ length c.args.out.now.items = search rules in
    let to : c.len-end.result ≡ length c.push_first.new.out.items = search rules in
    put_text (operand_texts c.args.t.now c.args.templates.now c.args.of.bytes.now f) c.args.spans.now c.put.new.self c.args.out.now.items c.push_first.new.out.items c.args.number
    (record { start = c.len-start.result; end = c.len-end.result }) c.in_ok-put-in-None.ensures from to
    (push_operand_once-returns-in_ok-put-in-None-clause-text t c f e texts) c.requires texts

pub push_part_once-returns-in_ok-push_part-in_default :
    goal.push_part_once-returns-in_ok-push_part-in_default
push_part_once-returns-in_ok-push_part-in_default t c = record {
  longer = c.in_ok-push_part-in_default.ensures.longer;
  within = still_within c.args.spans.now c.args.out.now.items c.push_part.new.out.items c.in_ok-push_part-in_default.ensures.longer c.requires;
  texts = λ f e texts.
      still_texts (operand_texts c.args.t.now c.args.templates.now c.args.of.bytes.now f) c.args.spans.now c.args.out.now.items c.push_part.new.out.items _
      (c.in_ok-push_part-in_default.ensures.text f e) c.requires texts;
  text = λ f e texts. c.in_ok-push_part-in_default.ensures.text f e;
}

pub push_parts_once-parts-init : goal.push_parts_once-parts-init
push_parts_once-parts-init t c = record {
  longer = omega arith;
  within = none_within c.new-spans.result c.args.out.now.items c.new-spans.ensures;
  texts = λ f e. none_texts (operand_texts c.args.t.now c.args.templates.now c.args.of.bytes.now f) c.new-spans.result c.args.out.now.items c.new-spans.ensures;
  text = λ f e. let spot = spot_among c.args.t.now c.args.templates.now c.args.of.bytes.now (row_of c.args.of.values.now c.args.node.now).node f in
      sym (append-nil c.args.out.now.items) ∙ ap (λ text. c.args.out.now.items ++ text) (sym (no_parts c.args.t.now spot));
}

pub push_parts_once-parts-preserved : goal.push_parts_once-parts-preserved
push_parts_once-parts-preserved t c = record {
  longer = omega (arith, c.parts.invariant.longer, c.in_ok-push_part_once.ensures.longer);
  within = c.in_ok-push_part_once.ensures.within;
  texts = λ f e. c.in_ok-push_part_once.ensures.texts f e (c.parts.invariant.texts f e);
  text = λ f e. let spot = spot_among c.args.t.now c.args.templates.now c.args.of.bytes.now (row_of c.args.of.values.now c.args.node.now).node f in
      part_shown c.args.t.now spot c.args.parts.now c.parts.part-index c.part-item.result c.args.out.now.items c.parts.out.items c.push_part_once.new.out.items
      c.parts-test.true c.part-item.is (c.parts.invariant.text f e) (c.in_ok-push_part_once.ensures.text f e (c.parts.invariant.texts f e));
}
