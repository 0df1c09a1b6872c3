use Rattle.std.proofs.Common.{refl, ap, sym, ◌∙◌}
use Rattle.std.specs.List.{list_any}
use Rattle.std.specs.Str.{bytes_eq}
use Rattle.sl_decode_leaves.proofs.TiedLemmas.{ties_found, ties_new, ties_some}
use Rattle.sl_decode_leaves.proofs.blocks.add_tied.Goals as goal

pub returns-then-is_some-clause-tied : goal.returns-then-is_some-clause-tied
returns-then-is_some-clause-tied c =
    ties_some c.args.t.now c.args.operands.now c.args.leaf.now.name.now c.args.all.now.items c.index_of.result c.is_some.result c.index_of.ensures c.is_some.ensures c.if-is_some.true c.requires.plain

pub returns-then-is_tied-clause-tied : goal.returns-then-is_tied-clause-tied
returns-then-is_tied-clause-tied c =
    let name = c.args.leaf.now.name.now in
    ties_found c.args.t.now c.args.operands.now name c.args.all.now.items
    (ap (list_any (λ x. bytes_eq name x.name.now)) (sym c.as_slice.ensures.value) ∙ sym c.is_tied.ensures ∙ c.if-is_tied.true) c.requires.before

pub returns-clause-tied : goal.returns-clause-tied
returns-clause-tied c =
    ties_new c.args.t.now c.args.operands.now c.args.leaf.now.name.now c.args.all.now.items
    (record { name = c.args.leaf.now.name; kind = c.in_ok-kind.kind; length = c.in_ok-length.length }) c.push.new.self.items c.in_ok-push.ensures.items refl
    (sym c.in_ok-kind.ensures, λ lengths. sym (c.in_ok-length.ensures lengths))
