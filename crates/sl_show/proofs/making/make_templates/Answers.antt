use Rattle.std.proofs.Common.{sym, ◌∙◌}
use Rattle.sl_decode_leaves.proofs.MadeLemmas.{keeps_of, made_for, none_of}
use Rattle.sl_decode_leaves.specs.Blocks.{AreLeavesOfHead}
use Rattle.sl_spec_rules.proofs.Seen.{past_map}
use Rattle.sl_show.proofs.MakingLemmas.{node_at, none_first, none_past, out_of_constructors, out_of_written, template_next}
use Rattle.sl_spec.specs.Unfolded.{all_placed, placed}
use Rattle.sl_show.proofs.making.make_templates.Goals as goal

pub constructors-init : goal.constructors-init
constructors-init c = (
  none_first c.args.t.now (all_placed c.args.constructors.now) c.new-all.result.items c.new-all.ensures.items,
  none_of (AreLeavesOfHead c.args.t.now) c.args.constructors.now c.new-made.result c.new-made.ensures c.requires,
)

pub template_among-requires : goal.template_among-requires
template_among-requires c =
    made_for (AreLeavesOfHead c.args.t.now) c.args.constructors.now c.constructors.index c.index-constructors-index.result c.constructors-test.true c.index-constructors-index.is
    c.constructors.made c.constructors.invariant.1

pub constructors-preserved : goal.constructors-preserved
constructors-preserved c =
    let t = c.args.t.now in
    let us = c.args.constructors.now in (
      template_next t (all_placed us) c.constructors.all.items c.constructors.index c.constructors.invariant.0 c.in_ok-template.template c.push.new.self.items c.in_ok-push.ensures.items
          (λ s. c.in_ok-template.ensures.template s ∙ node_at t us c.constructors.index c.in-Some.ctor.now c.index-constructors-index.result s (sym c.in-Some.ensures) c.constructors-test.true c.index-constructors-index.is),
      keeps_of (AreLeavesOfHead t) us c.constructors.index c.index-constructors-index.result c.constructors-test.true c.index-constructors-index.is c.constructors.made c.template_among.new.made
          c.in_ok-template.ensures.kept c.constructors.invariant.1,
    )

pub returns-in_default : goal.returns-in_default
returns-in_default c =
    let t = c.args.t.now in
    let us = c.args.constructors.now in
    out_of_constructors t (all_placed us) c.constructors.all.items c.constructors.index c.constructors.invariant.0 (none_past t.constructors c.constructors.index (sym c.in_default.ensures))

pub returns : goal.returns
returns c =
    let t = c.args.t.now in
    let us = c.args.constructors.now in
    out_of_written t (all_placed us) c.constructors.all.items c.constructors.index c.constructors.invariant.0 (past_map placed us c.constructors.index c.constructors-test.false)
