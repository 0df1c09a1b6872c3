use Rattle.std.proofs.Common.{List, fold, map, ap, sym, subst, ◌∙◌}
use Rattle.sl_ast.specs.Trees.{Head}
use Rattle.sl_ast.specs.Views.{constructor_of, head_of}
use Rattle.sl_spec_rules.proofs.Seen.{below_map, past_map, seen_map}
use Rattle.sl_spec.specs.Numbers.{AreMadeFor, KeepsMade}
use Rattle.sl_spec.specs.declared.unfolded.Around.{Around}
use Rattle.sl_spec_actions.proofs.Folds.{fold_ends, fold_goes}
use Rattle.sl_spec_constructors.specs.Facts.{AreOfHead}
use Rattle.sl_spec_constructors.specs.FactSteps.{with_head}
use Rattle.sl_spec_constructors.proofs.FactLemmas.{all_said}
use Rattle.sl_spec_constructors.proofs.MadeLemmas.{keeps_more, right_at}
use Rattle.sl_spec_constructors.proofs.facts.facts_of_unfolded.Goals as goal

abbrev seen : Around → Head
seen a = head_of a.head.now

pub add_block-requires : goal.add_block-requires
add_block-requires c =
    let right = AreOfHead c.args.fields.now c.args.tables.now in
    let heads = c.as_slice-heads.result.now in
    let made = subst (λ (as' : List Around). AreMadeFor right as' c.args.made.now) (sym c.as_slice-heads.ensures.value) c.requires in
    right_at right heads c.heads.index c.index-heads-index.result c.heads-test.true c.index-heads-index.is c.args.made.now c.heads.made made c.heads.invariant.1

pub heads-preserved : goal.heads-preserved
heads-preserved c =
    let right = AreOfHead c.args.fields.now c.args.tables.now in
    let step = with_head c.args.fields.now c.args.tables.now in
    let heads = c.as_slice-heads.result.now in
    let i = c.heads.index in
    let below = c.heads-test.true in
    let a = c.index-heads-index.result in (
      fold_goes step c.no_facts-all.result (map seen heads) c.heads.all c.add_block.new.all i (seen a) (below_map seen heads i below)
          (seen_map seen heads i a below c.index-heads-index.is) c.in_ok-add_block.ensures.added c.heads.invariant.0,
      keeps_more right heads i a below c.index-heads-index.is c.args.made.now c.heads.made c.add_block.new.made c.in_ok-add_block.ensures.kept c.heads.invariant.1,
    )

pub returns : goal.returns
returns c =
    let right = AreOfHead c.args.fields.now c.args.tables.now in
    let step = with_head c.args.fields.now c.args.tables.now in
    let heads = c.as_slice-heads.result.now in
    let items = c.args.of.now.heads.items in
    let last = fold_ends step c.no_facts-all.result (map seen heads) c.heads.all c.heads.index (past_map seen heads c.heads.index c.heads-test.false) c.heads.invariant.0 in
    let of = ap (λ (hs : List Around). fold step c.no_facts-all.result (map seen hs)) c.as_slice-heads.ensures.value in
    record {
      facts = all_said c.args.fields.now c.args.tables.now (map seen items) (constructor_of c.args.of.now.own.now) c.no_facts-all.result c.heads.all c.add_pattern.new.all
          c.no_facts-all.ensures (last ∙ of) c.in_ok-add_pattern.ensures;
      kept = subst (λ (as' : List Around). KeepsMade right as' c.args.made.now c.heads.made) c.as_slice-heads.ensures.value c.heads.invariant.1;
    }
