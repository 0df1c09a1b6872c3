use Rattle.std.proofs.Common.{[], map}
use Rattle.sl_ast.specs.Views.{bytes, statement_of, statements_of}
use Rattle.sl_spec_rules.proofs.Gathers.{all_gathered, gathers}
use Rattle.sl_spec_rules.proofs.Seen.{below_map, past_map, seen_map}
use Rattle.sl_section_rules.specs.SectionRules.{built}
use Rattle.sl_section_rules.proofs.builds.built.Goals as goal

pub body-preserved : goal.body-preserved
body-preserved c =
    let body = c.args.body.now in
    let i = c.body.index in
    let x = c.index-body-index.result in
    gathers built [] (statements_of body) (map bytes c.body.names.items) (map bytes c.add_built.new.names.items) i (statement_of x)
    (below_map statement_of body i c.body-test.true) (seen_map statement_of body i x c.body-test.true c.index-body-index.is) c.in_ok-add_built.ensures c.body.invariant

pub returns : goal.returns
returns c =
    let body = c.args.body.now in
    all_gathered built [] (statements_of body) (map bytes c.body.names.items) c.body.index (past_map statement_of body c.body.index c.body-test.false) c.body.invariant
