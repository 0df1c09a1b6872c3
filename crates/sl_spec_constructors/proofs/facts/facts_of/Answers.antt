use Rattle.sl_ast.specs.Views.{pattern_of}
use Rattle.sl_spec_constructors.proofs.FactLemmas.{whole_said}
use Rattle.sl_spec_constructors.proofs.facts.facts_of.Goals as goal

pub returns : goal.returns
returns c = whole_said c.args.fields.now c.args.tables.now (pattern_of c.args.pattern.now) _ _ c.no_facts-all.ensures c.in_ok-add_pattern.ensures
