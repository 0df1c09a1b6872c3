use Rattle.std.proofs.Common.{[], map}
use Rattle.sl_ast.specs.Views.{bytes, statements_of}
use Rattle.sl_spec_rules.proofs.Gathers.{IsGathered}
use Rattle.sl_section_rules.specs.SectionRules.{built}
use Rattle.sl_section_rules.proofs.builds.built.Given as goal

abbrev pub invariant-body : goal.invariant-body
invariant-body l = IsGathered built [] (statements_of l.body) (map bytes l.names.items) l.index
