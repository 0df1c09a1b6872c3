use Rattle.sl_ast.specs.Views.{statements_of}
use Rattle.sl_section_rules.proofs.HoldingLemmas.{IsHolding}
use Rattle.sl_section_rules.proofs.holding.all_holding.Given as goal

abbrev pub invariant-body : goal.invariant-body
invariant-body l = IsHolding l.whole l.t l.macros (statements_of l.body) l.initial.scope l.holds l.scope l.index
