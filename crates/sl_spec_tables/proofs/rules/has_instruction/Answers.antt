use Rattle.std.proofs.Common.{◌∙◌}
use Rattle.sl_spec_tables.proofs.RuleLemmas.{some_of}
use Rattle.sl_spec_tables.proofs.rules.has_instruction.Goals as goal

pub returns : goal.returns
returns c = c.some_of_instruction.ensures ∙ some_of c.args.rows.now
