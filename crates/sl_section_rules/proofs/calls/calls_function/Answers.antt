use Rattle.std.proofs.Common.{ap, sym, ◌∙◌}
use Rattle.sl_section_rules.proofs.CountLemmas.{count_of}
use Rattle.sl_section_rules.specs.SectionRules.{is_function}
use Rattle.sl_section_rules.proofs.calls.calls_function.Goals as goal

pub returns : goal.returns
returns c = c.is_function.ensures ∙ ap (is_function c.args.name.now) (sym (count_of c.args.es.now))
