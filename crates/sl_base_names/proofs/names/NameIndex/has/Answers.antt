use Rattle.std.proofs.Common.{ap, is_some, ◌∙◌}
use Rattle.std.specs.Str.{bytes_eq}
use Rattle.sl_base_names.proofs.IndexLemmas.{position_any}
use Rattle.sl_base_names.proofs.names.NameIndex.has.Goals as goal

pub returns : goal.returns
returns c = c.is_some.ensures ∙ ap is_some c.find.ensures ∙ position_any (λ n. bytes_eq c.args.name.now n) c.args.self.now
