use Rattle.std.proofs.Common.{ap, ◌∙◌}
use Rattle.sl_shape_tokens.specs.Nodes.{lists_of}
use Rattle.sl_shape_tokens.proofs.ListLemmas.{no_lists}
use Rattle.sl_shape_tokens.proofs.lists.Lists.new.Goals as goal

pub returns : goal.returns
returns c = ap lists_of c.new.ensures.items ∙ no_lists
