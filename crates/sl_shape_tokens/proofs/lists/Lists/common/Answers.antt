use Rattle.std.proofs.Common.{ap, sym, ◌∙◌}
use Rattle.sl_shape_tokens.specs.Comparing.{common_prefix}
use Rattle.sl_shape_tokens.specs.Lists.{list_of}
use Rattle.sl_shape_tokens.proofs.WalkLemmas.{none_common}
use Rattle.sl_shape_tokens.proofs.lists.Lists.common.Goals as goal

pub returns-in-None-right-clause-list : goal.returns-in-None-right-clause-list
returns-in-None-right-clause-list c =
    sym (none_common (list_of c.args.self.now c.args.first)) ∙ ap (common_prefix (list_of c.args.self.now c.args.first)) c.in-None-right.ensures.same
