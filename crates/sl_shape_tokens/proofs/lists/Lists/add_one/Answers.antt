use Rattle.std.proofs.Common.{arith}
use Rattle.sl_shape_tokens.specs.declared.nodes.Node.TheVariants.{One}
use Rattle.sl_shape_tokens.proofs.ListLemmas.{added_keeps, added_list, added_there}
use Rattle.sl_shape_tokens.proofs.lists.Lists.add_one.Goals as goal

pub returns-clause-keeps : goal.returns-clause-keeps
returns-clause-keeps c =
    added_keeps c.self.inside.nodes.items (One c.args.token) c.args.self.now c.push.new.self.items c.self.view_is c.in_ok-push.ensures.items

pub returns-clause-there : goal.returns-clause-there
returns-clause-there c =
    added_there c.self.inside.nodes.items (One c.args.token) c.args.self.now c.push.new.self.items c.self.view_is c.in_ok-push.ensures.items
    c.len-number.result (omega (arith, c.len-number.ensures, c.self.inside.nodes.ok.0))

pub returns-clause-list : goal.returns-clause-list
returns-clause-list c =
    added_list c.self.inside.nodes.items (One c.args.token) c.args.self.now c.push.new.self.items c.self.view_is c.in_ok-push.ensures.items
    c.len-number.result (omega (arith, c.len-number.ensures, c.self.inside.nodes.ok.0))
