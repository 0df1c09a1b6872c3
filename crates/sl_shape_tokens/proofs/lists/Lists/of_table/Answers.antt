use Rattle.sl_shape_tokens.proofs.lists.Lists.of_table.Goals as goal

pub returns-in-empty-clause-there : goal.returns-in-empty-clause-there
returns-in-empty-clause-there c = c.of_nothing.ensures.there c.args.self.now
