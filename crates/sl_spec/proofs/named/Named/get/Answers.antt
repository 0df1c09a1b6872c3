use Rattle.std.proofs.Common.{sym, ◌∙◌}
use Rattle.sl_spec.specs.Named.{is_named}
use Rattle.sl_spec.proofs.ThingLemmas.{found_nowhere, found_there}
use Rattle.sl_spec.proofs.named.Named.get.Goals as goal

pub returns-in-Some : goal.returns-in-Some
returns-in-Some g c =
    c.at.ensures ∙ found_there (is_named g.T.Entry.name_of c.args.name.now) c.args.self.now c.in-Some.index (sym c.index_of.ensures ∙ c.in-Some.is)

pub returns-in-None : goal.returns-in-None
returns-in-None g c = sym (found_nowhere (is_named g.T.Entry.name_of c.args.name.now) c.args.self.now (sym c.index_of.ensures ∙ c.in-None.is))
