use Rattle.std.proofs.Common.{false, sym, subst}
use Rattle.std.specs.Prelude.{IfOk}
use Rattle.sl_bind.proofs.GrowLemmas.{begins_as}
use Rattle.sl_spec_constructors.specs.Made.{IsMadeFor, StaysMade}
use Rattle.sl_spec.specs.declared.tables.Tables.{Tables}
use Rattle.sl_bind.proofs.items.add_constructor.Goals as goal

pub define_constructor-requires : goal.define_constructor-requires
define_constructor-requires c =
    subst (λ (t : Tables). IsMadeFor c.args.tables.now t c.args.of.now.heads.items c.args.made.now)
    (begins_as c.args.known.now c.begin.new.known false c.in_ok-begin.ensures.step) c.requires

pub returns-clause-kept : goal.returns-clause-kept
returns-clause-kept c =
    subst (λ (t : Tables). IfOk c.define_constructor.result (λ _. StaysMade c.args.tables.now t c.args.of.now.heads.items c.args.made.now c.define_constructor.new.made))
    (sym (begins_as c.args.known.now c.begin.new.known false c.in_ok-begin.ensures.step)) c.define_constructor.ensures.kept
