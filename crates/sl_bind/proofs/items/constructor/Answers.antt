use Rattle.std.proofs.Common.{subst}
use Rattle.std.specs.Prelude.{IfOk}
use Rattle.sl_spec_constructors.proofs.MadeLemmas.{anyway}
use Rattle.sl_spec_constructors.specs.Made.{StaysMade}
use Rattle.sl_section_rules.specs.WholeText.{Whole}
use Rattle.sl_bind.proofs.items.constructor.Goals as goal

pub returns-clause-kept : goal.returns-clause-kept
returns-clause-kept c =
    let t = c.args.progress.now.known.tables in
    subst (λ (w : Whole). IfOk c.demand_section.result (λ _. StaysMade w.tables t c.args.of.now.heads.items c.args.made.now c.add_constructor.new.made))
    c.whole.view_is (anyway c.demand_section.result c.in_ok-add_constructor.ensures.kept)
