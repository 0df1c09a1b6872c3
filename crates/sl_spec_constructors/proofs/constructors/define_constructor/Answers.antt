use Rattle.sl_spec_constructors.proofs.MadeLemmas.{anyway}
use Rattle.sl_spec_constructors.proofs.constructors.define_constructor.Goals as goal

pub facts_of_unfolded-requires : goal.facts_of_unfolded-requires
facts_of_unfolded-requires c = (c.requires.0, c.requires.1, c.requires.2.facts)

pub judge_actions-requires : goal.judge_actions-requires
judge_actions-requires c = (c.requires.0, c.requires.1, c.requires.2.actions)

pub returns-clause-kept : goal.returns-clause-kept
returns-clause-kept c =
    anyway c.define_by.result (λ head_at told made. record {
      facts = c.in_ok-facts.ensures.kept head_at told made.facts;
      actions = c.in_ok-actions.ensures.kept head_at told made.actions;
    })
