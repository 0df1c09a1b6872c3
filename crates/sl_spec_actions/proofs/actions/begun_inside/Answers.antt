use Rattle.std.proofs.Common.{rules, ◌||◌, Bool, List, ap, ap₂, ◌∙◌}
use Rattle.sl_spec_actions.specs.Levels.{Judged}
use Rattle.sl_spec_actions.specs.PatternNames.{PatternNames}
use Rattle.sl_spec_actions.specs.Pending.{Pending, all_stand}
use Rattle.sl_spec_rules.specs.Names.{Name, is_among}
use Rattle.sl_spec_actions.proofs.actions.begun_inside.Goals as goal

-- it hangs on the names that don't stand among these
abbrev left : (Name → Bool) → Pending → List Name → Bool
left f p names = all_stand p (λ n. is_among names n || f n)

pub returns : goal.returns
returns c = record {
  given = search rules;
  new_left = search rules;
  known_names = λ f. c.in_ok-left_inside.ensures f ∙ ap₂ (left f) (ap (λ (j : Judged). j.known_names) c.outer.view_is) (ap (λ (ns : PatternNames). ns.anywhere) c.names.view_is);
  early_names = search rules;
  context_field = search rules;
  address = λ f. c.in_ok-left_inside-2.ensures f ∙ ap₂ (left f) (ap (λ (j : Judged). j.address) c.outer.view_is) (ap (λ (ns : PatternNames). ns.bare) c.names.view_is);
}
