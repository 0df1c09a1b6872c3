use Rattle.std.proofs.Common.{◌≡◌, List, [], ap, subst, sym, ◌∙◌}
use Rattle.std.specs.List.{list_all}
use Rattle.std.proofs.lemmas.List.Folds.{list_all-map}
use Rattle.sl_ast.specs.Trees.{Action}
use Rattle.sl_ast.specs.Unfolding.{written}
use Rattle.sl_ast.specs.Views.{constructor_of, head_of}
use Rattle.sl_spec_rules.specs.Demands.{first_broken}
use Rattle.sl_spec_actions.specs.Parts.{parts_of}
use Rattle.sl_spec.specs.Unfolded.{heads_of, placed}
use Rattle.sl_spec.specs.declared.unfolded.Around.{Around}
use Rattle.sl_spec_actions.specs.ActionNames.{action_names}
use Rattle.sl_spec_actions.specs.ActionRules.{action_demands}
use Rattle.sl_spec_actions.specs.Blocks.{AreEntered, is_idle}
use Rattle.sl_spec_actions.specs.SeenActions.{seen_written}
use Rattle.sl_spec_actions.proofs.BlockLemmas.{first_there, given_there, none_at_all, nothing_broken}
use Rattle.sl_spec_actions.proofs.blocks.judge_actions.Goals as goal

abbrev none : goal.After-new → Type 0
none c = written (placed c.args.of.now).1.actions ≡ []

is_none : (c : goal.After-new) → none c
is_none c =
    none_at_all (heads_of c.args.of.now.heads.items) (constructor_of c.args.of.now.own.now)
    (list_all-map (λ h. is_idle (written h.actions)) (λ b. head_of b.head.now) c.args.of.now.heads.items
    ∙ ap (λ (bs : List Around). list_all (λ b. is_idle (seen_written b.head.now.actions)) bs) (sym c.as_slice-heads.ensures.value) ∙ sym c.are_idle.ensures ∙ c.if-are_idle.true)
    (sym c.is_idle.ensures ∙ c.if-is_idle.true)

pub returns-then-is_idle-clause-given : goal.returns-then-is_idle-clause-given
returns-then-is_idle-clause-given c = c.new.ensures ∙ ap (action_names c.args.t.now) (sym (is_none c))

pub returns-then-is_idle-clause-broken : goal.returns-then-is_idle-clause-broken
returns-then-is_idle-clause-broken c =
    let all = c.args.all.now in
    let t = c.args.t.now in
    let ps = parts_of all (placed c.args.of.now).1.pattern in
    sym (nothing_broken all t ps) ∙ ap (λ (as' : List Action). first_broken (action_demands all t ps as')) (sym (is_none c))

entered : (c : goal.In_ok-facts) → AreEntered c.args.all.now c.args.t.now c.args.of.now.heads.items c.args.blocks.now c.enter.new.self
entered c = subst (λ (bs : List Around). AreEntered c.args.all.now c.args.t.now bs c.args.blocks.now c.enter.new.self) c.as_slice-heads.ensures.value c.in_ok-enter.ensures

pub returns-clause-given : goal.returns-clause-given
returns-clause-given c =
    given_there c.args.all.now c.args.t.now c.args.of.now.heads.items (constructor_of c.args.of.now.own.now) c.enter.new.self c.in_ok-facts.facts.given c.in_ok-facts.facts.broken
    c.requires.0 c.requires.1 ((entered c).kept c.requires.0 c.requires.1 c.requires.2) (entered c).numbers c.in_ok-facts.ensures

pub returns-clause-broken : goal.returns-clause-broken
returns-clause-broken c =
    first_there c.args.all.now c.args.t.now c.args.of.now.heads.items (constructor_of c.args.of.now.own.now) c.enter.new.self c.in_ok-facts.facts.given c.in_ok-facts.facts.broken
    c.requires.0 c.requires.1 ((entered c).kept c.requires.0 c.requires.1 c.requires.2) (entered c).numbers c.in_ok-facts.ensures

pub returns-clause-kept : goal.returns-clause-kept
returns-clause-kept c = (entered c).kept
