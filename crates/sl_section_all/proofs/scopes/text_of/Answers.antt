use Rattle.std.proofs.Common.{◌++◌, List, [], map, ap, sym, subst, ◌∙◌}
use Rattle.sl_ast.specs.Unfolding.{unfolded_from}
use Rattle.sl_ast.specs.Views.{item_of}
use Rattle.sl_section_all.specs.Scopes.{behind_items, nothing_defined}
use Rattle.sl_section_all.specs.Views.{scopes_view}
use Rattle.sl_section_all.proofs.ScopeLemmas.{all_behind, goes_behind}
use Rattle.sl_spec_rules.proofs.Seen.{below_map, past_map, seen_map}
use Rattle.sl_section_resolve.specs.Macros.{Body}
use Rattle.sl_section_resolve.specs.MacroViews.{bodies_of}
use Rattle.sl_section_terms.specs.declared.reach.Reach.{Reach}
use Rattle.sl_spec.specs.Numbers.{AreNumberedBelow}
use Rattle.sl_spec.specs.Unfolded.{all_placed}
use Rattle.sl_spec.specs.ConstructorItems.{constructors_in}
use Rattle.sl_spec.specs.declared.unfolded.Unfolded.{Unfolded}
use Rattle.sl_spec.proofs.NumberLemmas.{none_numbered, numbers_all}
use Rattle.sl_spec.proofs.WalkLemmas.{all_gathered, gathers}
use Rattle.sl_section_all.proofs.scopes.text_of.Goals as goal

pub items-init : goal.items-init
items-init c =
    let all = unfolded_from 0 (map item_of c.args.items.now) in
    let none = c.new.ensures.items in
    let reach = nothing_defined.reach in
    record {
      constructors = ap (λ (us : List Unfolded). all_placed us ++ constructors_in all) none;
      scopes = ap (λ (ms : List Body). behind_items (record { reach = reach; macros = ms; reaches = c.new-3.result.items }) all) (ap bodies_of c.new-2.ensures)
          ∙ ap (λ (rs : List Reach). behind_items (record { reach = reach; macros = []; reaches = rs }) all) c.new-3.ensures.items;
      numbered = subst (λ (us : List Unfolded). AreNumberedBelow 0 [] us) (sym none) none_numbered;
    }

pub items-preserved : goal.items-preserved
items-preserved c =
    let items = c.args.items.now in
    let i = c.items.index in
    let item = c.index-items-index.result in
    let below = below_map item_of items i c.items-test.true in
    let at = seen_map item_of items i item c.items-test.true c.index-items-index.is in
    let old = c.items.text in
    let new = c.take_item.new.text in
    record {
      constructors = gathers (map item_of items) (all_placed old.constructors.items) (all_placed new.constructors.items) c.items.number c.in_ok-number.number i (item_of item) below at c.in_ok-number.ensures.constructors c.items.invariant.constructors;
      scopes = goes_behind (map item_of items) (scopes_view old.scopes) (scopes_view new.scopes) c.items.number c.in_ok-number.number i (item_of item) (all_placed old.constructors.items) (all_placed new.constructors.items) below at
          c.in_ok-number.ensures.constructors c.in_ok-number.ensures.scopes c.items.invariant.scopes;
      numbered = c.in_ok-number.ensures.numbered c.items.invariant.numbered;
    }

pub returns-clause-constructors : goal.returns-clause-constructors
returns-clause-constructors c =
    let items = c.args.items.now in
    all_gathered (map item_of items) (all_placed c.items.text.constructors.items) c.items.number c.items.index (past_map item_of items c.items.index c.items-test.false) c.items.invariant.constructors

pub returns-clause-scopes : goal.returns-clause-scopes
returns-clause-scopes c =
    let items = c.args.items.now in
    all_behind (map item_of items) (scopes_view c.items.text.scopes) c.items.number c.items.index (past_map item_of items c.items.index c.items-test.false) c.items.invariant.scopes

pub returns-clause-numbered : goal.returns-clause-numbered
returns-clause-numbered c = numbers_all c.items.number [] c.items.text.constructors.items c.items.invariant.numbered
