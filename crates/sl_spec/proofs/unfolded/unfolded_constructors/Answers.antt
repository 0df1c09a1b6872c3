use Rattle.std.proofs.Common.{◌≤◌, ◌++◌, List, [], length, map, ap, sym, subst, arith}
use Rattle.std.proofs.lemmas.List.{length-map}
use Rattle.sl_ast.specs.Unfolding.{unfolded_from}
use Rattle.sl_ast.specs.Views.{item_of}
use Rattle.sl_spec.specs.Numbers.{AreNumberedBelow}
use Rattle.sl_spec.specs.Unfolded.{placed}
use Rattle.sl_spec.specs.ConstructorItems.{constructors_in}
use Rattle.sl_spec.specs.declared.unfolded.Unfolded.{Unfolded}
use Rattle.sl_spec.proofs.NumberLemmas.{none_numbered, numbers_all}
use Rattle.sl_spec.proofs.SeenLemmas.{seen_map}
use Rattle.sl_spec.proofs.WalkLemmas.{all_gathered, gathers}
use Rattle.sl_spec.proofs.unfolded.unfolded_constructors.Goals as goal

pub items-init : goal.items-init
items-init c =
    let none = c.new-all.ensures.items in
    (ap (λ (us : List Unfolded). map placed us ++ constructors_in (unfolded_from 0 (map item_of c.args.items.now))) none, subst (λ (us : List Unfolded). AreNumberedBelow 0 [] us) (sym none) none_numbered)

pub items-preserved : goal.items-preserved
items-preserved c =
    let items = c.args.items.now in
    let item = c.index-items-index.result in (
      gathers (map item_of items) (map placed c.items.all.items) (map placed c.add_unfolded.new.all.items) c.items.number c.in_ok-number.number c.items.index (item_of item)
          (omega (arith, length-map items item_of, c.items-test.true)) (seen_map item_of items c.items.index item c.items-test.true c.index-items-index.is) c.in_ok-number.ensures.added c.items.invariant.0,
      c.in_ok-number.ensures.numbered c.items.invariant.1,
    )

pub returns-clause-all : goal.returns-clause-all
returns-clause-all c =
    let items = c.args.items.now in
    let end : length (map item_of items) ≤ c.items.index = omega (arith, length-map items item_of, c.items-test.false) in
    all_gathered (map item_of items) (map placed c.items.all.items) c.items.number c.items.index end c.items.invariant.0

pub returns-clause-numbered : goal.returns-clause-numbered
returns-clause-numbered c = numbers_all c.items.number [] c.items.all.items c.items.invariant.1
