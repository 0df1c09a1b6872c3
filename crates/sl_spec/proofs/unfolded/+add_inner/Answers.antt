use Rattle.std.proofs.Common.{◌≤◌, List, length, map, sym, subst, refl, ap, ◌∙◌, arith}
use Rattle.std.proofs.lemmas.List.{map_push}
use Rattle.std.specs.Prelude.{IfOk}
use Rattle.sl_ast.specs.Views.{head_of}
use Rattle.sl_ast.specs.declared.constructors.Inner.{Inner}
use Rattle.sl_spec.specs.Numbers.{AreNumberedBelow}
use Rattle.sl_spec.specs.Unfolded.{placed}
use Rattle.sl_spec.specs.declared.unfolded.Around.{Around}
use Rattle.sl_spec.specs.Walks.{Adds, inner_before}
use Rattle.sl_spec.proofs.NumberLemmas.{begins_inside, ends_inside}
use Rattle.sl_spec.proofs.WalkLemmas.{adds_block, adds_constructor, walk_begins, walk_goes, adds_within, parts_from, walk_ends}
use Rattle.sl_spec.proofs.unfolded.+add_inner.Goals as goal

pub returns-in-Constructor-clause-added : goal.returns-in-Constructor-clause-added
returns-in-Constructor-clause-added t c =
    subst (λ (x : Inner). IfOk c.add_constructor.result (λ next. Adds (map (λ a. head_of a.head.now) c.args.heads.now) c.args.number (inner_before x) (map placed c.args.all.now.items) next (map placed c.add_constructor.new.all.items))) (sym c.in-Constructor.is)
    (adds_constructor _ c.args.number c.in-Constructor.field-0 c.in-Constructor.own _ _ c.add_constructor.result c.add_constructor.ensures.added c.add_constructor.ensures.next)

pub inside-init : goal.inside-init
inside-init t c =
    (walk_begins _ _ _ _, begins_inside c.args.number _ c.args.heads.now c.in_ok-around-in-With.around.items c.args.all.now.items _ c.in_ok-around-in-With.ensures refl c.in_ok-number-in-With.ensures)

pub inside-preserved : goal.inside-preserved
inside-preserved t c = (
  walk_goes _ _ _ c.as_slice-inside.result.now (map placed c.inside.all.items) (map placed c.add_inner.new.all.items) c.inside.number c.in_ok-number-in-With-2.number c.inside.index c.index-inside-index.result
      c.inside-test.true c.index-inside-index.is (subst (λ (bs : List Around). Adds (map (λ a. head_of a.head.now) bs) c.inside.number (inner_before c.index-inside-index.result) (map placed c.inside.all.items) c.in_ok-number-in-With-2.number (map placed c.add_inner.new.all.items)) c.as_slice.ensures.value c.in_ok-number-in-With-2.ensures.added) c.inside.invariant.0,
  λ numbered. subst (λ (bs : List Around). AreNumberedBelow c.in_ok-number-in-With-2.number bs c.add_inner.new.all.items) c.as_slice.ensures.value (c.in_ok-number-in-With-2.ensures.numbered (subst (λ (bs : List Around). AreNumberedBelow c.inside.number bs c.inside.all.items) (sym c.as_slice.ensures.value) (c.inside.invariant.1 numbered))),
)

pub returns-after-inside-clause-added : goal.returns-after-inside-clause-added
returns-after-inside-clause-added t c =
    let heads = map (λ h. head_of h.head.now) c.args.heads.now in
    let inner_heads = map (λ h. head_of h.head.now) c.in_ok-around-in-With.around.items in
    let old = map placed c.args.all.now.items in
    let new = map placed c.inside.all.items in
    let parts = c.as_slice-inside.result.now in
    let h = head_of c.in-With.head in
    let end : length parts ≤ c.inside.index = omega (arith, c.inside-test.false) in
    let walked = walk_ends inner_heads c.in_ok-number-in-With.number old parts new c.inside.number c.inside.index end c.inside.invariant.0 in
    let within = adds_within _ inner_heads c.in_ok-number-in-With.number _ c.inside.number (parts_from parts 0) old new (ap (map (λ a. head_of a.head.now)) c.in_ok-around-in-With.ensures ∙ map_push (λ a. head_of a.head.now) c.args.heads.now _) c.in_ok-number-in-With.ensures walked in
    let block = adds_block heads h c.args.number c.inside.number parts old new within c.in-With.field-0 c.in-With.head c.in-With.inside refl c.as_slice-inside.ensures.value in
    subst (λ (x : Inner). Adds heads c.args.number (inner_before x) old c.inside.number new) (sym c.in-With.is) block

pub returns-after-inside-clause-numbered : goal.returns-after-inside-clause-numbered
returns-after-inside-clause-numbered t c = λ numbered. ends_inside c.args.number _ c.args.heads.now c.in_ok-around-in-With.around.items c.inside.all.items _ c.in_ok-around-in-With.ensures (c.inside.invariant.1 numbered)
