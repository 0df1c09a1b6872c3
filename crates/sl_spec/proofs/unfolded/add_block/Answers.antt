use Rattle.std.proofs.Common.{◌≤◌, List, [], length, map, refl, sym, subst, ap, arith}
use Rattle.sl_ast.specs.Views.{head_of}
use Rattle.sl_spec.specs.Numbers.{AreNumberedBelow}
use Rattle.sl_spec.specs.Unfolded.{placed}
use Rattle.sl_spec.specs.Walks.{Adds, inner_before}
use Rattle.sl_spec.specs.declared.unfolded.Around.{Around}
use Rattle.sl_spec.proofs.NumberLemmas.{begins_inside, ends_inside}
use Rattle.sl_spec.proofs.WalkLemmas.{walk_begins, walk_goes, adds_outer_block, adds_within, parts_from, walk_ends}
use Rattle.sl_spec.proofs.unfolded.add_block.Goals as goal

pub inside-init : goal.inside-init
inside-init c =
    (walk_begins _ _ _ _, begins_inside c.args.number _ [] c.in_ok-heads.heads.items c.args.all.now.items _ c.in_ok-heads.ensures refl c.in_ok-number.ensures)

pub inside-preserved : goal.inside-preserved
inside-preserved c = (
  walk_goes _ _ _ c.args.inside.now (map placed c.inside.all.items) (map placed c.add_inner.new.all.items) c.inside.number c.in_ok-number-2.number c.inside.index c.index-inside-index.result
      c.inside-test.true c.index-inside-index.is (subst (λ (bs : List Around). Adds (map (λ a. head_of a.head.now) bs) c.inside.number (inner_before c.index-inside-index.result) (map placed c.inside.all.items) c.in_ok-number-2.number (map placed c.add_inner.new.all.items)) c.as_slice.ensures.value c.in_ok-number-2.ensures.added) c.inside.invariant.0,
  λ numbered. subst (λ (bs : List Around). AreNumberedBelow c.in_ok-number-2.number bs c.add_inner.new.all.items) c.as_slice.ensures.value (c.in_ok-number-2.ensures.numbered (subst (λ (bs : List Around). AreNumberedBelow c.inside.number bs c.inside.all.items) (sym c.as_slice.ensures.value) (c.inside.invariant.1 numbered))),
)

pub returns-clause-added : goal.returns-clause-added
returns-clause-added c =
    let inner_heads = map (λ h. head_of h.head.now) c.in_ok-heads.heads.items in
    let old = map placed c.args.all.now.items in
    let new = map placed c.inside.all.items in
    let parts = c.args.inside.now in
    let end : length parts ≤ c.inside.index = omega (arith, c.inside-test.false) in
    let walked = walk_ends inner_heads c.in_ok-number.number old parts new c.inside.number c.inside.index end c.inside.invariant.0 in
    adds_outer_block (head_of c.args.head.now) c.args.number c.inside.number parts old new
    (adds_within _ inner_heads c.in_ok-number.number _ c.inside.number (parts_from parts 0) old new (ap (map (λ a. head_of a.head.now)) c.in_ok-heads.ensures) c.in_ok-number.ensures walked)

pub returns-clause-numbered : goal.returns-clause-numbered
returns-clause-numbered c = λ numbered. ends_inside c.args.number _ [] c.in_ok-heads.heads.items c.inside.all.items _ c.in_ok-heads.ensures (c.inside.invariant.1 numbered)
