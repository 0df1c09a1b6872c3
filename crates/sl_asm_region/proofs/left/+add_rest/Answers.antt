use Rattle.std.proofs.Common.{◌≡◌, length, arith, sym, ◌∙◌, inl, inr}
use Rattle.std.proofs.lemmas.Bool.{false≢true}
use Rattle.sl_cube.specs.Points.{InRange}
use Rattle.sl_cube.proofs.OutsideLemmas.{keeps_meeting}
use Rattle.sl_asm_region.proofs.LeftLemmas.{near_clear, covered_out, near_low, near_high, near_single, near_covered, adds_both}
use Rattle.sl_asm_region.proofs.left.+add_rest.Goals as goal
use Rattle.sl_asm_region.proofs.left.+add_rest.Goals.{then-is_in_one-via-then-is_in_one, then-is_in_one-via-else-is_in_one+then-is_in_one-2}

pub returns-then-is_in_one : goal.returns-then-is_in_one
returns-then-is_in_one t c = elim c.then-is_in_one.branch [
  | then-is_in_one-via-then-is_in_one w ↦ covered_out c.args.cubes.now c.args.others.now c.args.near.now c.args.region.now c.args.out.now.items c.requires.keeps
      (inl (rw c.deref.ensures.value at (c.is_in_one.ensures w.if-is_in_one.true)))
  | then-is_in_one-via-else-is_in_one+then-is_in_one-2 w ↦ covered_out c.args.cubes.now c.args.others.now c.args.near.now c.args.region.now c.args.out.now.items c.requires.keeps
      (inr (w.is_in_one-else-is_in_one.ensures w.if-is_in_one-2.true))
]

pub returns-then-is_in_some : goal.returns-then-is_in_some
returns-then-is_in_some t c =
    let range : InRange c.least.result = (omega arith, omega arith) in
    let has = rw c.deref-in_default.ensures.value at c.is_in_some.ensures in
    near_covered c.args.cubes.now c.args.others.now c.args.near.now c.in_ok-kept.kept.items c.args.region.now c.least.result c.args.out.now.items c.requires (keeps_meeting c.args.region.now c.args.near.now c.in_ok-kept.kept.items c.in_ok-kept.ensures)
    c.in_default.ensures range c.least.ensures.0 (has.0 c.if-is_in_some.true)

pub add_clear-requires-in_default : goal.add_clear-requires-in_default
add_clear-requires-in_default t c =
    let range : InRange c.least.result = (omega arith, omega arith) in
    let has = rw c.deref-in_default.ensures.value at c.is_in_some.ensures in
    near_single c.args.cubes.now c.args.others.now c.args.near.now c.in_ok-kept.kept.items c.args.region.now c.least.result c.requires (keeps_meeting c.args.region.now c.args.near.now c.in_ok-kept.kept.items c.in_ok-kept.ensures)
    c.in_default.ensures range c.least.ensures.0 (λ some. false≢true (sym c.if-is_in_some.false ∙ has.1 some))

pub add_rest-requires : goal.add_rest-requires
add_rest-requires t c = (
  grind (arith, c.in-Some.ensures.low_narrower),
  rw c.deref-2.ensures.value (near_low c.args.cubes.now c.args.others.now c.args.near.now c.in_ok-kept.kept.items c.args.region.now c.in-Some.low c.in-Some.high c.requires (keeps_meeting c.args.region.now c.args.near.now c.in_ok-kept.kept.items c.in_ok-kept.ensures) c.in-Some.ensures),
)

pub add_rest-requires-2 : goal.add_rest-requires-2
add_rest-requires-2 t c = (
  grind (arith, c.in-Some.ensures.high_narrower),
  rw c.deref-3.ensures.value (near_high c.args.cubes.now c.args.others.now c.args.near.now c.in_ok-kept.kept.items c.args.region.now c.in-Some.low c.in-Some.high c.requires (keeps_meeting c.args.region.now c.args.near.now c.in_ok-kept.kept.items c.in_ok-kept.ensures) c.in-Some.ensures),
)

pub returns : goal.returns
returns t c = adds_both c.args.cubes.now c.args.others.now c.args.region.now c.in-Some.low c.in-Some.high c.args.out.now.items c.add_rest.new.out.items c.add_rest-2.new.out.items
    c.in-Some.ensures c.in_ok-add_rest.ensures c.in_ok-add_rest-2.ensures

pub add_clear-requires : goal.add_clear-requires
add_clear-requires t c =
    let none : length c.in_ok-kept.kept.items ≡ 0 = grind (arith, c.if-is_empty.ensures) in
    near_clear c.args.cubes.now c.args.others.now c.args.near.now c.in_ok-kept.kept.items c.args.region.now c.requires
    (keeps_meeting c.args.region.now c.args.near.now c.in_ok-kept.kept.items c.in_ok-kept.ensures) none
