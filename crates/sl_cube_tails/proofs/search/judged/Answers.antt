use Rattle.std.proofs.Common.{arith}
use Rattle.sl_cube.specs.Points.{InRange}
use Rattle.sl_cube_tails.proofs.SearchLemmas.{judged}
use Rattle.sl_cube_tails.proofs.search.judged.Goals as goal

pub returns-then-is_none : goal.returns-then-is_none
returns-then-is_none c =
    let range : InRange c.least-least.result = (omega arith, omega arith) in
    let found = rw c.deref.ensures.value at c.in_ok-found.ensures in
    (judged c.args.region.now c.args.tails.now c.args.covers.now c.in_ok-behind.behind.items c.least-least.result c.requires range c.least-least.ensures.0
    c.in_ok-behind.ensures c.in_ok-found.found found).0 c.if-is_none.ensures

pub returns : goal.returns
returns c =
    let range : InRange c.least-least.result = (omega arith, omega arith) in
    let found = rw c.deref.ensures.value at c.in_ok-found.ensures in
    (judged c.args.region.now c.args.tails.now c.args.covers.now c.in_ok-behind.behind.items c.least-least.result c.requires range c.least-least.ensures.0
    c.in_ok-behind.ensures c.in_ok-found.found found).1 c.if-is_none.ensures
