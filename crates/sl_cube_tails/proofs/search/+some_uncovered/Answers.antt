use Rattle.std.proofs.Common.{sym, subst}
use Rattle.sl_cube_tails.specs.Covers.{IsSomeFound}
use Rattle.sl_cube_tails.proofs.SearchLemmas.{none_left, found_first, found_second, is_none_found, not_none}
use Rattle.sl_cube_tails.proofs.search.+some_uncovered.Goals as goal

pub returns-then-covers_all : goal.returns-then-covers_all
returns-then-covers_all t c = none_left c.args.region.now c.args.tails.now c.args.covers.now (c.covers_all.ensures c.if-covers_all.true)

pub returns-then-is_some : goal.returns-then-is_some
returns-then-is_some t c =
    let answer = rw c.deref.ensures.value at c.in_ok-found.ensures in
    found_first c.args.region.now c.in-Some.low c.in-Some.high c.args.tails.now c.args.covers.now c.in_ok-in_low.in_low.items c.in_ok-found.found c.in-Some.ensures
    c.in_ok-in_low.ensures answer (not_none c.in_ok-found.found (sym c.if-is_some.ensures))

pub returns : goal.returns
returns t c =
    let none = subst (IsSomeFound c.in-Some.low c.args.tails.now c.in_ok-in_low.in_low.items) (is_none_found c.in_ok-found.found c.if-is_some.ensures)
    (rw c.deref.ensures.value at c.in_ok-found.ensures) in
    let high = rw c.deref-2.ensures.value at c.in_ok-answer-2.ensures in
    found_second c.args.region.now c.in-Some.low c.in-Some.high c.args.tails.now c.args.covers.now c.in_ok-in_low.in_low.items c.in_ok-in_high.in_high.items
    c.in_ok-answer-2.answer c.in-Some.ensures c.in_ok-in_low.ensures c.in_ok-in_high.ensures none high
