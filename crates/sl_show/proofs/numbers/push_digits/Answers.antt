use Rattle.std.proofs.Common.{◌++◌, ap, refl, ◌∙◌, arith, rules}
use Rattle.sl_show.proofs.NumberLemmas.{begun, last, one_more, room}
use Rattle.sl_show.proofs.numbers.push_digits.Goals as goal

pub digits-init : goal.digits-init
digits-init c = record { size = refl; within = omega arith; fits = c.ranges.number.fits; rest = begun c.args.number }

pub digits-preserved : goal.digits-preserved
digits-preserved c =
    let more = c.digits-test.true in
    let i = c.digits.invariant in
    let place = room c.digits.at c.digits.left more i.fits in record {
      size = search (rules, i.size);
      within = omega (arith, i.within);
      fits = place.1;
      rest = one_more c.digits.at c.digits.left c.digits.buffer _ i.size i.within i.rest c.glyph.result c.glyph.ensures more place.0;
    }

pub returns : goal.returns
returns c =
    let i = c.digits.invariant in
    let written = last c.digits.at c.digits.left c.digits.buffer _ i.size i.within i.rest c.glyph-2.result c.glyph-2.ensures c.digits-test.false in
    c.in_ok-extend_from_slice.ensures.items ∙ ap (λ text. c.args.out.now.items ++ text) (c.split_at.ensures.back ∙ written)
