use Rattle.sl_cube_sets.proofs.ReportLemmas.{settled_there, unsettled_there, unsettled_back}
use Rattle.sl_cube_sets.proofs.report.first_unsettled.Goals as goal

pub returns-in_default : goal.returns-in_default
returns-in_default c =
    let found = rw c.in_default.is at c.in_ok-found.ensures in
    λ p range. settled_there c.args.sets.now p (found p range)

pub returns : goal.returns
returns c =
    let sets = c.args.sets.now in
    let found = rw c.in-Some.is at c.in_ok-found.ensures in
    record {
      point = record {
        in_range = found.0;
        here = unsettled_there sets c.in-Some.both found.1;
        least = λ q range u. found.2 q range (unsettled_back sets q u);
      };
      pair = record { here = c.in_ok-first.ensures.0; none_before = c.in_ok-first.ensures.1 };
      apart = c.in_ok-apart.ensures;
    }
