use Rattle.std.proofs.Common.{rules, tests}
use Rattle.std.proofs.lemmas.Iterator.{cases_from_any, YieldsList-from_slice}
use Rattle.sl_cube.specs.Points.{IsIn}
use Rattle.sl_cube.proofs.OutsideLemmas.{in_some_from_any}
use Rattle.sl_cube.proofs.outside.is_in_some.Goals as goal

pub returns : goal.returns
returns c =
    let p = c.args.point.now in
    in_some_from_any c.args.cubes.now p _
    (cases_from_any _ _ _ (λ other. IsIn p other) (λ other. IsIn p other → ⊥) c.any.ensures.ran (YieldsList-from_slice c.args.cubes.now cc) (λ x q k. search (rules, tests)) (λ x q k. search (rules, tests)))
