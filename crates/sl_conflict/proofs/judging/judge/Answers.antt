use Rattle.std.proofs.Common.{List, subst}
use Rattle.std.proofs.lemmas.Option.{MatchOption-at_none}
use Rattle.sl_cube_sets.specs.Sets.{IsSettled}
use Rattle.sl_cube_sets.specs.Unions.{has_set}
use Rattle.sl_cube_sets.specs.declared.CubeSet.{CubeSet}
use Rattle.sl_conflict.proofs.judging.judge.Goals as goal

pub returns-in-None-clause-settled : goal.returns-in-None-clause-settled
returns-in-None-clause-settled c =
    subst (λ (l : List CubeSet). IsSettled has_set l) c.as_slice.ensures.value (MatchOption-at_none _ _ c.in-None.is c.in_ok-told.ensures)
